use mathlib.Core.Path.{ap}
use Prim.Native.Nat.{ℕ}
use lib.Dec.{eqb}
use Rattle.surveying.proofs.spare.Goals as goal

pub returns : goal.returns
returns c = ap (λ (x : ℕ). eqb x 0) c.word.ensures
