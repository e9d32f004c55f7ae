use mathlib.Core.Path.{◌∙◌, ap}
use mathlib.Core.List.{List, ◌++◌}
use Prim.Native.Nat.{ℕ}
use lib.ListN.{drop}
use Rattle.words.proofs.Endian.{le_bytes}
use Rattle.words.proofs.spread.Goals as goal

pub returns : goal.returns
returns c = record { is = ap (λ (l : List ℕ). l ++ drop 8 c.args.out.now) (c.copy_from_slice.ensures.after ∙ c.to_le_bytes.ensures ∙ le_bytes c.args.x) }
