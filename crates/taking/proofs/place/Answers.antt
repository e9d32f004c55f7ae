use native.Mathlib.Omega.{arith}
use borrow.Author.Rules.{rules}
use Rattle.taking.proofs.place.Goals as goal

pub returns : goal.returns
returns g c = rw c.start_of.ensures
