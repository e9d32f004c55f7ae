use Prim.Native.Nat.{◌≤◌, ◌<◌}
use native.Mathlib.Omega.{arith}
use borrow.Author.Tests.{le-leb, lt-leb}
use Rattle.model.specs.Tree.{span, least}
use Rattle.kinds.proofs.published_height.Goals as goal

pub returns-in-0-to-4096 : goal.returns-in-0-to-4096
unfolding least span
returns-in-0-to-4096 c = let l : c.args.e ≤ 4096 = omega arith in rw (le-leb c.args.e 4096 l)

pub returns-in_default : goal.returns-in_default
unfolding least span
returns-in_default c = let l : 4096 < c.args.e = omega arith in rw (lt-leb c.args.e 4096 l)
