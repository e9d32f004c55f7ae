use mathlib.Core.Logic.{inl, inr}
use Prim.Native.Nat.{◌^◌}
use native.Mathlib.Omega.{arith}
use borrow.Author.Tests.{eq-eqb, ne_eqb}
use Rattle.model.proofs.Cases.{decide}
use Rattle.model.proofs.Paths.{touched_new, untouched_within}
use Rattle.taking.proofs.child_touched.Goals as goal

pub returns : goal.returns
returns g c = let a = c.args in elim (decide a.l 0) [
  | inl e ↦ rw (eq-eqb a.l 0 e, untouched_within (2 ^ g.B.BlockSize.BITS) a.tree.height a.tree.block a.tree.left a.o a.l e (c.requires.1 c.if-gap.false))
  | inr z ↦ rw (ne_eqb a.l 0 z, touched_new (2 ^ g.B.BlockSize.BITS) a.tree.height a.tree.block a.tree.left a.o a.l (omega arith))
]
