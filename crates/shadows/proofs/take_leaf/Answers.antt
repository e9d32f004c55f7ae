use mathlib.Core.Path.{◌≡◌, sym, ap, ◌∙◌}
use Prim.Native.Nat.{◌+◌, ◌^◌}
use native.Mathlib.Omega.{arith}
use lib.ListN.{length}
use Rattle.model.specs.Lists.{tabulate}
use Rattle.plans.proofs.Laying.{laid_none, laid_more, length_laid}
use Rattle.taking.proofs.Taken as Taken
use Rattle.shadows.proofs.take_leaf.Goals as goal

-- The loop has laid the stores of the words before j.

pub returns-then-plan-p : goal.returns-then-plan-p
returns-then-plan-p g c = Taken.off c.place-p.ensures c.if-plan-p.true

pub loop-j-init : goal.loop-j-init
unfolding tabulate
loop-j-init g c = sym (laid_none _ _)

pub loop-j-preserved : goal.loop-j-preserved
loop-j-preserved g c = c.pair.ensures ∙ rw (c.leaf_word.ensures, c.again-own.ensures.0, c.again-own.ensures.1, c.again-own.ensures.2, c.loop-j.invariant) (sym (laid_more _ _ _ _))

pub returns : goal.returns
returns g c =
    let all : c.loop-j.j ≡ 2 ^ g.B.BlockSize.BITS = omega (arith, c.width-w.ensures.is) in
    Taken.one c.place-p.ensures c.pointer-to.ensures.is (rw all at c.loop-j.invariant)
