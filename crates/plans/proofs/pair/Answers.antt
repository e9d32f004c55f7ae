use mathlib.Core.Path.{sym, ◌∙◌}
use Prim.Native.Nat.{◌+◌, ◌*◌}
use native.Mathlib.Omega.{arith}
use lib.ListN.{set, length-set}
use lib.Seq.{set_out}
use Rattle.plans.proofs.Laying.{laid_one, laid_out}
use Rattle.plans.proofs.pair.Goals as goal

pub returns-then-p-n : goal.returns-then-p-n
returns-then-p-n c = let a = c.args in sym (laid_one a.plan.now a.p a.at a.value)

-- half a pair: its value falls off the slice
pub returns-then-p-n-2 : goal.returns-then-p-n-2
returns-then-p-n-2 c = let a = c.args in
    c.put.ensures
    ∙ sym (laid_one a.plan.now a.p a.at a.value ∙ set_out (set a.plan.now (2 * a.p) a.at) (2 * a.p + 1) a.value (simp length-set (omega (arith, c.if-p-n.false))))

pub returns-else-p-n-2 : goal.returns-else-p-n-2
returns-else-p-n-2 c = sym (laid_out _ _ _ c.if-p-n-2.false)
