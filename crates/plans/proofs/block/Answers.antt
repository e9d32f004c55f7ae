use mathlib.Core.Path.{◌≡◌, sym, ap, ◌∙◌}
use Prim.Native.Nat.{◌+◌, ◌*◌, ◌^◌}
use native.Mathlib.Omega.{arith}
use borrow.Author.Rules.{rules}
use lib.ListN.{length, get_or}
use Rattle.model.specs.Lists.{tabulate}
use Rattle.model.specs.Store.{store}
use Rattle.words.proofs.Widths as Widths
use Rattle.plans.specs.Laying.{block_stores}
use Rattle.plans.proofs.Laying.{laid_none, laid_more, laid_out, length_laid}
use Rattle.plans.proofs.block.Goals as goal

pub loop-j-init : goal.loop-j-init
unfolding tabulate
loop-j-init g c = sym (laid_none _ _)

pub loop-j-preserved : goal.loop-j-preserved
loop-j-preserved g c =
    let a = c.args in
    cc (laid_more a.plan.now a.p c.loop-j.j (λ i. store (2 ^ g.B.BlockSize.BITS * a.k + i) (get_or a.page.now i 0)))

pub returns-after-loop-j : goal.returns-after-loop-j
unfolding block_stores
returns-after-loop-j g c =
    let all : c.loop-j.j ≡ 2 ^ g.B.BlockSize.BITS = omega (arith, c.width-w.ensures.is) in
    rw all at c.loop-j.invariant

pub returns-else-p-plan : goal.returns-else-p-plan
returns-else-p-plan g c = sym (laid_out _ _ _ c.if-p-plan.false)
