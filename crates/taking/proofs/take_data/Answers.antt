use mathlib.Core.Path.{◌≡◌, sym, ap, ◌∙◌}
use Prim.Native.Nat.{◌+◌, ◌*◌, ◌^◌}
use native.Mathlib.Omega.{arith}
use lib.ListN.{length}
use Rattle.model.specs.Lists.{tabulate}
use Rattle.model.specs.Store.{laid}
use Rattle.words.proofs.Widths as Widths
use Rattle.plans.specs.Onto.{onto}
use Rattle.plans.proofs.Laying.{laid_none, laid_more, length_laid}
use Rattle.taking.proofs.Taken as Taken
use Rattle.taking.proofs.WholeTrees.{all_of, new_page}
use Rattle.taking.proofs.take_data.Goals as goal

-- The loop has laid the stores of the words before j.

pub returns-then-plan-p : goal.returns-then-plan-p
returns-then-plan-p g c = Taken.off c.place-p.ensures c.if-plan-p.true

pub returns-then-all_written : goal.returns-then-all_written
returns-then-all_written g c = let a = c.args in
    let all : (a.under.offset ≡ 0) × (length a.new.now ≡ 8 * 2 ^ g.B.BlockSize.BITS) = all_of _ _ _ (sym c.if-all_written.true ∙ c.all_written.ensures) in
    Taken.one c.place-p.ensures c.pointer-to.ensures.is
    (c.lay_new.ensures ∙ ap (laid a.plan.now c.place-p.result) (new_page (2 ^ g.B.BlockSize.BITS) (onto (2 ^ g.B.BlockSize.BITS) a.view.now.free.now a.view.now.board.now a.view.now.grown) c.pointer-to.result a.under.tree.block a.under.tree.left a.new.now all.0 all.1))

pub loop-j-init : goal.loop-j-init
unfolding tabulate
loop-j-init g c = sym (laid_none _ _)

pub loop-j-preserved : goal.loop-j-preserved
loop-j-preserved g c = c.pair.ensures ∙ rw (c.data_word.ensures, c.again-own.ensures.0, c.again-own.ensures.1, c.again-own.ensures.2, c.loop-j.invariant) (sym (laid_more _ _ _ _))

pub returns : goal.returns
returns g c =
    let all : c.loop-j.j ≡ 2 ^ g.B.BlockSize.BITS = omega (arith, c.width-w.ensures.is) in
    Taken.one c.place-p.ensures c.pointer-to.ensures.is (rw all at c.loop-j.invariant)

pub lay_new-requires : goal.lay_new-requires
lay_new-requires g c =
    let a = c.args in
    let all : (a.under.offset ≡ 0) × (length a.new.now ≡ 8 * 2 ^ g.B.BlockSize.BITS) = all_of _ _ _ (sym c.if-all_written.true ∙ c.all_written.ensures) in
    (omega (arith, c.requires, c.place-p.ensures), omega (arith, c.pointer-to.ensures.small), omega (arith, all.1, Widths.most g.B.BlockSize.width))
