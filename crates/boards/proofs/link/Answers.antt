use mathlib.Core.Path.{sym, ◌∙◌}
use native.Mathlib.Omega.{arith}
use Rattle.model.specs.Tree.{link}
use Rattle.model.specs.Layout.{layout_of}
use Rattle.model.proofs.Agree.{link_cell}
use Rattle.kinds.proofs.Figures.{words_pos}
use Rattle.boards.proofs.link.Goals as goal

pub returns-then-block-eq0 : goal.returns-then-block-eq0
unfolding link
returns-then-block-eq0 g c = rw c.if-block-eq0.true

pub returns : goal.returns
returns g c = let a = c.args in
    c.cell.ensures ∙ rw (← g.met.L.Layout.figures.bits.is) (sym (link_cell (layout_of g.L.Layout.kind).words (words_pos g.L.Layout.kind) a.board.now a.block a.j (omega (arith, c.if-block-eq0.false))))
