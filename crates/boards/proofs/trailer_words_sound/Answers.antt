use mathlib.Core.Path.{sym, ◌∙◌}
use native.Mathlib.Omega.{arith}
use lib.ListN.{length}
use Rattle.model.specs.Layout.{layout_of}
use Rattle.model.specs.Board.{block_count}
use Rattle.model.proofs.Formatted.{fits}
use Rattle.kinds.proofs.Figures.{words_pos}
use Rattle.boards.proofs.Trailing.{trailer_room, trailer_zeros, trailer_figures}
use Rattle.boards.proofs.trailer_words_sound.Goals as goal

pub returns-then-not-figures_sound : goal.returns-then-not-figures_sound
returns-then-not-figures_sound g c = let a = c.args in
    trailer_figures (layout_of g.L.Layout.kind) (fits g.L.Layout.kind) a.board.now c.figures_sound.ensures (c.if-not-figures_sound.true)

pub start_in-at-requires : goal.start_in-at-requires
unfolding block_count
start_in-at-requires g c = let a = c.args in
    rw c.last.ensures (omega (arith, words_pos g.L.Layout.kind, trailer_room g.L.Layout.kind (length a.board.now) (omega arith)))

pub returns : goal.returns
returns g c = let a = c.args in
    c.zeros.ensures ∙ trailer_zeros (layout_of g.L.Layout.kind) (fits g.L.Layout.kind) a.board.now (rw (c.start_in-at.ensures, c.last.ensures)) c.words_in.ensures.is
    (sym c.figures_sound.ensures ∙ c.if-not-figures_sound.false)
