use mathlib.Core.Path.{◌∙◌}
use Rattle.model.specs.Layout.{layout_of}
use Rattle.model.specs.Board.{inode_block}
use Rattle.model.proofs.Formatted.{fits}
use Rattle.boards.proofs.Trailing.{spare_zeros}
use Rattle.boards.proofs.spares_sound.Goals as goal

pub returns : goal.returns
unfolding inode_block
returns g c = let a = c.args in
    c.zeros.ensures ∙ spare_zeros (layout_of g.L.Layout.kind) (fits g.L.Layout.kind) a.board.now (rw (c.start_in-at.ensures, c.block_in.ensures, c.trailer.ensures)) (c.LEAVES.ensures ∙ g.met.L.Layout.figures.leaves) c.words_in.ensures.is
