use mathlib.Core.Path.{◌∙◌}
use Rattle.model.specs.Board.{inode_block, inode_pointer}
use Rattle.boards.proofs.inode_pointer.Goals as goal

pub returns : goal.returns
unfolding inode_pointer inode_block
returns g c = c.cell.ensures ∙ rw (c.block_in-k.ensures, c.trailer.ensures, g.met.L.Layout.figures.bits.is)
