use mathlib.Core.Path.{◌∙◌}
use Rattle.model.specs.Board.{linked_leaf}
use Rattle.boards.proofs.linked_leaf.Goals as goal

pub returns : goal.returns
unfolding linked_leaf
returns g c = c.block_in.ensures ∙ rw (c.link-2.ensures, c.leaf_in.ensures, c.block_in-k.ensures, c.link.ensures, c.last.ensures)
