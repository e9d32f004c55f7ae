use mathlib.Core.Path.{◌∙◌}
use native.Mathlib.Nat.{add-zero}
use Rattle.model.specs.Board.{root}
use Rattle.boards.proofs.root.Goals as goal

pub returns : goal.returns
unfolding root
returns g c = c.inode_word.ensures ∙ rw (add-zero _)
