use Rattle.model.specs.Board.{size_address, size}
use Rattle.boards.proofs.size.Goals as goal

pub returns : goal.returns
unfolding size size_address
returns g c = c.inode_word.ensures
