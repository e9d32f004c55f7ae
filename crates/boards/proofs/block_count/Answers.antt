use Rattle.model.specs.Board.{block_count}
use Rattle.boards.proofs.block_count.Goals as goal

pub returns : goal.returns
unfolding block_count
returns g c = c.block_in.ensures
