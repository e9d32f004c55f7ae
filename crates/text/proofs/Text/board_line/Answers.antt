use Rattle.model.specs.Lister.{word_blocks, field}
use Rattle.text.proofs.Writing.{lined}
use Rattle.text.proofs.Text.board_line.Goals as goal

pub returns : goal.returns
unfolding field
returns c = lined word_blocks c.args.blocks c.push_number.ensures c.push_number-2.ensures c.push_str.ensures
