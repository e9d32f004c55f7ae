use Rattle.model.specs.Lister.{word_refused}
use Rattle.text.proofs.Writing.{none, lined}
use Rattle.text.proofs.Text.refused_line.Goals as goal

pub returns : goal.returns
returns c = lined word_refused c.args.number c.push_number.ensures none c.push_str.ensures
