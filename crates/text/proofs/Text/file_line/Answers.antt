use Rattle.model.specs.Lister.{word_file, field}
use Rattle.text.proofs.Writing.{both, lined}
use Rattle.text.proofs.Text.file_line.Goals as goal

pub returns : goal.returns
unfolding field
returns c =
    let fields = both (both c.push_number-2.ensures c.push_number-3.ensures) c.push_number-4.ensures in
    lined word_file c.args.number c.push_number.ensures fields c.push_str.ensures
