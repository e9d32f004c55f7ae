use Rattle.reading.proofs.Bounds.{size_small}
use Rattle.forms.proofs.Answers.{as_signed}
use Rattle.model.specs.Layout.{House}
use Rattle.hosts.proofs.montebeech_words_size.Goals as goal

pub signed-requires : goal.signed-requires
signed-requires c = size_small House _ _ c.size.ensures

pub returns : goal.returns
returns c = as_signed (record { sfits = c.signed.type_inv }) c.signed.ensures c.size.ensures
