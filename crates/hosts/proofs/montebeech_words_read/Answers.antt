use native.Mathlib.Omega.{arith}
use Rattle.reading.proofs.Bounds.{read_small}
use Rattle.forms.proofs.Answers.{as_signed}
use Rattle.model.specs.Layout.{House}
use Rattle.hosts.proofs.montebeech_words_read.Goals as goal

pub signed-requires : goal.signed-requires
signed-requires c = read_small House _ (omega arith) c.read.ensures

pub returns : goal.returns
returns c = let k = c.read.ensures in record { answer = as_signed (record { sfits = c.signed.type_inv }) c.signed.ensures k.answer; buffer = k.buffer }
