use native.Mathlib.Omega.{arith}
use Rattle.forms.proofs.Answers.{write_small, plan_signed}
use Rattle.hosts.proofs.montebeech_words_write.Goals as goal

pub signed-requires : goal.signed-requires
signed-requires c = write_small _ _ _ (omega arith) _ _ _ c.write.ensures

pub returns : goal.returns
returns c = plan_signed (record { sfits = c.signed.type_inv }) c.signed.ensures c.write.ensures
