use native.Mathlib.Omega.{arith}
use Rattle.forms.proofs.Answers.{length_small, plan_signed}
use Rattle.probes.proofs.probe_set_length.Goals as goal

pub signed-requires : goal.signed-requires
signed-requires c = length_small _ _ _ (omega arith) _ _ c.set_length.ensures

pub returns : goal.returns
returns c = plan_signed (record { sfits = c.signed.type_inv }) c.signed.ensures c.set_length.ensures
