use native.Mathlib.Omega.{arith}
use Rattle.forms.proofs.Answers.{format_small, plan_signed}
use Rattle.probes.proofs.probe_format.Goals as goal

pub signed-requires : goal.signed-requires
signed-requires c = format_small _ _ _ (omega arith) c.format.ensures

pub returns : goal.returns
returns c = plan_signed (record { sfits = c.signed.type_inv }) c.signed.ensures c.format.ensures
