use Rattle.reading.proofs.Bounds.{check_small}
use Rattle.forms.proofs.Answers.{as_signed}
use Rattle.probes.proofs.probe_check.Goals as goal

pub signed-requires : goal.signed-requires
signed-requires c = check_small _ _ c.check.ensures

pub returns : goal.returns
returns c = as_signed (record { sfits = c.signed.type_inv }) c.signed.ensures c.check.ensures
