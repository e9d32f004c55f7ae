use native.Mathlib.Omega.{arith}
use Rattle.forms.proofs.Answers.{perform_small, as_signed}
use Rattle.probes.proofs.probe_perform.Goals as goal

pub signed-requires : goal.signed-requires
signed-requires c = perform_small _ (omega arith) c.perform.ensures

pub returns : goal.returns
returns c = let k = c.perform.ensures in record { answer = as_signed (record { sfits = c.signed.type_inv }) c.signed.ensures k.answer; board = k.board }
