use native.Mathlib.Omega.{arith}
use Rattle.reading.proofs.Bounds.{free_small}
use Rattle.forms.proofs.Answers.{as_signed}
use Rattle.model.specs.Layout.{Published}
use Rattle.probes.proofs.probe_free_count.Goals as goal

pub signed-requires : goal.signed-requires
signed-requires c = free_small Published _ (omega arith) c.free_count.ensures

pub returns : goal.returns
returns c = as_signed (record { sfits = c.signed.type_inv }) c.signed.ensures c.free_count.ensures
