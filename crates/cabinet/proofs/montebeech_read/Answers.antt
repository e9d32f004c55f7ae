use native.Mathlib.Omega.{arith}
use Rattle.model.specs.Layout.{House}
use Rattle.reading.proofs.Bounds.{read_small}
use Rattle.cabinet.proofs.Answers.{read}
use Rattle.cabinet.proofs.montebeech_read.Goals as goal

pub signed-requires : goal.signed-requires
signed-requires c = read_small House _ (omega arith) c.read.ensures

pub returns : goal.returns
returns c = read c.args.image.now c.load-board.ensures (record { sfits = c.signed.type_inv }) c.signed.ensures c.read.ensures
