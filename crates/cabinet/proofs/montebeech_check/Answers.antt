use Rattle.reading.proofs.Bounds.{check_small}
use Rattle.cabinet.proofs.Answers.{checked}
use Rattle.cabinet.proofs.montebeech_check.Goals as goal

pub signed-requires : goal.signed-requires
signed-requires c = check_small _ _ c.check.ensures

pub returns : goal.returns
returns c = checked c.args.image.now c.load-board.ensures (record { sfits = c.signed.type_inv }) c.signed.ensures c.check.ensures
