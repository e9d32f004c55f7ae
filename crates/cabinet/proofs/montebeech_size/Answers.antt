use Rattle.model.specs.Layout.{House}
use Rattle.reading.proofs.Bounds.{size_small}
use Rattle.cabinet.proofs.Answers.{sized}
use Rattle.cabinet.proofs.montebeech_size.Goals as goal

pub signed-requires : goal.signed-requires
signed-requires c = size_small House _ _ c.size.ensures

pub returns : goal.returns
returns c = sized c.args.image.now c.load-board.ensures (record { sfits = c.signed.type_inv }) c.signed.ensures _ c.size.ensures
