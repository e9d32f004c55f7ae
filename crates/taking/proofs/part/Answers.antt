use Rattle.std.proofs.Common.{arith}
use Rattle.std.proofs.lemmas.List.{take_min, drop_min}
use Rattle.std.proofs.lemmas.Grind.{common_steps}
use Rattle.model.specs.Fresh.{part}
use Rattle.taking.proofs.part.Goals as goal

pub returns : goal.returns
unfolding part
returns c = grind (arith, common_steps, take_min, drop_min)
