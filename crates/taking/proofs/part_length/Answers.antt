use native.Mathlib.Omega.{arith}
use Rattle.model.specs.Fresh.{part_length}
use Rattle.taking.proofs.part_length.Goals as goal

pub returns : goal.returns
unfolding part_length
returns c = omega arith
