use native.Mathlib.Omega.{arith}
use Rattle.model.specs.Tree.{shown}
use Rattle.words.proofs.Filling
use Rattle.files.proofs.Whole
use Rattle.files.proofs.copy_piece.Goals as goal

pub loop-b-init : goal.loop-b-init
loop-b-init g c = Filling.none

pub loop-b-preserved : goal.loop-b-preserved
unfolding shown
loop-b-preserved g c = Filling.step c.loop-b.invariant (omega arith) (rw c.in-None.is)

pub returns-after-loop-b : goal.returns-after-loop-b
returns-after-loop-b g c = Whole.full (omega arith) c.loop-b.invariant
