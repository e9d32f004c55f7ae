use mathlib.Core.Path.{◌∙◌}
use native.Mathlib.Omega.{arith}
use Rattle.trees.proofs.Ending.{end_null, end_here}
use Rattle.trees.proofs.walk.Goals as goal

pub returns-then-block-eq0 : goal.returns-then-block-eq0
returns-then-block-eq0 g c = end_null c.reached-block.result 1 c.if-block-eq0.true ∙ c.reached-block.ensures

pub returns : goal.returns
returns g c = end_here c.reached-block.result 1 c.if-block-eq0.false (omega arith) ∙ c.reached-block.ensures
