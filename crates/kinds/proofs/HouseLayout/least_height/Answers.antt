use mathlib.Core.Path.{◌∙◌}
use Prim.Native.Nat.{◌≤◌}
use Rattle.model.specs.Tree.{span}
use Rattle.model.specs.Board.{greatest}
use Rattle.bands.proofs.Bands.{least_rule}
use Rattle.kinds.proofs.HouseLayout.least_height.Goals as goal

-- no end is off the sheet
pub returns : goal.returns
unfolding greatest span
returns c = let l : c.args.e ≤ 32768 = c.requires in c.least_height.ensures ∙ least_rule c.args.e l
