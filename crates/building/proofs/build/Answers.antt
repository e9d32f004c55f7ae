use mathlib.Core.Path.{sym, ◌∙◌}
use lib.Pow.{pow_pos}
use Rattle.building.proofs.Trees as Trees
use Rattle.building.proofs.build.Goals as goal

pub returns-then-not-touched : goal.returns-then-not-touched
returns-then-not-touched g c = Trees.none _ (pow_pos _) _ _ _ _ _ _ _ (sym c.touched.ensures ∙ c.if-not-touched.true)
