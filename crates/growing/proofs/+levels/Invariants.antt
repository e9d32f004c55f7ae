use Rattle.growing.proofs.+levels.Given as goal

abbrev pub decreases-levels : goal.decreases-levels
decreases-levels g l = l.d
