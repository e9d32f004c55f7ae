use Rattle.shadows.proofs.+descend.Given as goal

abbrev pub decreases-descend : goal.decreases-descend
decreases-descend g l = l.spot.tree.height
