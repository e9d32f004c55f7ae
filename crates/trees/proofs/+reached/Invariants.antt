use Rattle.trees.proofs.+reached.Given as goal

abbrev pub decreases-reached : goal.decreases-reached
decreases-reached g l = l.h
