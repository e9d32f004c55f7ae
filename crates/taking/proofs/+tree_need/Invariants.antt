use Rattle.taking.proofs.+tree_need.Given as goal

abbrev pub decreases-tree_need : goal.decreases-tree_need
decreases-tree_need g l = l.h
