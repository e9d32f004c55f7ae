use Rattle.taking.proofs.+whole.Given as goal

abbrev pub decreases-whole : goal.decreases-whole
decreases-whole g l = l.h
