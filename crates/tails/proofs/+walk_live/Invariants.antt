use Rattle.tails.proofs.+walk_live.Given as goal

abbrev pub decreases-walk_live : goal.decreases-walk_live
decreases-walk_live g l = l.h
