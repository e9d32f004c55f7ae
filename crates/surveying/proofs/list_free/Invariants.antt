use Rattle.surveying.proofs.Listing as Listing
use Rattle.surveying.proofs.list_free.Given as goal

abbrev pub invariant-loop-k : goal.invariant-loop-k
invariant-loop-k l = Listing.ListedBelow l.marks l.top l.initial.table l.k l.table l.count
