use Rattle.surveying.proofs.Listing as Listing
use Rattle.surveying.proofs.list_free.Goals as goal
use Rattle.surveying.proofs.list_free.Goals.{then-spare, else-spare}

pub loop-k-preserved : goal.loop-k-preserved
loop-k-preserved c = let t = c.loop-k-test.true in
    elim c.if-spare.branch [
      | then-spare w ↦ rw (w.table-is, w.count-is) (Listing.listed c.loop-k.invariant t c.spare.ensures c.requires w.if-spare.true w.put.ensures)
      | else-spare w ↦ rw (w.table-is, w.count-is) (Listing.passed c.loop-k.invariant t c.spare.ensures w.if-spare.false)
    ]

pub returns : goal.returns
returns c = Listing.end c.loop-k.invariant c.loop-k-test.false
