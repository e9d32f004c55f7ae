use native.Mathlib.Omega.{arith}
use Rattle.trees.proofs.Reaching.{house_reach}
use Rattle.listing.proofs.Listing.{no_line, one_line}
use Rattle.listing.proofs.file.Goals as goal

pub returns-then-n-eq0 : goal.returns-then-n-eq0
returns-then-n-eq0 c = let a = c.args in no_line a.board.now a.f c.size-n.ensures c.if-n-eq0.true

pub held_count-held-requires : goal.held_count-held-requires
held_count-held-requires c = house_reach _ (omega (arith, c.low_in-height.ensures))

pub returns : goal.returns
returns c =
    let a = c.args in
    one_line a.board.now a.f c.size-n.ensures c.if-n-eq0.false c.root-root.ensures (rw (c.low_in-height.ensures, c.block_in.ensures) at c.held_count-held.ensures)
    (rw c.low_in-height.ensures at c.file_line.ensures)
