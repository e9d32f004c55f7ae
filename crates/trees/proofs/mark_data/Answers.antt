use mathlib.Core.Path.{refl}
use Prim.Native.Nat.{◌^◌, ◌≤◌, ◌<◌}
use native.Mathlib.Omega.{arith}
use Rattle.trees.proofs.Marking
use Rattle.trees.proofs.Crawling
use Rattle.trees.proofs.mark_data.Goals as goal
use Rattle.trees.proofs.mark_data.Goals.{else-block-ne0-via-then-block-ne0+else-not-claim, else-block-ne0-via-else-block-ne0}

-- The loop has marked the data blocks of the pointers below i.

pub loop-i-init : goal.loop-i-init
loop-i-init g c = Marking.start

pub returns-then-n-i : goal.returns-then-n-i
returns-then-n-i g c = let a = c.args in
    let u : c.loop-i.i ≤ 2 ^ g.B.BlockSize.BITS = omega (arith, c.width-w.ensures.is) in
    record { crawled = Crawling.kids_dead (2 ^ g.B.BlockSize.BITS) a.top a.board.now 0 a.k a.n c.loop-i.i c.span-s.ensures.is c.loop-i.invariant c.if-n-i.true u }

pub returns-then-low_of-ne0 : goal.returns-then-low_of-ne0
returns-then-low_of-ne0 g c = let a = c.args in
    let u : c.loop-i.i < 2 ^ g.B.BlockSize.BITS = omega (arith, c.width-w.ensures.is) in
    let kid = Crawling.kid_low (2 ^ g.B.BlockSize.BITS) a.top a.board.now 0 a.k a.n c.loop-i.i c.span-s.ensures.is c.cell-pointer.ensures c.low_of.ensures
    c.if-n-i.false c.if-low_of-ne0.true in
    record { crawled = Marking.stop {m₂ = c.loop-i.marks} c.loop-i.invariant kid u refl }

pub returns-then-not-claim : goal.returns-then-not-claim
returns-then-not-claim g c = let a = c.args in
    let q = c.if-n-i.false in
    let u : c.loop-i.i < 2 ^ g.B.BlockSize.BITS = omega (arith, c.width-w.ensures.is) in
    let z = c.if-not-claim.true in
    let kid = Crawling.kid_live (2 ^ g.B.BlockSize.BITS) a.top a.board.now 0 a.k a.n c.loop-i.i c.span-s.ensures.is c.cell-pointer.ensures c.low_of.ensures
    q c.block_of-block.ensures c.if-low_of-ne0.false (Crawling.refused (λ e. omega (arith, q)) c.if-block-ne0.true c.claim.ensures z) in
    record { crawled = Marking.stop {m₂ = c.loop-i.marks} c.loop-i.invariant kid u refl }

pub loop-i-preserved : goal.loop-i-preserved
loop-i-preserved g c = let a = c.args in
    let q = c.if-n-i.false in
    elim c.else-block-ne0.branch [
      | else-block-ne0-via-then-block-ne0+else-not-claim w ↦ rw w.marks-is
          (Marking.step c.loop-i.invariant
          (Crawling.kid_live (2 ^ g.B.BlockSize.BITS) a.top a.board.now 0 a.k a.n c.loop-i.i c.span-s.ensures.is c.cell-pointer.ensures c.low_of.ensures q c.block_of-block.ensures c.if-low_of-ne0.false
          (Crawling.leaf (λ e. omega (arith, q)) w.if-block-ne0.true w.claim.ensures w.if-not-claim.false refl))
          refl)
      | else-block-ne0-via-else-block-ne0 w ↦ rw w.marks-is
          (Marking.step c.loop-i.invariant
          (Crawling.kid_live (2 ^ g.B.BlockSize.BITS) a.top a.board.now 0 a.k a.n c.loop-i.i c.span-s.ensures.is c.cell-pointer.ensures c.low_of.ensures q c.block_of-block.ensures c.if-low_of-ne0.false
          (Crawling.null w.if-block-ne0.false))
          refl)
    ]
