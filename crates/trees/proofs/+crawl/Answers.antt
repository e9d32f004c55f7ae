use mathlib.Core.Path.{refl}
use Prim.Native.Nat.{◌-◌, ◌^◌}
use native.Mathlib.Omega.{arith}
use Rattle.trees.proofs.Marking
use Rattle.trees.proofs.Crawling
use Rattle.trees.proofs.Reaching.{lower, lowest}
use Rattle.trees.proofs.+crawl.Goals as goal

-- The measure is the height; the loop has marked the children below j.

pub returns-then-n-eq0 : goal.returns-then-n-eq0
returns-then-n-eq0 g t c = Crawling.dead c.if-n-eq0.true

pub returns-then-k-eq0 : goal.returns-then-k-eq0
returns-then-k-eq0 g t c = Crawling.null c.if-k-eq0.true

pub returns-then-not-claim : goal.returns-then-not-claim
returns-then-not-claim g t c = Crawling.refused c.if-n-eq0.false c.if-k-eq0.false c.claim.ensures (c.if-not-claim.true)

pub returns-then-h-eq0 : goal.returns-then-h-eq0
returns-then-h-eq0 g t c = Crawling.leaf c.if-n-eq0.false c.if-k-eq0.false c.claim.ensures (c.if-not-claim.false) c.if-h-eq0.true

pub mark_data-requires : goal.mark_data-requires
mark_data-requires g t c = lowest c.requires

pub returns-then-h-eq1 : goal.returns-then-h-eq1
returns-then-h-eq1 g t c = Crawling.low c.if-n-eq0.false c.if-k-eq0.false c.claim.ensures (c.if-not-claim.false) c.if-h-eq1.true c.mark_data.ensures

pub span-s-requires : goal.span-s-requires
span-s-requires g t c = lower c.requires

pub loop-j-init : goal.loop-j-init
loop-j-init g t c = Marking.start

pub returns-then-n-first : goal.returns-then-n-first
returns-then-n-first g t c = let a = c.args in
    Crawling.node_by c.if-n-eq0.false c.if-k-eq0.false c.claim.ensures c.width-w.ensures.is c.if-not-claim.false c.if-h-eq0.false (Crawling.kids_dead (2 ^ g.B.BlockSize.BITS) a.top a.board.now (a.h - 1) a.k a.n c.loop-j.j c.span-s.ensures.is c.loop-j.invariant c.if-n-first.true (omega arith))

pub returns-then-low_of-ne0 : goal.returns-then-low_of-ne0
returns-then-low_of-ne0 g t c = let a = c.args in
    let kid = Crawling.kid_low (2 ^ g.B.BlockSize.BITS) a.top a.board.now (a.h - 1) a.k a.n c.loop-j.j c.span-s.ensures.is c.cell-p.ensures c.low_of.ensures
    c.if-n-first.false c.if-low_of-ne0.true in
    Crawling.node_by c.if-n-eq0.false c.if-k-eq0.false c.claim.ensures c.width-w.ensures.is c.if-not-claim.false c.if-h-eq0.false (Marking.stop {m₂ = c.loop-j.marks} c.loop-j.invariant kid c.loop-j-test.true refl)

pub returns-then-not-crawl : goal.returns-then-not-crawl
returns-then-not-crawl g t c = let a = c.args in
    let kid = Crawling.kid_live (2 ^ g.B.BlockSize.BITS) a.top a.board.now (a.h - 1) a.k a.n c.loop-j.j c.span-s.ensures.is c.cell-p.ensures c.low_of.ensures
    c.if-n-first.false c.block_of.ensures c.if-low_of-ne0.false c.crawl.ensures in
    Crawling.node_by c.if-n-eq0.false c.if-k-eq0.false c.claim.ensures c.width-w.ensures.is c.if-not-claim.false c.if-h-eq0.false (Marking.stop c.loop-j.invariant kid c.loop-j-test.true (c.if-not-crawl.true))

pub loop-j-preserved : goal.loop-j-preserved
loop-j-preserved g t c = let a = c.args in
    let kid = Crawling.kid_live (2 ^ g.B.BlockSize.BITS) a.top a.board.now (a.h - 1) a.k a.n c.loop-j.j c.span-s.ensures.is c.cell-p.ensures c.low_of.ensures
    c.if-n-first.false c.block_of.ensures c.if-low_of-ne0.false c.crawl.ensures in
    Marking.step c.loop-j.invariant kid (c.if-not-crawl.false)

pub returns : goal.returns
returns g t c = Crawling.node_by c.if-n-eq0.false c.if-k-eq0.false c.claim.ensures c.width-w.ensures.is c.if-not-claim.false c.if-h-eq0.false (Marking.all c.loop-j.invariant (omega arith))
