use mathlib.Core.Path.{◌≡◌}
use Prim.Native.Nat.{◌-◌, ◌^◌}
use native.Mathlib.Omega.{arith}
use Rattle.trees.proofs.Holding
use Rattle.trees.proofs.Reaching.{lower, two}
use Rattle.trees.proofs.+held_count.Goals as goal
use Rattle.trees.proofs.+held_count.Goals.{then-first-n, else-first-n}

-- The measure is the height; the loop has counted the children below j.

pub returns-then-n-eq0 : goal.returns-then-n-eq0
returns-then-n-eq0 g t c = Holding.dead (two c.requires) c.if-n-eq0.true

pub returns-then-k-eq0 : goal.returns-then-k-eq0
returns-then-k-eq0 g t c = Holding.null (two c.requires) c.if-k-eq0.true

pub returns-then-h-eq0 : goal.returns-then-h-eq0
returns-then-h-eq0 g t c = Holding.leaf (two c.requires) c.if-n-eq0.false c.if-k-eq0.false c.if-h-eq0.true

pub span-s-requires : goal.span-s-requires
span-s-requires g t c = lower c.requires

pub loop-j-init : goal.loop-j-init
loop-j-init g t c = Holding.alone

pub loop-j-preserved : goal.loop-j-preserved
loop-j-preserved g t c = let a = c.args in
    elim c.if-first-n.branch [
      | then-first-n w ↦ rw w.count-is (Holding.add (2 ^ g.B.BlockSize.BITS) a.board.now (a.h - 1) a.k a.n c.loop-j.j c.span-s.ensures.is c.loop-j.invariant w.cell.ensures w.block_of-below.ensures w.held_count-count.ensures)
      | else-first-n w ↦ rw w.count-is (Holding.skip (2 ^ g.B.BlockSize.BITS) a.board.now (a.h - 1) a.k a.n c.loop-j.j c.span-s.ensures.is c.loop-j.invariant (two c.requires) w.if-first-n.false)
    ]

pub returns : goal.returns
returns g t c = let e : c.loop-j.j ≡ c.width-w.result = omega arith in
    Holding.node (two c.requires) c.if-n-eq0.false c.if-k-eq0.false c.if-h-eq0.false c.span-s.ensures.is (rw (e, c.width-w.ensures.is) at c.loop-j.invariant)
