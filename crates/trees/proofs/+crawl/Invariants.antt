use Prim.Native.Nat.{◌-◌, ◌^◌}
use Rattle.model.proofs.Trees.{child_blocks}
use Rattle.trees.proofs.Marking
use Rattle.trees.proofs.Crawling
use Rattle.trees.proofs.+crawl.Given as goal

abbrev pub decreases-crawl : goal.decreases-crawl
decreases-crawl g l = l.h

abbrev pub invariant-loop-j : goal.invariant-loop-j
invariant-loop-j g l = Marking.Going (Crawling.kid_sound (2 ^ g.B.BlockSize.BITS) l.top l.board (l.h - 1) l.k l.n) (child_blocks (2 ^ g.B.BlockSize.BITS) l.board (l.h - 1) l.k l.n) l.initial.marks l.j l.marks
