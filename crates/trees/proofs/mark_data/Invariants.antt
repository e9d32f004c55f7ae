use Prim.Native.Nat.{◌^◌}
use Rattle.model.proofs.Trees.{child_blocks}
use Rattle.trees.proofs.Marking
use Rattle.trees.proofs.Crawling
use Rattle.trees.proofs.mark_data.Given as goal

abbrev pub invariant-loop-i : goal.invariant-loop-i
invariant-loop-i g l = Marking.Going (Crawling.kid_sound (2 ^ g.B.BlockSize.BITS) l.top l.board 0 l.k l.n) (child_blocks (2 ^ g.B.BlockSize.BITS) l.board 0 l.k l.n) l.initial.marks l.i l.marks
