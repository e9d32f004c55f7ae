use Prim.Native.Nat.{◌-◌, ◌^◌}
use Rattle.trees.proofs.Holding
use Rattle.trees.proofs.+held_count.Given as goal

abbrev pub decreases-held_count : goal.decreases-held_count
decreases-held_count g l = l.h

abbrev pub invariant-loop-j : goal.invariant-loop-j
invariant-loop-j g l = Holding.Below (2 ^ g.B.BlockSize.BITS) l.board (l.h - 1) l.k l.n l.s l.j l.count
