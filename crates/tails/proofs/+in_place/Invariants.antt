use Prim.Native.Nat.{◌-◌, ◌^◌}
use Rattle.plans.specs.Onto.{onto}
use Rattle.taking.proofs.Ends.{Along}
use Rattle.tails.specs.Stores.{hooks}
use Rattle.tails.proofs.Padding as Padding
use Rattle.tails.proofs.+in_place.Given as goal

abbrev pub decreases-in_place : goal.decreases-in_place
decreases-in_place g l = l.end.tree.height

abbrev pub invariant-loop-j : goal.invariant-loop-j
invariant-loop-j g l = Along (λ i. Padding.Done (2 ^ g.B.BlockSize.BITS) (onto (2 ^ g.B.BlockSize.BITS) l.view.free.now l.view.board.now l.view.grown) (hooks (2 ^ g.B.BlockSize.BITS) l.view.free.now) (l.h - 1) l.k l.n l.l l.new l.c l.p l.initial.plan l.plan l.taken l.q i) l.s l.n l.w l.j
