use Prim.Native.Nat.{◌^◌}
use Rattle.plans.specs.Onto.{onto}
use Rattle.taking.proofs.Ends.{Along}
use Rattle.tails.proofs.TailStores.{Below}
use Rattle.tails.proofs.tail_words.Given as goal

abbrev pub invariant-loop-j : goal.invariant-loop-j
invariant-loop-j g l = Along (λ i. Below (2 ^ g.B.BlockSize.BITS) (onto (2 ^ g.B.BlockSize.BITS) l.view.free.now l.view.board.now l.view.grown) l.end.tree.block l.n l.l l.new l.initial.plan l.p i l.plan l.q) 8 l.n l.w l.j
