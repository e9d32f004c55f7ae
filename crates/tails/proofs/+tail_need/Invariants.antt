use mathlib.Core.Path.{◌≡◌}
use Prim.Native.Nat.{◌-◌, ◌^◌}
use Rattle.model.specs.InPlace.{tail_before}
use Rattle.taking.proofs.Ends as Ends
use Rattle.tails.proofs.+tail_need.Given as goal

abbrev pub decreases-tail_need : goal.decreases-tail_need
decreases-tail_need g l = l.h

abbrev pub invariant-loop-j : goal.invariant-loop-j
invariant-loop-j g l = Ends.Along (λ i. l.count ≡ tail_before (2 ^ g.B.BlockSize.BITS) (l.h - 1) l.n l.l i) l.s l.n l.w l.j
