use mathlib.Core.Path.{◌≡◌}
use Prim.Native.Nat.{◌-◌, ◌^◌}
use lib.ListN.{length}
use Rattle.plans.specs.Onto.{onto}
use Rattle.taking.proofs.Ends.{Along}
use Rattle.building.proofs.TailPages as TailPages
use Rattle.building.proofs.+tail_pages.Given as goal

abbrev pub decreases-tail_pages : goal.decreases-tail_pages
decreases-tail_pages g l = l.tail.tree.height

abbrev pub invariant-loop-j : goal.invariant-loop-j
invariant-loop-j g l = (length l.pages ≡ length l.initial.pages) × Along (λ i. TailPages.Paged (2 ^ g.B.BlockSize.BITS) (onto (2 ^ g.B.BlockSize.BITS) l.view.free.now l.view.board.now l.view.grown) l.view.free.now (l.h - 1) l.k l.n l.new l.c l.view.grown.base i l.initial.plan l.plan l.taken) l.s l.n l.w l.j
