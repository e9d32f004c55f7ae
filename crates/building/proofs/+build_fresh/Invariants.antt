use mathlib.Core.Path.{◌≡◌}
use Prim.Native.Nat.{◌-◌, ◌^◌}
use lib.ListN.{length}
use lib.Pow.{pow_pos}
use Rattle.plans.specs.Onto.{onto}
use Rattle.building.proofs.Trees as Trees
use Rattle.building.proofs.+build_fresh.Given as goal

abbrev pub decreases-build_fresh : goal.decreases-build_fresh
decreases-build_fresh g l = l.under.tree.height

abbrev pub invariant-loop-j : goal.invariant-loop-j
invariant-loop-j g l = (length l.pages ≡ length l.initial.pages) × Trees.Children (2 ^ g.B.BlockSize.BITS) (pow_pos g.B.BlockSize.BITS) l.view.free.now (onto (2 ^ g.B.BlockSize.BITS) l.view.free.now l.view.board.now l.view.grown) (l.h - 1) l.k l.n l.o l.new l.initial.plan l.view.grown.base l.c l.j l.plan l.pages l.taken
