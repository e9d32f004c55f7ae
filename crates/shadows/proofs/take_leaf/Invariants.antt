use mathlib.Core.Path.{◌≡◌}
use Prim.Native.Nat.{◌+◌, ◌^◌}
use Rattle.model.specs.Lists.{tabulate}
use Rattle.model.specs.Store.{store, laid}
use Rattle.model.specs.Change.{leaf_page}
use Rattle.plans.specs.Onto.{onto}
use Rattle.shadows.proofs.take_leaf.Given as goal

abbrev pub invariant-loop-j : goal.invariant-loop-j
invariant-loop-j g l = l.plan ≡ laid l.initial.plan l.p (tabulate l.j (λ i. store (l.to + i) (leaf_page (2 ^ g.B.BlockSize.BITS) (onto (2 ^ g.B.BlockSize.BITS) l.view.free.now l.view.board.now l.view.grown) l.inode.at l.inode.root l.inode.size i)))
