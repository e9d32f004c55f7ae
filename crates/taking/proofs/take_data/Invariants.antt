use mathlib.Core.Path.{◌≡◌}
use Prim.Native.Nat.{◌+◌, ◌^◌}
use Rattle.model.specs.Lists.{tabulate}
use Rattle.model.specs.Store.{store, laid}
use Rattle.model.specs.Fresh.{data_page}
use Rattle.plans.specs.Onto.{onto}
use Rattle.taking.proofs.take_data.Given as goal

abbrev pub invariant-loop-j : goal.invariant-loop-j
invariant-loop-j g l = l.plan ≡ laid l.initial.plan l.p (tabulate l.j (λ i. store (l.to + i) (data_page (2 ^ g.B.BlockSize.BITS) (onto (2 ^ g.B.BlockSize.BITS) l.view.free.now l.view.board.now l.view.grown) l.under.tree.block l.under.tree.left l.under.offset l.new i)))
