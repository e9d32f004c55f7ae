use mathlib.Core.Path.{◌≡◌}
use Prim.Native.Nat.{◌+◌, ◌*◌, ◌^◌}
use lib.ListN.{get_or}
use Rattle.model.specs.Lists.{tabulate}
use Rattle.model.specs.Store.{store, laid}
use Rattle.plans.proofs.block.Given as goal

-- the first j stores are laid
abbrev pub invariant-loop-j : goal.invariant-loop-j
invariant-loop-j g l = l.plan ≡ laid l.initial.plan l.p (tabulate l.j (λ i. store (2 ^ g.B.BlockSize.BITS * l.k + i) (get_or l.page i 0)))
