use mathlib.Core.Path.{◌≡◌}
use Prim.Native.Nat.{◌+◌, ◌*◌}
use lib.ListN.{get_or}
use Rattle.model.specs.Lists.{tabulate}
use Rattle.model.specs.Words.{word_of}
use Rattle.model.specs.Store.{store, laid}
use Rattle.taking.proofs.lay_new.Given as goal

abbrev pub invariant-loop-j : goal.invariant-loop-j
invariant-loop-j l = l.plan ≡ laid l.initial.plan l.p (tabulate l.j (λ i. store (l.to + i) (word_of 8 (λ t. get_or l.new (8 * i + t) 0))))
