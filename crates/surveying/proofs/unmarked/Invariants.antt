use mathlib.Core.Path.{◌≡◌}
use Prim.Native.Nat.{◌+◌, ◌-◌, ◌<◌}
use Prim.Native.Nat.{ℕ}
use mathlib.Core.List.{List}
use lib.ListN.{length}
use Rattle.model.specs.Lists.{pick_from}
use Rattle.surveying.specs.Survey.{spare}
use Rattle.surveying.proofs.unmarked.Given as goal

-- how many are still to be counted, from k on
abbrev pub ahead : List ℕ → ℕ → ℕ → ℕ
ahead m top k = length (pick_from k (top - k) (spare m))

abbrev pub invariant-loop-k : goal.invariant-loop-k
invariant-loop-k l = (l.count < l.k) × (l.count + ahead l.marks l.top l.k ≡ ahead l.marks l.top 1)
