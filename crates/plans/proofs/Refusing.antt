-- The ways out of a call that plans: a fault is found, the slice is too short, or the plan is laid.
use Rattle.std.specs.Prelude.{Ok, Err}
use mathlib.Core.Path.{◌≡◌, sym, ◌∙◌}
use mathlib.Core.List.{List, [], ◌∷◌}
use Prim.Native.Nat.{ℕ, ◌+◌, ◌*◌, ◌/◌, ◌≤◌, ◌<◌}
use native.Mathlib.Omega.{arith}
use lib.ListN.{length}
use lib.Dec.{ltb}
use borrow.Author.Tests.{lt-ltb, le-ltb}
use Rattle.model.specs.declared.Fault.{Fault}
use Rattle.model.specs.declared.Fault.TheVariants.{PlanLength}
use Rattle.model.specs.Store.{Store, laid}
use Rattle.model.specs.Answers.{Faults, answered, unless_refused, Answer}
use Rattle.model.specs.Calls.{planned}
use Rattle.model.proofs.Refusals.{first_refused, first_done}
use Rattle.plans.specs.Laying.{PlanResult}

module _ (faults : Faults) (ss : List Store) (slice : List ℕ) where
  -- refusal 8
  abbrev short_fault : Faults
  short_fault = (PlanLength, ltb (length slice) (2 * length ss)) ∷ []

  refusal : {x : Fault} → (planned faults ss slice).answer ≡ Err x → PlanResult (planned faults ss slice) (Err x) slice
  unfolding planned unless_refused
  refusal e = record { answer = sym e; plan = rw e }

  plan_laid : {n : ℕ} → (planned faults ss slice).answer ≡ Ok n → PlanResult (planned faults ss slice) (Ok n) (laid slice 0 ss)
  unfolding planned unless_refused
  plan_laid e = record { answer = sym e; plan = rw e }

  module _ (v : ℕ) {r : Answer} (e : r ≡ answered faults v) where
    -- a fault comes before the slice's length
    pub turned : {x : Fault} → r ≡ Err x → PlanResult (planned faults ss slice) r slice
    unfolding planned
    turned z = rw z (refusal (first_refused faults short_fault v (length ss) e z ∙ z))

    module _ {w n : ℕ} (z : r ≡ Ok w) (en : n ≡ 0 + length ss) where
      pub too_short : length slice / 2 < n → PlanResult (planned faults ss slice) (Err PlanLength) slice
      unfolding planned answered
      too_short l = refusal (first_done faults short_fault v (length ss) e z ∙ rw (lt-ltb (length slice) (2 * length ss) (omega arith)))

      pub long_enough : n ≤ length slice / 2 → {slice' : List ℕ} → slice' ≡ laid slice 0 ss → PlanResult (planned faults ss slice) (Ok n) slice'
      unfolding planned answered
      long_enough l es =
          let count : n ≡ length ss = omega arith in
          rw (es, count) (plan_laid (first_done faults short_fault v (length ss) e z ∙ rw (le-ltb (length slice) (2 * length ss) (omega arith))))
