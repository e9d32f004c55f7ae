-- Plans of one step, as they are laid into a slice.
use mathlib.Core.Path.{◌≡◌}
use mathlib.Core.List.{List, [], ◌∷◌, ◌++◌, append-nil}
use Prim.Native.Nat.{ℕ, ◌-◌}
use native.Mathlib.Omega.{arith}
use lib.ListN.{length}
use Rattle.model.specs.Store.{Store, store}
use Rattle.model.specs.Plan.{step, plan_epochs, plan, pairs}
use Rattle.plans.specs.Laying.{closing, Laid, PlanLaid}
use Rattle.plans.proofs.Laying as Laying

-- the pairs of such a plan
pub step_plan : (ss : List Store) (a v c : ℕ) → pairs (plan (step ss a v ∷ []) c) ≡ ss ++ closing (length ss) (store a v)
unfolding pairs plan plan_epochs step
step_plan ss a v c = rw append-nil (Laying.step_pairs ss (store a v))

-- its hidden stores were laid, then what ends it
pub one_step : {slice slice₁ slice₂ : List ℕ} {p p₁ p₂ c' : ℕ} {ss : List Store} (a v c : ℕ) → Laid slice p ss slice₁ p₁
    → Laid slice₁ p₁ (closing (p₁ - p) (store a v)) slice₂ p₂ → c' ≡ c → PlanLaid slice p (plan (step ss a v ∷ []) c) slice₂ (record { pairs = p₂; taken = c' })
unfolding plan
one_step {slice} {slice₁} {slice₂} {p} {p₁} {p₂} {c'} {ss} a v c hidden commit e' =
    let e : p₁ - p ≡ length ss = omega (arith, hidden.next) in
    let all : Laid slice p (pairs (plan (step ss a v ∷ []) c)) slice₂ p₂ = rw (step_plan ss a v c, ← e) (Laying.more hidden commit) in
    record { is = all.is; count = all.next; taken = e' }
