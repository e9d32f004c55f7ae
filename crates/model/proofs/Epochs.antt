-- Pairs and epochs: a plan is the pairs of its epochs, and a call that plans lays them into the lent slice or is refused. Every rule about plans
-- and cuts begins with these.
use Rattle.std.specs.Prelude.{Ok, Err}
use mathlib.Core.Path.{◌≡◌, refl, ap, ◌∙◌, subst}
use mathlib.Core.Logic.{◌≢◌, ◌⊎◌, inl, inr}
use mathlib.Core.Bool.{Bool, false, ◌&&◌, and-false}
use mathlib.Core.List.{List, [], ◌∷◌, ◌++◌, append-nil}
use Prim.Native.Nat.{ℕ, suc, ◌-◌, ◌*◌, ◌^◌, ◌≤◌, ◌<◌, ◌+◌, zero}
use native.Mathlib.Omega.{arith}
use native.Mathlib.Nat.{zero-add}
use lib.ListN.{length, get_or, take, drop, get_or-eq_default, length-append}
use lib.Seq.{sets, sets-eq, take-append_seam, take-nil, get_or-append-add}
use lib.Dec.{T, ltb, eqb}
use borrow.Author.Tests.{ltb-false, ne_eqb}
use Rattle.model.specs.declared.Fault.TheVariants.{PlanLength}
use Rattle.model.specs.declared.Fault.{Fault}
use Rattle.model.specs.Lists.{cons_if, filter, distinct, concat, all}
use Rattle.model.specs.Store.{Store, store, barrier, is_barrier, performed, opening, epochs, fenced, flat, paired, laid}
use Rattle.model.specs.Answers.{Faults, answered, unless_refused, counted}
use Rattle.model.specs.Calls.{Planned, planned}
use Rattle.model.specs.Cut.{Cut, chosen, plan_of, standing}
use Rattle.model.specs.Claims.{Shaped, barrier_at}
use Rattle.model.proofs.Cases.{either, split}
use Rattle.model.proofs.Perform.{All, Plain}
use Rattle.model.proofs.Addresses.{addresses, all_left, all_right, all_holds}

-- ---- Epochs

-- some store is in it
abbrev pub Full : List Store → Type 0
Full e = 0 < length e

-- a store that is no barrier goes to the epoch after it
plain_opens : (s : Store) (ss : List Store) → s.at ≢ 2 ^ 64 - 1 → epochs (s ∷ ss) ≡ opening s (epochs ss)
unfolding epochs is_barrier
plain_opens s ss d = rw (ne_eqb s.at (2 ^ 64 - 1) d)

-- stores alone are one epoch
epochs_one : (e : List Store) → Full e → Plain e → epochs e ≡ e ∷ []
unfolding All opening epochs
epochs_one [] f p = absurd (omega arith)
epochs_one (s ∷ []) f p = plain_opens s [] p.0
epochs_one (s ∷ t ∷ e) f p = plain_opens s (t ∷ e) p.0 ∙ ap (opening s) (epochs_one (t ∷ e) (omega arith) p.1)

-- and before a barrier they are the first
epochs_first : (e ss : List Store) → Plain e → epochs (e ++ (barrier ∷ ss)) ≡ e ∷ epochs ss
unfolding All opening epochs is_barrier barrier store
epochs_first [] ss p = refl
epochs_first (s ∷ e) ss p = plain_opens s (e ++ (barrier ∷ ss)) p.0 ∙ ap (opening s) (epochs_first e ss p.1)

-- the epochs of a plan are those that it was made of
pub epochs_fenced : (es : List (List Store)) → All Full es → All Plain es → epochs (fenced es) ≡ es
unfolding fenced All epochs
epochs_fenced [] f p = refl
epochs_fenced (e ∷ []) f p = epochs_one e f.0 p.0
epochs_fenced (e ∷ d ∷ es) f p = epochs_first e (fenced (d ∷ es)) p.0 ∙ ap (λ (r : List (List Store)). e ∷ r) (epochs_fenced (d ∷ es) f.1 p.1)

-- ---- Where its barriers stand

-- none among stores
plain_at : (e r : List Store) (i : ℕ) → Plain e → i < length e → barrier_at (e ++ r) i ≡ false
unfolding All barrier_at is_barrier
plain_at [] r i p l = absurd (omega arith)
plain_at (s ∷ e) r zero p l = ne_eqb s.at (2 ^ 64 - 1) p.0
plain_at (s ∷ e) r (suc i) p l = plain_at e r i p.1 (omega arith)

-- behind a list, those of the next
after_at : (e r : List Store) (i : ℕ) → barrier_at (e ++ r) (length e + i) ≡ barrier_at r i
unfolding barrier_at
after_at e r i = ap is_barrier (get_or-append-add e r i (store 0 0))

-- a plan begins and ends with a store
record Ended (ss : List Store) : Type 0 where
  some : 0 < length ss
  first : barrier_at ss 0 ≡ false
  last : barrier_at ss (length ss - 1) ≡ false
  apart : (i : ℕ) → (barrier_at ss i && barrier_at ss (suc i)) ≡ false

past_at : (e : List Store) (i : ℕ) → length e ≤ i → barrier_at e i ≡ false
unfolding barrier_at is_barrier store
past_at e i l = rw (get_or-eq_default e (store 0 0) l)

one_ended : (e : List Store) → Full e → Plain e → Ended e
one_ended e f p = record {
  some = f;
  first = inner 0 f;
  last = inner (length e - 1) (omega arith);
  apart = λ i. elim (split (length e) i) [
    | inl past ↦ ap (λ (t : Bool). t && barrier_at e (suc i)) (past_at e i past)
    | inr l ↦ ap (λ (t : Bool). t && barrier_at e (suc i)) (inner i l)
  ];
}
  where
    inner : (i : ℕ) → i < length e → barrier_at e i ≡ false
    inner i l = subst (λ (x : List Store). barrier_at x i ≡ false) (append-nil e) (plain_at e [] i p l)

more_ended : (e r : List Store) → Full e → Plain e → Ended r → Ended (e ++ (barrier ∷ r))
unfolding barrier_at
more_ended e r f p n =
    let ss : List Store = e ++ (barrier ∷ r) in
    let len : length ss ≡ length e + suc (length r) = length-append e (barrier ∷ r) in
    let at-end : length ss - 1 ≡ length e + suc (length r - 1) = omega (arith, n.some) in
    record {
      some = omega (arith, len);
      first = plain_at e (barrier ∷ r) 0 p f;
      last = rw at-end (after_at e (barrier ∷ r) (suc (length r - 1)) ∙ n.last);
      apart = λ i. elim (split (length e) i) [
        | inr l ↦ ap (λ (t : Bool). t && barrier_at ss (suc i)) (plain_at e (barrier ∷ r) i p l)
        | inl from ↦ behind i (i - length e) (omega arith)
      ];
    }
  where
    behind : (i j : ℕ) → i ≡ length e + j → (barrier_at (e ++ (barrier ∷ r)) i && barrier_at (e ++ (barrier ∷ r)) (suc i)) ≡ false
    behind i zero z =
        let next : suc i ≡ length e + 1 = omega arith in
        rw (next, after_at e (barrier ∷ r) 1, n.first) (and-false (barrier_at (e ++ (barrier ∷ r)) i))
    behind i (suc j) z =
        let next : suc i ≡ length e + suc (suc j) = omega arith in
        rw (next, z, after_at e (barrier ∷ r) (suc j), after_at e (barrier ∷ r) (suc (suc j))) (n.apart j)

plan_ended : (e : List Store) (es : List (List Store)) → All Full (e ∷ es) → All Plain (e ∷ es) → Ended (fenced (e ∷ es))
unfolding fenced All
plan_ended e [] f p = one_ended e f.0 p.0
plan_ended e (d ∷ es) f p = more_ended e (fenced (d ∷ es)) f.0 p.0 (plan_ended d es f.1 p.1)

-- none among stores, so those of a plan are its own
no_barriers : (e r : List Store) → Plain e → filter is_barrier (e ++ r) ≡ filter is_barrier r
unfolding filter cons_if is_barrier All
no_barriers [] r p = refl
no_barriers (s ∷ e) r p = rw (ne_eqb s.at (2 ^ 64 - 1) p.0) (no_barriers e r p.1)

fenced_zeros : (es : List (List Store)) → All Plain es → T (all (λ s. eqb s.value 0) (filter is_barrier (fenced es)))
unfolding fenced filter cons_if is_barrier barrier store all All
fenced_zeros [] p = tt
fenced_zeros (e ∷ []) p = subst (λ (x : List Store). T (all (λ s. eqb s.value 0) (filter is_barrier x))) (append-nil e) (rw (no_barriers e [] p.0) tt)
fenced_zeros (e ∷ d ∷ es) p = rw (no_barriers e (barrier ∷ fenced (d ∷ es)) p.0) (fenced_zeros (d ∷ es) p.1)

-- an empty plan is shaped as plans must be, and so is one of epochs
pub shaped_none : Shaped []
unfolding all filter epochs
shaped_none = record {
  first = past_at [] 0 (omega arith);
  last = past_at [] 0 (omega arith);
  apart = λ i. ap (λ (t : Bool). t && barrier_at [] (suc i)) (past_at [] i (omega arith));
  zeros = tt;
  once = tt;
}

pub shaped : (es : List (List Store)) → All Full es → All Plain es → All (λ e. T (distinct (addresses e))) es → Shaped (fenced es)
unfolding fenced All
shaped [] f p o = shaped_none
shaped (e ∷ es) f p o =
    let n : Ended (fenced (e ∷ es)) = plan_ended e es f p in
    record { first = n.first; last = n.last; apart = n.apart; zeros = fenced_zeros (e ∷ es) p; once = rw (epochs_fenced (e ∷ es) f p) (all_holds (λ e. distinct (addresses e)) (e ∷ es) o) }

-- ---- The lent slice

pub length_flat : (ss : List Store) → length (flat ss) ≡ 2 * length ss
unfolding flat
length_flat [] = refl
length_flat (s ∷ ss) = omega (arith, length_flat ss)

pub paired_flat : (ss : List Store) (rest : List ℕ) → paired (flat ss ++ rest) ≡ ss ++ paired rest
unfolding flat paired store
paired_flat [] rest = refl
paired_flat (s ∷ ss) rest = ap (λ (r : List Store). s ∷ r) (paired_flat ss rest)

-- pairs laid into a slice that has room for them are found there
pub paired_laid : (slice : List ℕ) (ss : List Store) → 2 * length ss ≤ length slice → take (length ss) (paired (laid slice 0 ss)) ≡ ss
unfolding laid
paired_laid slice ss l =
    let at : sets slice 0 (flat ss) ≡ flat ss ++ drop (length (flat ss)) slice = rw zero-add at (sets-eq (flat ss) slice 0 (omega (arith, length_flat ss))) in
    let rest : List ℕ = drop (length (flat ss)) slice in
    rw (at, paired_flat ss rest) (take-append_seam ss (paired rest))

-- ---- What a call that plans answers and leaves

-- a fault's test does not find it
abbrev pub Passed : Fault × Bool → Type 0
Passed t = t.1 ≡ false

pub answered_passed : (fs : Faults) (n : ℕ) → All Passed fs → answered fs n ≡ Ok n
unfolding All answered
answered_passed [] n h = refl
answered_passed (t ∷ ts) n h = rw h.0 (answered_passed ts n h.1)

-- no test finds a fault, or the answer is a refusal
pub found : (fs : Faults) (n : ℕ) → All Passed fs ⊎ ((f : Fault) × (answered fs n ≡ Err f))
unfolding All answered
found [] n = inl tt
found (t ∷ ts) n = elim (either t.1) [
  | inl e ↦ inr (t.0, rw e)
  | inr e ↦ elim (found ts n) [ inl h ↦ inl (e, h) | inr r ↦ inr (r.0, rw e r.1) ]
]

-- the call is done: no fault was found, and the plan is in the slice
pub record Planning (faults : Faults) (ss : List Store) (p : Planned) : Type 0 where
  pub passed : All Passed faults
  pub answers : p.answer ≡ Ok (length ss)
  pub plans : plan_of p ≡ ss

-- it is refused, and there is no plan
pub record Refusing (p : Planned) : Type 0 where
  pub fault : Fault
  pub answers : p.answer ≡ Err fault
  pub plans : plan_of p ≡ []

pub planned_either : (faults : Faults) (ss : List Store) (slice : List ℕ) → let p : Planned = planned faults ss slice in Planning faults ss p ⊎ Refusing p
unfolding planned plan_of unless_refused counted All
planned_either faults ss slice =
    let last : Faults = (PlanLength, ltb (length slice) (2 * length ss)) ∷ [] in
    elim (found (faults ++ last) (length ss)) [
      | inl h ↦
          let done = answered_passed (faults ++ last) (length ss) h in
          inl (record {
            passed = all_left Passed faults last h;
            answers = done;
            plans = rw done (paired_laid slice ss (ltb-false (length slice) (2 * length ss) (all_right Passed faults last h).0));
          })
      | inr r ↦ inr (record { fault = r.0; answers = r.1; plans = rw r.1 })
    ]

-- ---- Cuts

-- what is so of each store is so of each that arrived
pub all_chosen : (P : Store → Type 0) (p : ℕ → Bool) (ss : List Store) → All P ss → All P (chosen p ss)
unfolding All chosen cons_if
all_chosen P p [] h = tt
all_chosen P p (s ∷ ss) h = elim (either (p 0)) [
  | inl e ↦ rw e (h.0, all_chosen P (λ i. p (suc i)) ss h.1)
  | inr e ↦ rw e (all_chosen P (λ i. p (suc i)) ss h.1)
]

-- what stands after a cut in a plan, by its epochs
pub standing_epochs : (ss : List Store) (es : List (List Store)) (x : Cut) (b : List ℕ) → epochs ss ≡ es
    → standing ss x b ≡ performed (performed b (concat (take x.epoch es))) (chosen x.arrived (get_or es x.epoch []))
unfolding standing
standing_epochs ss es x b e = rw e

-- without epochs the lent board stands
pub standing_none : (ss : List Store) → epochs ss ≡ [] → (x : Cut) (b : List ℕ) → standing ss x b ≡ b
unfolding standing concat performed chosen
standing_none ss none x b = rw (none, take-nil {A = List Store} x.epoch)
