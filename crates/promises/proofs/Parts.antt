-- The first k pairs of a plan, performed, are what a cut leaves.
use mathlib.Core.Path.{◌≡◌, refl, ap, ◌∙◌}
use mathlib.Core.Logic.{inl, inr}
use mathlib.Core.Bool.{Bool, false, ◌&&◌}
use mathlib.Core.List.{List, [], ◌∷◌}
use Prim.Native.Nat.{ℕ, zero, suc, ◌-◌, ◌<◌, max}
use native.Mathlib.Omega.{arith}
use lib.ListN.{length, get_or, take, set}
use lib.Dec.{T}
use Rattle.model.specs.Lists.{all, cons_if, filter, concat}
use Rattle.model.specs.Store.{Store, is_barrier, performed, stores, opening, epochs}
use Rattle.model.specs.Cut.{chosen, Names, standing}
use Rattle.model.specs.Claims.{barrier_at}
use Rattle.model.proofs.Cases.{either, and_left, and_right, and_both}
use Rattle.promises.specs.Promises.{later, first_too, cut_after}

-- what stands after a cut of some epochs
abbrev after : List (List Store) → ℕ → (ℕ → Bool) → List ℕ → List ℕ
after es e p b = performed (performed b (concat (take e es))) (chosen p (get_or es e []))

chosen_none : (ss : List Store) → chosen (λ i. false) ss ≡ []
unfolding chosen cons_if
chosen_none [] = refl
chosen_none (s ∷ ss) = chosen_none ss

-- a store before them all
first_store : (s : Store) (es : List (List Store)) (e : ℕ) (p : ℕ → Bool) (b : List ℕ) → after (opening s es) e (first_too e p) b ≡ after es e p (set b s.at s.value)
unfolding opening first_too chosen cons_if concat performed
first_store s [] zero p b = refl
first_store s (d ∷ es) zero p b = refl
first_store s [] (suc zero) p b = refl
first_store s [] (suc (suc e)) p b = refl
first_store s (d ∷ es) (suc e) p b = refl

pub part_stands : (k : ℕ) (ss : List Store) (b : List ℕ) → standing ss (cut_after k ss) b ≡ performed b (stores (take k ss))
unfolding standing cut_after later epochs stores filter cons_if concat performed chosen
part_stands zero ss b = ap (performed b) (chosen_none (get_or (epochs ss) 0 []))
part_stands (suc k) [] b = refl
part_stands (suc k) (s ∷ ss) b = elim (either (is_barrier s)) [
  | inl e ↦ rw e (part_stands k ss b)
  | inr e ↦ rw e (first_store s (epochs ss) (cut_after k ss).epoch (cut_after k ss).arrived b ∙ part_stands k ss (set b s.at s.value))
]

-- ---- The cut names an epoch, where the plan does not end in a barrier

opened : (s : Store) (es : List (List Store)) → length (opening s es) ≡ max 1 (length es)
unfolding opening
opened s [] = refl
opened s (d ∷ es) = omega arith

epochs_some : (s : Store) (ss : List Store) → 0 < length (epochs (s ∷ ss))
unfolding epochs
epochs_some s ss = elim (either (is_barrier s)) [
  | inl e ↦ rw e (omega arith)
  | inr e ↦ rw e (omega (arith, opened s (epochs ss)))
]

pub part_named : (k : ℕ) (ss : List Store) → barrier_at ss (length ss - 1) ≡ false → Names ss (cut_after k ss)
unfolding cut_after later epochs barrier_at
part_named zero ss h = omega arith
part_named (suc k) [] h = omega arith
part_named (suc zero) (s ∷ []) h = rw h (omega (arith, opened s []))
part_named (suc (suc k)) (s ∷ []) h = rw h (omega (arith, opened s []))
part_named (suc k) (s ∷ t ∷ ss) h =
    let here : suc (suc (length ss)) - 1 ≡ suc (length ss) = omega arith in
    let there : suc (length ss) - 1 ≡ length ss = omega arith in
    let rest = part_named k (t ∷ ss) (rw there (rw here at h)) in
    elim (either (is_barrier s)) [
      | inl e ↦ rw e (omega (arith, rest, epochs_some t ss))
      | inr e ↦ rw e (omega (arith, rest, opened s (epochs (t ∷ ss))))
    ]

-- ---- What is so of all stores is so of the first pairs'

pub part_all : (p : Store → Bool) (k : ℕ) (ss : List Store) → T (all p (stores ss)) → T (all p (stores (take k ss)))
unfolding all stores filter cons_if
part_all p zero ss t = tt
part_all p (suc k) [] t = tt
part_all p (suc k) (s ∷ ss) t = elim (either (is_barrier s)) [
  | inl e ↦ rw e (part_all p k ss (rw e at t))
  | inr e ↦ let u : T (p s && all p (stores ss)) = rw e at t in
      rw e (and_both (p s) (all p (stores (take k ss))) (and_left (p s) (all p (stores ss)) u) (part_all p k ss (and_right (p s) (all p (stores ss)) u)))
]
