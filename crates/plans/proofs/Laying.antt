-- Pairs laid into a slice one after another.
use mathlib.Core.Path.{◌≡◌, refl, sym, ap, ◌∙◌}
use mathlib.Core.List.{List, [], ◌∷◌, ◌++◌}
use Prim.Native.Nat.{ℕ, zero, suc, ◌+◌, ◌*◌, ◌≤◌, ◌<◌}
use native.Mathlib.Omega.{arith}
use native.Mathlib.Nat.{add-zero}
use native.Mathlib.Numerals.{add-one}
use lib.ListN.{length, set, length-append}
use lib.Seq.{sets, set_out, length-sets}
use Rattle.model.specs.Lists.{tabulate}
use Rattle.model.specs.Store.{Store, store, barrier, fenced, flat, laid}
use Rattle.model.specs.Plan.{step_epochs}
use Rattle.model.proofs.Epochs.{length_flat}
use Rattle.model.proofs.Perform.{length_tabulate}
use Rattle.plans.specs.Laying.{closing, Laid}

sets_append : (l : List ℕ) (i : ℕ) (xs ys : List ℕ) → sets l i (xs ++ ys) ≡ sets (sets l i xs) (i + length xs) ys
sets_append l i [] ys = ap (λ (k : ℕ). sets l k ys) (sym (add-zero i))
sets_append l i (x ∷ xs) ys = sets_append (set l i x) (suc i) xs ys ∙ ap (λ (k : ℕ). sets (sets (set l i x) (suc i) xs) k ys) (omega arith)

sets_out : (l : List ℕ) (i : ℕ) (vs : List ℕ) → length l ≤ i → sets l i vs ≡ l
sets_out l i [] h = refl
sets_out l i (v ∷ vs) h = ap (λ (k : List ℕ). sets k (suc i) vs) (set_out l i v h) ∙ sets_out l (suc i) vs (omega arith)

flat_append : (xs ys : List Store) → flat (xs ++ ys) ≡ flat xs ++ flat ys
unfolding flat
flat_append [] ys = refl
flat_append (x ∷ xs) ys = ap (λ (l : List ℕ). x.at ∷ x.value ∷ l) (flat_append xs ys)

-- pairs laid after others
laid_append : (plan : List ℕ) (p : ℕ) (xs ys : List Store) → laid plan p (xs ++ ys) ≡ laid (laid plan p xs) (p + length xs) ys
unfolding laid
laid_append plan p xs ys =
    ap (λ (l : List ℕ). sets plan (2 * p) l) (flat_append xs ys)
    ∙ sets_append plan (2 * p) (flat xs) (flat ys)
    ∙ ap (λ (k : ℕ). sets (sets plan (2 * p) (flat xs)) k (flat ys)) (omega (arith, length_flat xs))

pub laid_none : (plan : List ℕ) (p : ℕ) → laid plan p [] ≡ plan
unfolding laid flat
laid_none plan p = refl

-- a pair is two words
pub laid_one : (plan : List ℕ) (p a v : ℕ) → laid plan p (store a v ∷ []) ≡ set (set plan (2 * p) a) (2 * p + 1) v
unfolding laid flat store
laid_one plan p a v = ap (λ (k : ℕ). set (set plan (2 * p) a) k v) (sym (add-one (2 * p)))

-- one pair more of a table
pub laid_more : (plan : List ℕ) (p j : ℕ) (f : ℕ → Store) → laid plan p (tabulate (j + 1) f) ≡ laid (laid plan p (tabulate j f)) (p + j) (f j ∷ [])
unfolding tabulate
laid_more plan p j f = rw (add-one j, laid_append plan p (tabulate j f) (f j ∷ []), length_tabulate j f)

-- off the slice nothing is laid
pub laid_out : (plan : List ℕ) (p : ℕ) (ss : List Store) → length plan ≤ p → laid plan p ss ≡ plan
unfolding laid
laid_out plan p ss h = sets_out plan (2 * p) (flat ss) (omega arith)

pub length_laid : (plan : List ℕ) (p : ℕ) (ss : List Store) → length (laid plan p ss) ≡ length plan
unfolding laid
length_laid plan p ss = length-sets plan (2 * p) (flat ss)

-- ---- Laid

pub none : {plan : List ℕ} {p : ℕ} → Laid plan p [] plan p
none {plan} {p} = record { is = sym (laid_none plan p); next = sym (add-zero p) }

-- one pair
pub one : {plan plan' : List ℕ} {p : ℕ} {s : Store} → plan' ≡ laid plan p (s ∷ []) → Laid plan p (s ∷ []) plan' (p + 1)
one e = record { is = e; next = refl }

-- more after others
pub more : {plan plan₁ plan₂ : List ℕ} {p p₁ p₂ : ℕ} {xs ys : List Store} → Laid plan p xs plan₁ p₁ → Laid plan₁ p₁ ys plan₂ p₂ → Laid plan p (xs ++ ys) plan₂ p₂
more {plan} {plan₁} {plan₂} {p} {p₁} {p₂} {xs} {ys} a b = record {
  is = b.is ∙ ap (λ (l : List ℕ). laid l p₁ ys) a.is ∙ ap (λ (k : ℕ). laid (laid plan p xs) k ys) a.next ∙ sym (laid_append plan p xs ys);
  next = omega (arith, a.next, b.next, length-append xs ys);
}

-- the same pairs, written another way
pub same_pairs : {plan plan' : List ℕ} {p p' : ℕ} {xs ys : List Store} → xs ≡ ys → Laid plan p xs plan' p' → Laid plan p ys plan' p'
same_pairs e a = rw (← e) a

pub same_length : {plan plan' : List ℕ} {p p' : ℕ} {ss : List Store} → Laid plan p ss plan' p' → length plan' ≡ length plan
same_length {plan} {plan'} {p} {p'} {ss} a = ap length a.is ∙ length_laid plan p ss

-- ---- Steps

closing_some : (m : ℕ) (s : Store) → 0 < m → closing m s ≡ barrier ∷ s ∷ []
unfolding closing
closing_some zero s l = absurd (omega arith)
closing_some (suc m) s l = refl

-- what ends a step with hidden stores, and one without
module _ {plan plan₁ plan₂ : List ℕ} {p q : ℕ} (m : ℕ) (s : Store) (last : plan₂ ≡ laid plan₁ q (s ∷ [])) where
  pub fenced_commit : 0 < m → plan₁ ≡ laid plan p (barrier ∷ []) → q ≡ p + 1 → Laid plan p (closing m s) plan₂ (q + 1)
  fenced_commit l e z = rw (closing_some m s l) (more (record { is = e; next = z }) (one last))

  pub bare_commit : m ≡ 0 → plan₁ ≡ plan → q ≡ p → Laid plan p (closing m s) plan₂ (q + 1)
  unfolding closing
  bare_commit none e z = rw (none, ← e, ← z) (one last)

-- a step's pairs: its hidden stores, and what ends it
pub step_pairs : (ss : List Store) (s : Store) → fenced (step_epochs ss s) ≡ ss ++ closing (length ss) s
unfolding fenced step_epochs closing
step_pairs [] s = refl
step_pairs (x ∷ ss) s = refl
