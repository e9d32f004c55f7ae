-- Marking, one piece after the other.
use mathlib.Core.Path.{◌≡◌, refl, sym, ◌∙◌}
use mathlib.Core.Logic.{inl, inr}
use mathlib.Core.Bool.{Bool, true, false, ◌&&◌, and_assoc, and-false, false≢true}
use mathlib.Core.List.{List, [], ◌∷◌, ◌++◌}
use Prim.Native.Nat.{ℕ, zero, suc, ◌+◌, ◌≤◌, ◌<◌}
use native.Mathlib.Numerals.{add-one}
use native.Mathlib.Omega.{arith}
use lib.ListN.{get_or, set}
use lib.Dec.{ltb}
use borrow.Author.Tests.{le-ltb, lt-ltb, eq-eqb, ne_eqb}
use Rattle.model.specs.Lists.{every, joined}
use Rattle.model.proofs.Cases.{split}
use Rattle.trees.specs.Marks.{unmarked, marked, Marked}

unmarked_append : (m xs ys : List ℕ) → unmarked m (xs ++ ys) ≡ (unmarked m xs && unmarked (marked m xs) ys)
unfolding unmarked marked
unmarked_append m [] ys = refl
unmarked_append m (x ∷ xs) ys = rw (unmarked_append (set m x 1) xs ys, and_assoc)

marked_append : (m xs ys : List ℕ) → marked m (xs ++ ys) ≡ marked (marked m xs) ys
unfolding marked
marked_append m [] ys = refl
marked_append m (x ∷ xs) ys = marked_append (set m x 1) xs ys

shuffle : (x y z w : Bool) → (x && y && (z && w)) ≡ (x && z && (y && w))
shuffle true true z w = refl
shuffle true false true w = refl
shuffle true false false w = refl
shuffle false y z w = refl

-- what two pieces answer
two : (good good' : Bool) (ks ks' m : List ℕ) → (good && good' && unmarked m (ks ++ ks')) ≡ (good && unmarked m ks && (good' && unmarked (marked m ks) ks'))
two good good' ks ks' m = rw unmarked_append (shuffle good good' (unmarked m ks) (unmarked (marked m ks) ks'))

pub nothing : {good : Bool} {ks m : List ℕ} → good ≡ true → ks ≡ [] → Marked good ks m true m
unfolding unmarked marked
nothing e z = record { answer = rw (e, z); left = λ _. rw z }

refusal : {good : Bool} {ks m m' : List ℕ} → (good && unmarked m ks) ≡ false → Marked good ks m false m'
refusal e = record { answer = sym e; left = λ x. absurd (false≢true x) }

pub fault : {good : Bool} {ks m m' : List ℕ} → good ≡ false → Marked good ks m false m'
fault e = refusal (rw e)

pub same : {good good' : Bool} {ks ks' m m' : List ℕ} {ok : Bool} → good ≡ good' → ks ≡ ks' → Marked good' ks' m ok m' → Marked good ks m ok m'
same e z c = rw (e, z) c

-- one block
module _ (top : ℕ) {k : ℕ} {m m' : List ℕ} where
  pub off : top ≤ k → Marked (ltb k top) (k ∷ []) m false m'
  off l = fault (le-ltb k top l)

  pub twice : {w : ℕ} → w ≡ get_or m k 0 → (w ≡ 0 → ⊥) → Marked (ltb k top) (k ∷ []) m false m'
  unfolding unmarked
  twice e f = refusal (rw (ne_eqb (get_or m k 0) 0 (λ z. f (e ∙ z)), and-false))

  pub once : {w : ℕ} → k < top → w ≡ get_or m k 0 → w ≡ 0 → m' ≡ set m k 1 → Marked (ltb k top) (k ∷ []) m true m'
  unfolding unmarked marked
  once l e z s = record { answer = rw (lt-ltb k top l, eq-eqb (get_or m k 0) 0 (sym e ∙ z)); left = λ _. s }

-- a piece that fails, and two that do not
pub fall : (good' : Bool) (ks' : List ℕ) {good ok : Bool} {ks m m₁ m' : List ℕ} → Marked good ks m ok m₁ → ok ≡ false → Marked (good && good') (ks ++ ks') m false m'
fall good' ks' {good} {ok} {ks} {m} c z = refusal (two good good' ks ks' m ∙ rw (sym c.answer ∙ z))

pub both : {good good' ok ok' : Bool} {ks ks' m m₁ m' : List ℕ} → Marked good ks m ok m₁ → ok ≡ true → Marked good' ks' m₁ ok' m' → Marked (good && good') (ks ++ ks') m ok' m'
both {good} {good'} {ks = ks} {ks' = ks'} {m = m} c z d = record {
  answer = rw (c.left z) at d.answer ∙ sym (two good good' ks ks' m ∙ rw (sym c.answer ∙ z));
  left = λ e. rw (c.left z) at (d.left e) ∙ sym (marked_append m ks ks');
}

-- ---- a loop over pieces: those below j are marked
pub record Going (p : ℕ → Bool) (f : ℕ → List ℕ) (m : List ℕ) (j : ℕ) (m' : List ℕ) : Type 0 where
  pub so_far : Marked (every j p) (joined j f) m true m'

module _ (p : ℕ → Bool) (f : ℕ → List ℕ) (m : List ℕ) where
  -- once a piece has failed, so has the whole
  still : (a n : ℕ) → a ≤ n → (every a p && unmarked m (joined a f)) ≡ false → (every n p && unmarked m (joined n f)) ≡ false
  unfolding every joined
  still a zero l e = let z : a ≡ 0 = omega arith in rw z at e
  still a (suc n) l e = elim (split a n) [
    | inl u ↦ two (every n p) (p n) (joined n f) (f n) m ∙ rw (still a n u e)
    | inr u ↦ let z : a ≡ suc n = omega arith in rw z at e
  ]

module _ {p : ℕ → Bool} {f : ℕ → List ℕ} {m : List ℕ} where
  pub start : Going p f m 0 m
  unfolding every joined
  start = record { so_far = nothing refl refl }

  module _ {m₁ m₂ : List ℕ} {j : ℕ} {ok : Bool} (g : Going p f m j m₁) (c : Marked (p j) (f j) m₁ ok m₂) where
    pub step : ok ≡ true → Going p f m (j + 1) m₂
    unfolding every joined
    step z = record { so_far = rw (add-one j, ← z) (both g.so_far refl c) }

    pub stop : {n : ℕ} {m' : List ℕ} → j < n → ok ≡ false → Marked (every n p) (joined n f) m false m'
    unfolding every joined
    stop {n} {m'} l z =
        let e : ok ≡ (every (suc j) p && unmarked m (joined (suc j) f)) = (both g.so_far refl c).answer in
        refusal (still p f m (suc j) n l (sym e ∙ z))

  pub all : {m₁ : List ℕ} {j n : ℕ} → Going p f m j m₁ → j ≡ n → Marked (every n p) (joined n f) m true m₁
  all g e = rw e at g.so_far

  -- every later piece is good and has no blocks: what is marked is all
  pub rest : {m₁ : List ℕ} {j : ℕ} → Going p f m j m₁ → ((i : ℕ) → j ≤ i → Marked (p i) (f i) m₁ true m₁) → (n : ℕ) → j ≤ n → Marked (every n p) (joined n f) m true m₁
  unfolding every joined
  rest g d zero l = all {n = zero} g (omega arith)
  rest {j = j} g d (suc n) l = elim (split j n) [
    | inl u ↦ both (rest g d n u) refl (d n u)
    | inr u ↦ all {n = suc n} g (omega arith)
  ]
