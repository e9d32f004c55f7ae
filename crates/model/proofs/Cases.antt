-- Cases on numbers and tests, and laws of the loops of specs/Lists.antt.
use mathlib.Core.Path.{◌≡◌, refl, sym, ap, ap₂, subst, ◌∙◌}
use mathlib.Core.Logic.{◌≢◌, ◌⊎◌, inl, inr}
use mathlib.Core.Bool.{Bool, true, false, ◌&&◌, ◌||◌, and-false, false≢true}
use mathlib.Core.List.{List, [], ◌∷◌, ◌++◌, append_assoc, append-nil}
use Prim.Native.Nat.{ℕ, zero, suc, ◌+◌, ◌≤◌, ◌<◌}
use native.Mathlib.Omega.{arith}
use native.Mathlib.Nat.{add-zero, add-suc}
use native.Mathlib.Numerals.{add-one}
use lib.ListN.{length, length-append}
use lib.Dec.{T, leb, eqb}
use borrow.Author.Tests.{leb-true, leb-false, eqb-true, eqb-false}
use Rattle.model.specs.Lists.{tabulate, joined, every, some, sum}

pub split : (a b : ℕ) → (a ≤ b) ⊎ (b < a)
split a b = go (leb a b) refl
  where
    go : (t : Bool) → leb a b ≡ t → (a ≤ b) ⊎ (b < a)
    go true e = inl (leb-true a b e)
    go false e = inr (leb-false a b e)

pub decide : (a b : ℕ) → (a ≡ b) ⊎ (a ≢ b)
decide a b = go (eqb a b) refl
  where
    go : (t : Bool) → eqb a b ≡ t → (a ≡ b) ⊎ (a ≢ b)
    go true e = inl (eqb-true a b e)
    go false e = inr (eqb-false a b e)

pub either : (t : Bool) → (t ≡ true) ⊎ (t ≡ false)
either true = inl refl
either false = inr refl

pub is_true : (t : Bool) → T t → t ≡ true
is_true true h = refl
is_true false h = absurd h

pub and_left : (s t : Bool) → T (s && t) → T s
and_left true t h = tt
and_left false t h = h

pub and_right : (s t : Bool) → T (s && t) → T t
and_right true t h = h
and_right false t h = absurd h

pub and_both : (s t : Bool) → T s → T t → T (s && t)
and_both true t h g = g
and_both false t h g = h

pub or_left : (s t : Bool) → T s → T (s || t)
or_left true t h = tt
or_left false t h = absurd h

pub or_right : (s t : Bool) → T t → T (s || t)
or_right true t h = tt
or_right false t h = h

pub some_at : (m : ℕ) (p : ℕ → Bool) (j : ℕ) → j < m → T (p j) → T (some m p)
unfolding some
some_at zero p j l t = absurd (omega arith)
some_at (suc m) p j l t = elim (decide m j) [
  | inl e ↦ or_right (some m p) (p m) (subst (λ (x : ℕ). T (p x)) (sym e) t)
  | inr n ↦ or_left (some m p) (p m) (some_at m p j (omega arith) t)
]

pub or_cases : (s t : Bool) → T (s || t) → T s ⊎ T t
or_cases true t h = inl tt
or_cases false t h = inr h

pub some_of : (m : ℕ) (p : ℕ → Bool) → T (some m p) → (j : ℕ) × (j < m) × T (p j)
unfolding some
some_of zero p h = absurd h
some_of (suc m) p h = elim (or_cases (some m p) (p m) h) [
  | inl u ↦ let c = some_of m p u in (c.0, omega (arith, c.1), c.2)
  | inr u ↦ (m, omega arith, u)
]

-- the same of a test's value
pub true_left : (s t : Bool) → (s && t) ≡ true → s ≡ true
true_left true t e = refl
true_left false t e = e

pub true_right : (s t : Bool) → (s && t) ≡ true → t ≡ true
true_right true t e = e
true_right false t e = absurd (false≢true e)

pub every_all : (m : ℕ) (p : ℕ → Bool) → ((j : ℕ) → j < m → T (p j)) → T (every m p)
unfolding every
every_all zero p f = tt
every_all (suc m) p f = and_both (every m p) (p m) (every_all m p (λ j h. f j (omega arith))) (f m (omega arith))

pub every_of : (m : ℕ) (p : ℕ → Bool) → T (every m p) → (j : ℕ) → j < m → T (p j)
unfolding every
every_of zero p h j l = absurd (omega arith)
every_of (suc m) p h j l = elim (decide m j) [
  | inl e ↦ subst (λ (x : ℕ). T (p x)) e (and_right (every m p) (p m) h)
  | inr n ↦ every_of m p (and_left (every m p) (p m) h) j (omega arith)
]

pub every_cong : (m : ℕ) (p q : ℕ → Bool) → ((j : ℕ) → j < m → p j ≡ q j) → every m p ≡ every m q
unfolding every
every_cong zero p q e = refl
every_cong (suc m) p q e = ap₂ ◌&&◌ (every_cong m p q (λ j h. e j (omega arith))) (e m (omega arith))

-- what a loop over the numbers below n finds
pub every_more : (j : ℕ) (p : ℕ → Bool) → every j p ≡ true → p j ≡ true → every (j + 1) p ≡ true
unfolding every
every_more j p e h = rw (add-one j, e, h)

pub every_fails : (n j : ℕ) (p : ℕ → Bool) → j < n → p j ≡ false → every n p ≡ false
unfolding every
every_fails zero j p l e = absurd (omega arith)
every_fails (suc n) j p l e = elim (decide j n) [
  | inl z ↦ rw (← z, e, and-false)
  | inr z ↦ rw (every_fails n j p (omega arith) e)
]

module _ {A : Type 0} where
  pub tabulate_cong : (m : ℕ) (f g : ℕ → A) → ((j : ℕ) → j < m → f j ≡ g j) → tabulate m f ≡ tabulate m g
  unfolding tabulate
  tabulate_cong zero f g e = refl
  tabulate_cong (suc m) f g e = ap₂ ◌++◌ (tabulate_cong m f g (λ j h. e j (omega arith))) (ap (λ (x : A). x ∷ []) (e m (omega arith)))

  pub tabulate_add : (m n : ℕ) (f : ℕ → A) → tabulate (m + n) f ≡ tabulate m f ++ tabulate n (λ j. f (m + j))
  unfolding tabulate
  tabulate_add m zero f = rw add-zero (sym (append-nil (tabulate m f)))
  tabulate_add m (suc n) f = rw (add-suc m n, tabulate_add m n f) (append_assoc (tabulate m f) (tabulate n (λ j. f (m + j))) (f (m + n) ∷ []))

  -- a loop that makes one element a turn makes a list of one a turn
  pub tabulate_joined : (n : ℕ) (f : ℕ → A) → tabulate n f ≡ joined n (λ j. f j ∷ [])
  unfolding tabulate joined
  tabulate_joined zero f = refl
  tabulate_joined (suc n) f = rw (tabulate_joined n f)

  pub joined_none : (m : ℕ) (f : ℕ → List A) → ((j : ℕ) → j < m → f j ≡ []) → joined m f ≡ []
  unfolding joined
  joined_none zero f e = refl
  joined_none (suc m) f e = ap₂ ◌++◌ (joined_none m f (λ j h. e j (omega arith))) (e m (omega arith))

  pub joined_cong : (m : ℕ) (f g : ℕ → List A) → ((j : ℕ) → j < m → f j ≡ g j) → joined m f ≡ joined m g
  unfolding joined
  joined_cong zero f g e = refl
  joined_cong (suc m) f g e = ap₂ ◌++◌ (joined_cong m f g (λ j h. e j (omega arith))) (e m (omega arith))

  pub length_joined : (m : ℕ) (f : ℕ → List A) → length (joined m f) ≡ sum m (λ j. length (f j))
  unfolding joined sum
  length_joined zero f = refl
  length_joined (suc m) f = length-append (joined m f) (f m) ∙ ap (λ (x : ℕ). x + length (f m)) (length_joined m f)
