-- Sums over the numbers below a bound.
use mathlib.Core.Path.{◌≡◌, refl, sym, ap, ap₂, ◌∙◌, subst}
use mathlib.Core.Logic.{◌≢◌, inl, inr}
use mathlib.Core.Bool.{true, false}
use Prim.Native.Nat.{ℕ, zero, suc, ◌+◌, ◌≤◌, ◌<◌}
use native.Mathlib.Omega.{arith}
use native.Mathlib.Nat.{add-zero, add-suc}
use lib.Arith.{le-zero}
use lib.Dec.{eqb}
use borrow.Author.Tests.{eq-eqb, ne_eqb}
use Rattle.model.specs.Lists.{sum}
use Rattle.model.proofs.Cases.{split, decide}

pub sum_cong : (m : ℕ) (f g : ℕ → ℕ) → ((j : ℕ) → j < m → f j ≡ g j) → sum m f ≡ sum m g
unfolding sum
sum_cong zero f g e = refl
sum_cong (suc m) f g e = ap₂ ◌+◌ (sum_cong m f g (λ j h. e j (omega arith))) (e m (omega arith))

pub sum_le : (m : ℕ) (f g : ℕ → ℕ) → ((j : ℕ) → j < m → f j ≤ g j) → sum m f ≤ sum m g
unfolding sum
sum_le zero f g e = omega arith
sum_le (suc m) f g e = omega (arith, sum_le m f g (λ j h. e j (omega arith)), e m (omega arith))

pub sum_add : (m : ℕ) (f g : ℕ → ℕ) → sum m (λ j. f j + g j) ≡ sum m f + sum m g
unfolding sum
sum_add zero f g = refl
sum_add (suc m) f g = omega (arith, sum_add m f g)

-- one term is at most the sum
pub sum_at : (m : ℕ) (f : ℕ → ℕ) (j : ℕ) → j < m → f j ≤ sum m f
unfolding sum
sum_at zero f j h = omega arith
sum_at (suc m) f j h = elim (decide m j) [
  | inl e ↦ subst (λ (x : ℕ). f x ≤ sum m f + f m) e (omega arith)
  | inr n ↦ omega (arith, sum_at m f j (omega arith))
]

-- a longer sum is no less
pub sum_mono : (f : ℕ → ℕ) (j m : ℕ) → j ≤ m → sum j f ≤ sum m f
unfolding sum
sum_mono f j zero h = rw (le-zero h) (omega arith)
sum_mono f j (suc m) h = elim (decide j (suc m)) [
  | inl e ↦ rw e (omega arith)
  | inr n ↦ omega (arith, sum_mono f j m (omega arith))
]

pub sum_next : (m : ℕ) (f : ℕ → ℕ) (j : ℕ) → j < m → sum j f + f j ≤ sum m f
unfolding sum
sum_next m f j l = sum_mono f (suc j) m l

pub sum_zero : (m : ℕ) (f : ℕ → ℕ) → ((j : ℕ) → j < m → f j ≡ 0) → sum m f ≡ 0
unfolding sum
sum_zero zero f e = refl
sum_zero (suc m) f e = omega (arith, sum_zero m f (λ j h. e j (omega arith)), e m (omega arith))

-- two terms are
pub sum_two : (m : ℕ) (f : ℕ → ℕ) (i j : ℕ) → i < m → j < m → i ≢ j → f i + f j ≤ sum m f
unfolding sum
sum_two zero f i j u v n = absurd (omega arith)
sum_two (suc m) f i j u v n = elim (decide m i) [
  | inl e ↦ subst (λ (x : ℕ). f x + f j ≤ sum m f + f m) e (omega (arith, sum_at m f j (omega arith)))
  | inr p ↦ elim (decide m j) [
    | inl e ↦ subst (λ (x : ℕ). f i + f x ≤ sum m f + f m) e (omega (arith, sum_at m f i (omega arith)))
    | inr q ↦ omega (arith, sum_two m f i j (omega arith) (omega arith) n)
  ]
]

-- one term grows by at most e, the others do not
pub sum_grow : (m : ℕ) (f g : ℕ → ℕ) (i e : ℕ) → f i ≤ g i + e → ((j : ℕ) → j < m → j ≢ i → f j ≤ g j) → sum m f ≤ sum m g + e
unfolding sum
sum_grow zero f g i e p q = omega arith
sum_grow (suc m) f g i e p q = elim (decide m i) [
  | inl x ↦ omega (arith, sum_le m f g (λ j l. q j (omega arith) (omega arith)), subst (λ (y : ℕ). f y ≤ g y + e) (sym x) p)
  | inr x ↦ omega (arith, sum_grow m f g i e p (λ j l n. q j (omega arith) n), q m (omega arith) x)
]

pub sum_split : (m n : ℕ) (f : ℕ → ℕ) → sum (m + n) f ≡ sum m f + sum n (λ i. f (m + i))
unfolding sum
sum_split m zero f = ap (λ (x : ℕ). sum x f) (add-zero m) ∙ sym (add-zero (sum m f))
sum_split m (suc n) f = rw add-suc (omega (arith, sum_split m n f))

-- x at j, and 0 elsewhere
unfoldable pub only : ℕ → ℕ → ℕ → ℕ
only i j x = elim (eqb i j) [ true ↦ x | false ↦ 0 ]

pub only_same : (j x : ℕ) → only j j x ≡ x
unfolding only
only_same j x = rw (eq-eqb j j refl, only)

pub only_other : (i j x : ℕ) → i ≢ j → only i j x ≡ 0
unfolding only
only_other i j x n = rw (ne_eqb i j n, only)

pub sum_only : (m j x : ℕ) → sum m (λ i. only i j x) ≤ x
sum_only m j x = omega (arith, sum_grow m (λ i. only i j x) (λ i. 0) j x (omega (arith, only_same j x)) (λ i l n. omega (arith, only_other i j x n)), sum_zero m (λ i. 0) (λ i l. refl))

pub sum_only_at : (m j x : ℕ) → j < m → sum m (λ i. only i j x) ≡ x
sum_only_at m j x l = omega (arith, sum_only m j x, sum_at m (λ i. only i j x) j l, only_same j x)

-- a sum that is not 0 has a term that is not
pub sum_some : (m : ℕ) (f : ℕ → ℕ) → 0 < sum m f → (j : ℕ) × (j < m) × (0 < f j)
unfolding sum
sum_some zero f p = absurd (omega arith)
sum_some (suc m) f p = elim (split (f m) 0) [
  | inl z ↦ let s = sum_some m f (omega arith) in (s.0, omega (arith, s.1), s.2)
  | inr z ↦ (m, omega arith, z)
]
