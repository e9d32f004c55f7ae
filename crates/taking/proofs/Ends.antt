-- The loop over the children of a tree, each spanning s bytes, that get some of l bytes written at its end, n: from child n / s on, up to the first that gets none.
use mathlib.Core.Path.{◌≡◌}
use mathlib.Core.Logic.{inl, inr}
use Prim.Native.Nat.{ℕ, zero, suc, ◌+◌, ◌-◌, ◌*◌, ◌/◌, ◌≤◌, ◌<◌, min}
use native.Mathlib.Nat.{div-mul-le_self, lt-div-mul-add, mul-le-mul_right, suc-mul, min-zero}
use native.Mathlib.Numerals.{add-one}
use native.Mathlib.Omega.{arith}
use lib.Arith.{le-zero}
use Rattle.model.specs.Fresh.{part_length}
use Rattle.model.proofs.Cases.{decide}

-- P holds of the children before j, of w. The loop may begin past the last
pub record Along (P : ℕ → Type 0) (s n w j : ℕ) : Type 0 where
  pub from : n / s ≤ j
  pub holds : P (min j w)

other : (a b : ℕ) → 0 < a → min a b ≡ 0 → b ≡ 0
other a b some e = omega arith

module _ (s n l : ℕ) where
  -- all bytes of a child before n / s lie before n
  early : (i : ℕ) → i < n / s → part_length s i n l ≡ 0
  unfolding part_length
  early i u = omega (arith, div-mul-le_self n s, mul-le-mul_right s u, suc-mul i s)

  -- the last byte of another does not
  begun : 0 < s → (j : ℕ) → n / s ≤ j → 0 < s - (n - j * s)
  begun pos j u = let all : n < n / s * s + s = lt-div-mul-add pos in omega (arith, mul-le-mul_right s u)

  ended : (j i : ℕ) → l - (j * s - n) ≡ 0 → j ≤ i → l - (i * s - n) ≡ 0
  ended j i e v = omega (arith, mul-le-mul_right s v)

  -- so if it gets none, the bytes end before it
  late : 0 < s → (j i : ℕ) → n / s ≤ j → part_length s j n l ≡ 0 → j ≤ i → part_length s i n l ≡ 0
  unfolding part_length
  late pos j i u e v = rw (ended j i (other _ _ (begun pos j u) e) v) (min-zero _)

run : (P : ℕ → Type 0) (a b : ℕ) → a ≤ b → ((i : ℕ) → a ≤ i → i < b → P i → P (i + 1)) → P a → P b
run P a zero u step p = rw (le-zero u) at p
run P a (suc b) u step p = elim (decide a (suc b)) [
  | inl e ↦ rw e at p
  | inr n ↦ rw add-one at (step b (omega arith) (omega arith) (run P a b (omega arith) (λ i v x. step i v (omega arith)) p))
]

-- ---- The loop, where a child that gets none changes nothing (`skip`)

pub begin : (P : ℕ → Type 0) {s n : ℕ} (l : ℕ) → ((i : ℕ) → part_length s i n l ≡ 0 → P i → P (i + 1)) → (w : ℕ) → P 0 → Along P s n w (n / s)
begin P {s} {n} l skip w p = record { from = omega arith; holds = run P 0 (min (n / s) w) (omega arith) (λ i u v. skip i (early s n l i (omega arith))) p }

module _ {P : ℕ → Type 0} {s n w j : ℕ} (a : Along P s n w j) where
  pub here : j < w → P j
  here less = let e : min j w ≡ j = omega arith in rw e at a.holds

  pub next : {Q : ℕ → Type 0} → j < w → Q (j + 1) → Along Q s n w (j + 1)
  next less q = let e : j + 1 ≡ min (j + 1) w = omega arith in record { from = omega (arith, a.from); holds = rw e at q }

  -- it is over where child j gets none
  pub over : (l : ℕ) → ((i : ℕ) → part_length s i n l ≡ 0 → P i → P (i + 1)) → 0 < s → j < w → part_length s j n l ≡ 0 → P w
  over l skip pos less e = run P j w (omega arith) (λ i u v. skip i (late s n l pos j i a.from e u)) (here less)

  -- and where all are done
  pub done : w ≤ j → P w
  done past = let e : min j w ≡ w = omega arith in rw e at a.holds
