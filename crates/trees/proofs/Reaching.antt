-- The span of a tree as a shift, and trees whose span can be computed.
use mathlib.Core.Path.{◌≡◌}
use mathlib.Core.Logic.{inl, inr}
use Prim.Native.Nat.{ℕ, suc, ◌+◌, ◌-◌, ◌*◌, ◌%◌, ◌^◌, ◌≤◌, ◌<◌}
use native.Mathlib.Nat.{mul-le-mul_right, mod-eq_of_lt}
use native.Mathlib.Numerals.{add-one}
use native.Mathlib.Omega.{arith}
use lib.Pow.{pow_pos, pow_mono}
use Rattle.model.specs.Tree.{span}
use Rattle.model.proofs.Cases.{split}
use Rattle.model.proofs.Spans.{span_power, span_mono}
use Rattle.words.proofs.Off.{shift}
use Rattle.words.proofs.Widths as Widths
use Rattle.trees.specs.Trees.{Reach, Spanned}

span_shift : (b h : ℕ) → 8 * 2 ^ (b * (h + 1)) ≡ span (2 ^ b) h
span_shift b h = rw (add-one h, shift b (suc h), span_power (2 ^ b) h)

-- a child's tree
pub lower : {b h : ℕ} → Reach b h → Reach b (h - 1)
lower {b} {h} r = record { width = r.width; spans = omega (arith, span_mono (2 ^ b) (pow_pos b) (h - 1) h (omega arith), r.spans) }

-- a data block
pub lowest : {b h : ℕ} → Reach b h → Reach b 0
lowest {b} {h} r = record { width = r.width; spans = omega (arith, span_mono (2 ^ b) (pow_pos b) 0 h (omega arith), r.spans) }

-- the shift is small
pub shift_small : {b h : ℕ} → Reach b h → b * (h + 1) ≤ 24
shift_small {b} {h} r = elim (split (b * (h + 1)) 24) [
  | inl l ↦ l
  | inr l ↦ let m : 2 ^ 25 ≤ 2 ^ (b * (h + 1)) = pow_mono l in absurd (omega (arith, span_shift b h, r.spans))
]

-- so is the height
pub height_small : {b h : ℕ} → Reach b h → h < 8
height_small {b} {h} r = omega (arith, shift_small r, mul-le-mul_right (h + 1) r.width.low)

-- a block has more than one word
pub two : {b h : ℕ} → Reach b h → 1 < 2 ^ b
two r = omega (arith, Widths.least r.width)

-- the shift is the span
pub shifted : {b h : ℕ} → Reach b h → Spanned (2 ^ b) h (8 * 2 ^ (b * (h + 1)) % 18446744073709551616)
unfolding span
shifted {b} {h} r =
    let low : 8 * 2 ^ b ≤ span (2 ^ b) h = span_mono (2 ^ b) (pow_pos b) 0 h (omega arith) in
    let e : 8 * 2 ^ (b * (h + 1)) % 18446744073709551616 ≡ span (2 ^ b) h = rw (span_shift b h) (mod-eq_of_lt (omega (arith, r.spans))) in
    record { is = e; low = rw e (omega (arith, Widths.least r.width)); high = rw e r.spans }

-- the heights of a house board's roots
pub house_reach : (h : ℕ) → h < 8 → Reach 3 h
unfolding span
house_reach h l = record { width = record { low = omega arith; high = omega arith }; spans = span_mono 8 (omega arith) h 7 (omega arith) }
