-- Shifts by the bits of a block's width. In a product with the width omega takes 2 ^ b for one unknown; what it needs to know of it stands here.
use mathlib.Core.Path.{◌≡◌, sym, ap, ◌∙◌}
use mathlib.Core.Logic.{inl, inr}
use Prim.Native.Nat.{ℕ, ◌+◌, ◌-◌, ◌*◌, ◌/◌, ◌%◌, ◌^◌, ◌≤◌, ◌<◌}
use native.Mathlib.Nat.{mul_comm, mul-le-mul_left, mul-le-mul_right, div-mul-le_self, lt-div-mul-add}
use native.Mathlib.Omega.{arith}
use lib.Pow.{pow_pos, pow_mono, pow-add}
use Rattle.model.proofs.Cases.{split}
use Rattle.words.specs.Width.{Width, Wide}

-- 8 to 512 words
pub least : {b : ℕ} → Width b → 8 ≤ 2 ^ b
least w = pow_mono w.low

pub most : {b : ℕ} → Width b → 2 ^ b ≤ 512
most w = pow_mono w.high

pub wide : {b : ℕ} → Width b → Wide b (1 * 2 ^ b % 18446744073709551616)
wide w = let e = most w in let f = least w in record { is = omega arith; least = omega arith; most = omega arith }

-- the bytes of a block
pub bytes : (b : ℕ) → 2 ^ (b + 3) ≡ 8 * 2 ^ b
bytes b = pow-add 2 b 3 ∙ mul_comm (2 ^ b) 8

-- block k begins on a board of n words, or past its end
pub within : (b k n : ℕ) → k ≤ n / 2 ^ b → 2 ^ b * k ≤ n
within b k n l = omega (arith, mul-le-mul_right (2 ^ b) l, div-mul-le_self n (2 ^ b), mul_comm k (2 ^ b))

pub beyond : (b k n : ℕ) → n / 2 ^ b < k → n ≤ 2 ^ b * k
beyond b k n l = omega (arith, mul-le-mul_right (2 ^ b) l, lt-div-mul-add {a = n} (pow_pos b), mul_comm k (2 ^ b))

-- the words of a block that is small enough have addresses
pub address : {b k : ℕ} → Width b → k < 2 ^ 54 → 2 ^ b * k + 512 ≤ 2 ^ 63
address {b} {k} w l = omega (arith, mul-le-mul_right k (most w))

-- the words of the block that a word points to have addresses
pub address_room : {b : ℕ} → Width b → (v : ℕ) → v < 2 ^ 64 → 2 ^ b * (v / 2 ^ b) + 2 ^ b ≤ 2 ^ 64
address_room {b} w v l =
    let q : ℕ = 2 ^ (64 - b) in
    let e : b + (64 - b) ≡ 64 = omega (arith, w.high) in
    let whole : 2 ^ b * q ≡ 2 ^ 64 = sym (pow-add 2 b (64 - b)) ∙ ap (λ (x : ℕ). 2 ^ x) e in
    elim (split q (v / 2 ^ b)) [
      | inl m ↦ absurd (omega (arith, mul-le-mul_left (2 ^ b) m, div-mul-le_self v (2 ^ b), mul_comm (2 ^ b) (v / 2 ^ b), whole))
      | inr m ↦ let n : v / 2 ^ b + 1 ≤ q = omega arith in omega (arith, mul-le-mul_left (2 ^ b) n, whole)
    ]
