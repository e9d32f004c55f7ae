-- Bytes of words.
use mathlib.Core.Path.{◌≡◌, sym, ap, ◌∙◌}
use Prim.Native.Nat.{ℕ, zero, suc, ◌+◌, ◌*◌, ◌/◌, ◌%◌, ◌^◌, ◌<◌}
use native.Mathlib.Omega.{arith}
use native.Mathlib.Nat.{pow-succ', div-div-eq-div-mul}
use Rattle.model.specs.Words.{byte_of, word_of}

pub byte_of_lt : (x i : ℕ) → byte_of x i < 256
unfolding byte_of
byte_of_lt x i = omega arith

pub byte_of_suc : (x i : ℕ) → byte_of x (suc i) ≡ byte_of (x / 256) i
unfolding byte_of
byte_of_suc x i = ap (λ (y : ℕ). y % 256) (ap (λ (y : ℕ). x / y) (pow-succ' 256 i) ∙ sym (div-div-eq-div-mul x 256 (256 ^ i)))

low : (a r : ℕ) → a < 256 → byte_of (a + 256 * r) 0 ≡ a
unfolding byte_of
low a r h = omega arith

high : (a r : ℕ) → a < 256 → (a + 256 * r) / 256 ≡ r
high a r h = omega arith

pub byte_of_word_of : (m : ℕ) (f : ℕ → ℕ) → ((t : ℕ) → f t < 256) → (i : ℕ) → i < m → byte_of (word_of m f) i ≡ f i
unfolding word_of
byte_of_word_of zero f small i l = absurd (omega arith)
byte_of_word_of (suc m) f small zero l = low (f 0) (word_of m (λ i. f (suc i))) (small 0)
byte_of_word_of (suc m) f small (suc i) l = byte_of_suc (f 0 + 256 * word_of m (λ t. f (suc t))) i
    ∙ ap (λ (y : ℕ). byte_of y i) (high (f 0) (word_of m (λ t. f (suc t))) (small 0)) ∙ byte_of_word_of m (λ t. f (suc t)) (λ t. small (suc t)) i (omega arith)
