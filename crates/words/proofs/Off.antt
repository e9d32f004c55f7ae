-- Words off a slice or past the end of a board, and the powers of a shift.
use mathlib.Core.Path.{◌≡◌, sym}
use mathlib.Core.List.{List}
use Prim.Native.Nat.{ℕ, zero, suc, ◌+◌, ◌-◌, ◌*◌, ◌/◌, ◌^◌, ◌≤◌, ◌<◌}
use native.Mathlib.Nat.{mul-zero, mul-suc, pow-zero, pow-suc}
use native.Mathlib.Omega.{arith}
use lib.Pow.{pow-add}
use lib.ListN.{length, get_or, get_or-eq_default}
use Rattle.model.specs.Tree.{cell}
use Rattle.words.proofs.Widths.{beyond}

-- past the end of a list stands 0
pub past : (l : List ℕ) (n : ℕ) → length l ≤ n → 0 ≡ get_or l n 0
past l n h = sym (get_or-eq_default l 0 h)

-- word j of block k of a list of n words: the block begins past the end, or the word lies there
module _ (l : List ℕ) {n : ℕ} (e : length l ≡ n) (b k j : ℕ) where
  pub off_block : n / 2 ^ b < k → 0 ≡ cell (2 ^ b) l k j
  unfolding cell
  off_block h = past l (2 ^ b * k + j) (omega (arith, e, beyond b k n h))

  pub off_word : n - 2 ^ b * k ≤ j → 0 ≡ cell (2 ^ b) l k j
  unfolding cell
  off_word h = past l (2 ^ b * k + j) (omega (arith, e, h))

-- a shift by i times b bits
pub shift : (b i : ℕ) → 2 ^ (b * i) ≡ (2 ^ b) ^ i
shift b zero = rw (mul-zero b, pow-zero (2 ^ b))
shift b (suc i) = rw (mul-suc b i, pow-add 2 (b * i) b, pow-suc (2 ^ b) i, shift b i)
