-- Bytes written over others: those under a child, and the words of a data block.
use mathlib.Core.Path.{◌≡◌, refl, sym, ap, ap₂, ◌∙◌}
use mathlib.Core.Logic.{inl, inr}
use mathlib.Core.Bool.{Bool, true, ◌||◌}
use mathlib.Core.List.{List}
use Prim.Native.Nat.{ℕ, zero, suc, ◌+◌, ◌-◌, ◌*◌, ◌/◌, ◌%◌, ◌^◌, ◌≤◌, ◌<◌}
use native.Mathlib.Omega.{arith}
use native.Mathlib.Nat.{pow-succ', mul-suc}
use lib.ListN.{length, get_or, drop}
use lib.Seq.{get_or-take, get_or-drop}
use lib.Dec.{leb, leb→le}
use Rattle.std.specs.Int.{w64, from_le_bytes}
use Rattle.std.specs.Simd.{first_chunks}
use Rattle.model.specs.Words.{byte_of, word_of}
use Rattle.model.specs.Tree.{link}
use Rattle.model.specs.Fresh.{data_page}
use Rattle.model.proofs.Bytes.{byte_of_suc}
use Rattle.model.proofs.Cases.{or_cases}
use Rattle.model.proofs.Agree.{seen_live, seen_dead}
use Rattle.model.proofs.Splice.{splice_in, splice_skip}
use Rattle.taking.specs.Taking.{spliced_byte}

-- byte i of word j: one that is written, one past the visible bytes, and one of these
module _ (x n o : ℕ) (new : List ℕ) (j i : ℕ) where
  pub byte_new : o ≤ 8 * j + i → 8 * j + i - o < length new → get_or new (8 * j + i - o) 0 ≡ spliced_byte x n o new j i
  unfolding spliced_byte
  byte_new l d = sym (splice_in o new _ (8 * j + i) l (omega arith))

  module _ (beside : o ≤ 8 * j + i → 8 * j + i < o + length new → ⊥) where
    pub byte_none : n ≤ 8 * j + i → 0 ≡ spliced_byte x n o new j i
    unfolding spliced_byte
    byte_none l = sym (splice_skip o new _ (8 * j + i) beside ∙ seen_dead (n - (8 * j + i)) (byte_of x i) (omega arith))

    pub byte_old : 8 * j + i < n → byte_of x i ≡ spliced_byte x n o new j i
    unfolding spliced_byte
    byte_old l = sym (splice_skip o new _ (8 * j + i) beside ∙ seen_live (n - (8 * j + i)) (byte_of x i) (omega arith))

pub word_cong : (m : ℕ) (f g : ℕ → ℕ) → ((i : ℕ) → i < m → f i ≡ g i) → word_of m f ≡ word_of m g
unfolding word_of
word_cong zero f g e = refl
word_cong (suc m) f g e = ap₂ (λ (x y : ℕ). x + 256 * y) (e 0 (omega arith)) (word_cong m (λ i. f (suc i)) (λ i. g (suc i)) (λ i l. e (suc i) (omega arith)))

-- a word that is written whole
pub word_new : (x n o : ℕ) (new : List ℕ) (j : ℕ) {r : ℕ} → o ≤ 8 * j → 8 * j - o + 8 ≤ length new → r ≡ word_of 8 (λ i. get_or new (8 * j - o + i) 0)
    → r ≡ word_of 8 (spliced_byte x n o new j)
unfolding spliced_byte
word_new x n o new j l d e = e ∙ word_cong 8 _ _ (λ i u. sym (splice_in o new _ (8 * j + i) (omega arith) (omega arith) ∙ ap (λ (k : ℕ). get_or new k 0) (omega arith)))

byte_of_zero : (x : ℕ) → byte_of x 0 ≡ x % 256
unfolding byte_of
byte_of_zero x = omega arith

-- a word is its bytes
own_bytes : (m x : ℕ) → x < 256 ^ m → word_of m (byte_of x) ≡ x
unfolding word_of
own_bytes zero x l = omega arith
own_bytes (suc m) x l =
    let rest : word_of m (λ i. byte_of x (suc i)) ≡ x / 256 = word_cong m _ _ (λ i u. byte_of_suc x i) ∙ own_bytes m (x / 256) (omega (arith, pow-succ' 256 m)) in
    rw rest (omega (arith, byte_of_zero x))

-- a word that no written byte falls into: all of it visible, or nothing
module _ {t : Bool} (x n o : ℕ) (new : List ℕ) (j : ℕ) (e : t ≡ (leb (8 * j + 8) o || leb (o + length new) (8 * j))) (y : t ≡ true) where
  apart : (i : ℕ) → i < 8 → o ≤ 8 * j + i → 8 * j + i < o + length new → ⊥
  apart i l u v = elim (or_cases (leb (8 * j + 8) o) (leb (o + length new) (8 * j)) (rw (← e, y) tt)) [
    | inl h ↦ absurd (omega (arith, leb→le (8 * j + 8) o h))
    | inr h ↦ absurd (omega (arith, leb→le (o + length new) (8 * j) h))
  ]

  pub word_kept : x < 2 ^ 64 → 8 * j + 8 ≤ n → x ≡ word_of 8 (spliced_byte x n o new j)
  word_kept small l = sym (own_bytes 8 x small) ∙ word_cong 8 _ _ (λ i u. byte_old x n o new j i (apart i u) (omega arith))

  pub word_gone : n ≤ 8 * j → 0 ≡ word_of 8 (spliced_byte x n o new j)
  unfolding word_of
  word_gone l = word_cong 8 (λ i. 0) _ (λ i u. byte_none x n o new j i (apart i u) (omega arith))

-- a word by its eight bytes
pub le_word : (bytes : List ℕ) (f : ℕ → ℕ) → ((i : ℕ) → i < 8 → get_or bytes i 0 ≡ f i) → from_le_bytes w64 bytes ≡ word_of 8 f
unfolding word_of
le_word bytes f e = omega (arith, e 0 (omega arith), e 1 (omega arith), e 2 (omega arith), e 3 (omega arith), e 4 (omega arith), e 5 (omega arith), e 6 (omega arith), e 7 (omega arith))

-- byte i of chunk j, of bytes cut into chunks of n
pub chunk_byte : (n k : ℕ) (bytes d : List ℕ) (j i : ℕ) → j < k → i < n → get_or (get_or (first_chunks n k bytes) j d) i 0 ≡ get_or bytes (n * j + i) 0
chunk_byte n zero bytes d j i u v = absurd (omega arith)
chunk_byte n (suc k) bytes d zero i u v = get_or-take n bytes i 0 v ∙ ap (λ (x : ℕ). get_or bytes x 0) (omega arith)
chunk_byte n (suc k) bytes d (suc j) i u v = chunk_byte n k (drop n bytes) d j i (omega arith) v ∙ get_or-drop n bytes (n * j + i) 0 ∙ ap (λ (x : ℕ). get_or bytes x 0) (omega (arith, mul-suc n j))

-- a word of a data block, by the word x that stands there
pub data_word_law : (W : ℕ) (b : List ℕ) (k n o : ℕ) (new : List ℕ) (j : ℕ) {x r : ℕ} → x ≡ link W b k j → r ≡ word_of 8 (spliced_byte x n o new j) → r ≡ data_page W b k n o new j
unfolding spliced_byte data_page
data_word_law W b k n o new j ex e = rw ex at e
