-- Bytes and words. A word is a number below 2 ^ 64, a byte a number below 256.
use Rattle.std.specs.Prelude.{List, ℕ, zero, suc, ◌+◌, ◌*◌, ◌/◌, ◌%◌, ◌^◌, length, get_or, T, ltb}
use Rattle.model.specs.Lists.{tabulate, all}

-- *Byte i of a word*: its value / 256^i mod 256
unfoldable pub byte_of : ℕ → ℕ → ℕ
byte_of x i = x / 256 ^ i % 256

-- the number whose bytes are f 0, f 1, .., f (m - 1); a word has 8
unfoldable pub word_of : ℕ → (ℕ → ℕ) → ℕ
word_of zero f = 0
word_of (suc m) f = f 0 + 256 * word_of m (λ i. f (suc i))

-- the words of an image: *eight bytes to a word, byte 0 first*
unfoldable pub words_of : List ℕ → List ℕ
words_of image = tabulate (length image / 8) (λ w. word_of 8 (λ i. get_or image (8 * w + i) 0))

-- a list of bytes
pub record Bytes : Type 0 where
  pub values : List ℕ
  pub small : T (all (λ x. ltb x 256) values)
