-- What a read answers and leaves in its buffer.
use Rattle.std.specs.Prelude.{◌≡◌, List, ℕ, ℤ}
use Rattle.model.specs.Layout.{house}
use Rattle.model.specs.Cabinet.{image_read, image_read_buffer}

-- the number and the buffer are the definition's
pub record ImageReadResult (image : List ℕ) (f o : ℕ) (out : List ℕ) (r : ℤ) (out' : List ℕ) : Type 0 where
  pub answer : r ≡ image_read house image f o out
  pub buffer : out' ≡ image_read_buffer house image f o out
