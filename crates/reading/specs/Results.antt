-- What a read answers and leaves in its buffer.
use Rattle.model.specs.Answers.{Answer}
use Rattle.std.specs.Prelude.{◌≡◌, List, ℕ}
use Rattle.model.specs.Layout.{Layout}
use Rattle.model.specs.Calls.{read_answer, read_buffer}

-- the answer and the buffer are the definition's
pub record ReadResult (g : Layout) (b : List ℕ) (f o : ℕ) (out : List ℕ) (r : Answer) (out' : List ℕ) : Type 0 where
  pub answer : r ≡ read_answer g b f o out
  pub buffer : out' ≡ read_buffer g b f o out
