-- What the calls on words answer, as C gets it, and leave in the slices lent to them: the definition's.
use Rattle.std.specs.Prelude.{◌≡◌, List, ℕ, ℤ}
use Rattle.model.specs.Layout.{Layout}
use Rattle.model.specs.Answers.{signed}
use Rattle.model.specs.Calls.{read_answer, read_buffer, Planned, perform_answer, perform_board}

pub record WordsRead (g : Layout) (b : List ℕ) (f o : ℕ) (out : List ℕ) (r : ℤ) (out' : List ℕ) : Type 0 where
  pub answer : r ≡ signed (read_answer g b f o out)
  pub buffer : out' ≡ read_buffer g b f o out

-- a call that plans
pub record WordsPlan (p : Planned) (r : ℤ) (slice' : List ℕ) : Type 0 where
  pub answer : r ≡ signed p.answer
  pub plan : slice' ≡ p.slice

pub record WordsPerform (g : Layout) (b slice : List ℕ) (k : ℕ) (r : ℤ) (b' : List ℕ) : Type 0 where
  pub answer : r ≡ signed (perform_answer g b slice k)
  pub board : b' ≡ perform_board g b slice k
