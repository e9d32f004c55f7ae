-- The calls of *the cabinet's C program*, on a board image held as bytes. Document 01, 'What each call turns away', its last paragraph.
use Rattle.std.specs.Prelude.{not, List, [], ◌∷◌, ◌++◌, ℕ, ◌%◌, length, eqb, ℤ}
use Rattle.model.specs.declared.Fault.TheVariants.{WordCount}
use Rattle.model.specs.Words.{words_of}
use Rattle.model.specs.Layout.{Layout}
use Rattle.model.specs.Board.{size}
use Rattle.model.specs.Answers.{Faults, answered, unless_refused, signed, Answer}
use Rattle.model.specs.Calls.{board_faults, file_faults, read_count, read_buffer}

-- *A byte count that isn't a multiple of 8 is refused 1.* So is one above the most words, by the board's own first fault
unfoldable pub image_faults : List ℕ → Faults
image_faults image = (WordCount, not (eqb (length image % 8) 0)) ∷ []

module _ (g : Layout) (image : List ℕ) where
  -- check, as an answer
  unfoldable pub image_check_answer : Answer
  image_check_answer = answered (image_faults image ++ board_faults g (words_of image)) 0

  -- and as C gets it
  unfoldable pub image_check : ℤ
  image_check = signed image_check_answer

  -- size
  unfoldable pub image_size : ℕ → ℤ
  image_size f = signed (answered (image_faults image ++ file_faults g (words_of image) f) (size g (words_of image) f))

  -- read, as an answer
  unfoldable pub image_read_answer : ℕ → ℕ → List ℕ → Answer
  image_read_answer f o out = answered (image_faults image ++ file_faults g (words_of image) f) (read_count g (words_of image) f o out)

  -- and as C gets it
  unfoldable pub image_read : ℕ → ℕ → List ℕ → ℤ
  image_read f o out = signed (image_read_answer f o out)

  -- the buffer at exit
  unfoldable pub image_read_buffer : ℕ → ℕ → List ℕ → List ℕ
  image_read_buffer f o out = unless_refused (image_read_answer f o out) (read_buffer g (words_of image) f o out) out
