-- The board that an image is read as.
use Rattle.std.specs.Prelude.{◌≡◌, cond, ◌&&◌, List, [], ℕ, ◌%◌, ◌≤◌, length, take, leb, eqb}
use Rattle.model.specs.Words.{words_of}

-- The board that an image is read as: its words, or none where its bytes are no whole number of words or more than a board's. A board of no words is
-- refused 1, as such an image is.
unfoldable pub board_of : List ℕ → List ℕ
board_of image = cond (eqb (length image % 8) 0 && leb (length image) 65536) (words_of image) []

-- the first n words are the board
pub record Loaded (image : List ℕ) (n : ℕ) (words : List ℕ) : Type 0 where
  pub within : n ≤ length words
  pub board : take n words ≡ board_of image
