-- What the lister program prints, as bytes. Document 01, E13, with the column of N1 of document 02.
use Rattle.std.specs.Prelude.{cond, List, [], ◌∷◌, ◌++◌, ℕ, zero, suc, ◌+◌, ◌/◌, ◌%◌, length, ltb, Ok, Err}
use Rattle.model.specs.Lists.{joined}
use Rattle.model.specs.Words.{words_of}
use Rattle.model.specs.Layout.{Layout, files}
use Rattle.model.specs.Tree.{live}
use Rattle.model.specs.Board.{block_count, root_height, size, file_blocks, free}
use Rattle.model.specs.Answers.{number, Answer}
use Rattle.model.specs.Cabinet.{image_check_answer}

-- a number of at most `most` + 1 digits, in decimal
unfoldable pub digits : ℕ → ℕ → List ℕ
digits zero n = (48 + n % 10) ∷ []
digits (suc most) n = cond (ltb n 10) ((48 + n) ∷ []) (digits most (n / 10) ++ ((48 + n % 10) ∷ []))

-- a 64-bit number
unfoldable pub decimal : ℕ → List ℕ
decimal n = digits 19 n

-- a word and a number, a blank before each
unfoldable pub field : List ℕ → ℕ → List ℕ
field word n = (32 ∷ word) ++ (32 ∷ decimal n)

-- a line: its first word and number, and further fields
unfoldable pub line : List ℕ → ℕ → List ℕ → List ℕ
line word n rest = word ++ (32 ∷ decimal n) ++ rest ++ (10 ∷ [])

-- the words of the listing
abbrev pub word_blocks : List ℕ
word_blocks = 98 ∷ 108 ∷ 111 ∷ 99 ∷ 107 ∷ 115 ∷ []

abbrev pub word_free : List ℕ
word_free = 102 ∷ 114 ∷ 101 ∷ 101 ∷ []

abbrev pub word_file : List ℕ
word_file = 102 ∷ 105 ∷ 108 ∷ 101 ∷ []

abbrev pub word_size : List ℕ
word_size = 115 ∷ 105 ∷ 122 ∷ 101 ∷ []

abbrev pub word_height : List ℕ
word_height = 104 ∷ 101 ∷ 105 ∷ 103 ∷ 104 ∷ 116 ∷ []

abbrev pub word_held : List ℕ
word_held = 104 ∷ 101 ∷ 108 ∷ 100 ∷ []

abbrev pub word_refused : List ℕ
word_refused = 114 ∷ 101 ∷ 102 ∷ 117 ∷ 115 ∷ 101 ∷ 100 ∷ []

module _ (g : Layout) (b : List ℕ) where
  -- *every live block of the file, data and pointers*, counted
  unfoldable pub held_count : ℕ → ℕ
  held_count f = length (file_blocks g b f)

  -- *each file of size above 0: number, size, root's height*, and the blocks *held*
  unfoldable pub file_line : ℕ → List ℕ
  file_line f = cond (live (size g b f))
      (line word_file f (field word_size (size g b f) ++ field word_height (root_height g b f) ++ field word_held (held_count f))) []

  -- *First line: B, free count. Then each file, rising*
  unfoldable pub board_lines : List ℕ
  board_lines = line word_blocks (block_count g b) (field word_free (length (free g b))) ++ joined (files g) file_line

-- *A refused image prints only `refused` and the number*
unfoldable pub answer_lines : Layout → List ℕ → Answer → List ℕ
answer_lines g b (Ok n) = board_lines g b
answer_lines g b (Err f) = line word_refused (number f) []

-- what is printed for an image
unfoldable pub listing : Layout → List ℕ → List ℕ
listing g image = answer_lines g (words_of image) (image_check_answer g image)
