-- The words of a trailer, and the spare inode pointers.
use Rattle.std.specs.Prelude.{Bool, List, ℕ, suc, ◌+◌, ◌-◌, get_or, eqb}
use Rattle.model.specs.Lists.{every}
use Rattle.model.specs.Layout.{Layout}
use Rattle.model.specs.Board.{trailer_word, block_count, trailer, spare_sound}

-- n words from word `from` on, of the block that begins at an index, are 0
abbrev pub zeros_in : List ℕ → ℕ → ℕ → ℕ → Bool
zeros_in b at from n = every n (λ j. eqb (get_or b (at + (from + j)) 0) 0)

-- word j + 1 of the trailer is as it must be
abbrev pub trailer_word_sound : Layout → List ℕ → ℕ → Bool
trailer_word_sound g b j = eqb (trailer g b (suc j)) (trailer_word g (block_count g b) (suc j))

-- the words of the trailer from word 1 on are
abbrev pub trailer_words_sound : Layout → List ℕ → Bool
trailer_words_sound g b = every (g.words - 1) (trailer_word_sound g b)

-- the spare inode pointers are 0
abbrev pub spares_sound : Layout → List ℕ → Bool
spares_sound g b = every (g.words - g.leaves) (spare_sound g b)
