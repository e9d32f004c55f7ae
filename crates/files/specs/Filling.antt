-- What is copied of a file by its root word and its size.
use Rattle.std.specs.Prelude.{◌≡◌, List, ℕ, ◌+◌, ◌-◌, ◌*◌, ◌%◌, ◌^◌, ◌<◌, min, length}
use Rattle.model.specs.Tree.{shown}
use Rattle.model.specs.Board.{root_walk}
use Rattle.words.specs.Filled.{Filled}
use Rattle.words.specs.Width.{Width}
use Rattle.trees.specs.Trees.{Reach}

-- byte i of a file by its root word and its size
abbrev pub file_byte : ℕ → List ℕ → ℕ → ℕ → ℕ → ℕ
file_byte W b root n i = shown W b (root_walk W b root n i) (i % (8 * W))

-- a root whose tree's span can be computed, unless the file is empty
pub record Rooted (bits root n : ℕ) : Type 0 where
  pub width : Width bits
  pub reach : 0 < n → Reach bits (root % 2 ^ bits)

-- as many bytes from o on as the file has and the buffer takes
pub record FillResult (W : ℕ) (b : List ℕ) (root n o : ℕ) (out : List ℕ) (r : ℕ) (out' : List ℕ) : Type 0 where
  pub count : r ≡ min (length out) (n - o)
  pub bytes : Filled (λ d. file_byte W b root n (o + d)) r out out'
