-- What a survey of a board answers, and the free blocks listed.
use Rattle.model.specs.Answers.{Answer}
use Rattle.std.specs.Prelude.{◌≡◌, Bool, ◌&&◌, List, ◌++◌, ℕ, ◌-◌, length, get_or, drop, replicate, ltb, eqb, Ok}
use Rattle.model.specs.Lists.{every, pick_from}
use Rattle.model.specs.Layout.{Layout, files}
use Rattle.model.specs.Board.{block_count, inode_block, live_blocks, inodes_sound, file_sound}
use Rattle.model.specs.Calls.{check_answer}
use Rattle.trees.specs.Marks.{marked}

-- the inode pointer block lies below the trailer, and every word of it, size and live pointer is as it must be
abbrev pub pointers_sound : Layout → List ℕ → Bool
pointers_sound g b = ltb (inode_block g b) (block_count g b - 1) && (inodes_sound g b && every (files g) (file_sound g b))

-- a block that marks have free
abbrev pub spare : List ℕ → ℕ → Bool
spare m k = eqb (get_or m k 0) 0

-- what check answers, and where it is no refusal, the live blocks marked
pub record Surveyed (g : Layout) (b : List ℕ) (r : Answer) (m : List ℕ) : Type 0 where
  pub answer : r ≡ check_answer g b
  pub marks : (v : ℕ) → r ≡ Ok v → m ≡ marked (replicate 1024 0) (live_blocks g b)

-- the blocks that marks have free, of those below top, at the front of a table
pub record Listed (marks : List ℕ) (top : ℕ) (table : List ℕ) (r : ℕ) (table' : List ℕ) : Type 0 where
  pub count : r ≡ length (pick_from 1 (top - 1) (spare marks))
  pub is : table' ≡ pick_from 1 (top - 1) (spare marks) ++ drop r table
