-- The figures of a kind of board. Document 01 has one kind, the house's, N11 of document 02 a second; definitions and laws take any.
use Rattle.std.specs.Prelude.{ℕ, ◌+◌, ◌*◌, ◌^◌, ◌≤◌, ◌<◌}

pub record Layout : Type 0 where
  -- words per block
  pub words : ℕ
  -- the greatest height
  pub height : ℕ
  -- inode leaves, and inodes to a leaf
  pub leaves : ℕ
  pub inodes : ℕ
  -- the layout's mark in the trailer
  pub mark : ℕ
  -- the most blocks
  pub most : ℕ

-- document 01's board
abbrev pub house : Layout
house = record { words = 8; height = 3; leaves = 8; inodes = 4; mark = 1; most = 1024 }

-- N11: a board with the published block. *16 to 512 blocks of 512 words*; *heights are 0 and 1*; *files number 32 in one leaf*; of the trailer *word 3 is 3*
abbrev pub published : Layout
published = record { words = 512; height = 1; leaves = 1; inodes = 32; mark = 3; most = 512 }

-- a kind of board: document 01's, with blocks of 8 words, and N11's, with blocks of 512
pub data Kind : Type 0 where
  House : Kind
  Published : Kind

-- the figures of each kind
abbrev pub layout_of : Kind → Layout
layout_of House = house
layout_of Published = published

-- how many files there are
unfoldable pub files : Layout → ℕ
files g = g.leaves * g.inodes

-- A layout that can be used: what the trailer, a leaf, an inode pointer block and the low bits of a root must have room for,
-- blocks 1 to leaves + 1 for format, and no address that is a barrier's.
pub record Fits (g : Layout) : Type 0 where
  pub trailer_fits : 4 ≤ g.words
  pub leaves_fit : g.leaves ≤ g.words
  pub inodes_fit : 2 * g.inodes ≤ g.words
  pub inodes_some : 0 < g.inodes
  pub heights_fit : g.height < g.words
  pub format_fits : g.leaves + 3 ≤ 16
  pub addresses_fit : g.most * g.words < 2 ^ 64
