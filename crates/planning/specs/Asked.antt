-- What the functions that plan a write and a length change are asked on.
use Rattle.std.specs.Prelude.{List, ℕ, ◌+◌, ◌%◌, ◌^◌, ◌≤◌, ◌<◌, length, T}
use Rattle.model.specs.declared.Inode.{Inode}
use Rattle.model.specs.Layout.{Kind}
use Rattle.model.specs.Layout.{layout_of}
use Rattle.model.specs.Board.{greatest, accepted}
use Rattle.plans.specs.Onto.{Blocks}

-- a file of an accepted board
pub record File (kind : Kind) (b : List ℕ) (f : ℕ) : Type 0 where
  pub board : T (accepted (layout_of kind) b)
  pub file : f < 32

-- A write of at least one byte that ends within bounds, on any board, to the file with inode n: a live root has one of the heights, and the size stands
-- in the word after it; and the table of free blocks
pub record Growable (kind : Kind) (n : Inode) (o : ℕ) (new table : List ℕ) : Type 0 where
  pub some : 0 < length new
  pub end : o + length new ≤ greatest (layout_of kind)
  pub blocks : Blocks table
  pub address : n.at + 1 < 2 ^ 64
  pub low : 0 < n.size → n.root % (layout_of kind).words ≤ (layout_of kind).height

-- a write to file f of an accepted board that no refusal up to 6 turns away, and the table of free blocks
pub record Asked (kind : Kind) (b : List ℕ) (f o : ℕ) (new table : List ℕ) : Type 0 where
  pub of : File kind b f
  pub some : 0 < length new
  pub end : o + length new ≤ greatest (layout_of kind)
  pub blocks : Blocks table
