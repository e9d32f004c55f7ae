-- Where a file's inode stands, and the inode.
use Rattle.std.specs.Prelude.{◌≡◌, List, ℕ, ◌+◌, ◌^◌, ◌<◌}
use Rattle.model.specs.declared.Inode.{Inode}
use Rattle.model.specs.Layout.{Layout}
use Rattle.model.specs.Board.{root_address, inode_of}

-- the word where file f's root stands; its size stands in the next
pub record AddressOf (g : Layout) (b : List ℕ) (f r : ℕ) : Type 0 where
  pub is : r ≡ root_address g b f
  pub small : r + 1 < 2 ^ 64

-- file f's inode; its size stands in the word after its root
pub record InodeOf (g : Layout) (b : List ℕ) (f : ℕ) (r : Inode) : Type 0 where
  pub is : r ≡ inode_of g b f
  pub small : r.at + 1 < 2 ^ 64
