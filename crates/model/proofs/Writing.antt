-- What the ways of planning a write ask of it, and what growth before it asks.
use mathlib.Core.List.{List}
use Prim.Native.Nat.{ℕ, ◌+◌, ◌≤◌, ◌<◌}
use lib.ListN.{length}
use Rattle.model.specs.Layout.{Layout}
use Rattle.model.specs.Tree.{span}
use Rattle.model.specs.Board.{greatest, root_height, size}
use Rattle.model.proofs.Splice.{Small}
use Rattle.model.proofs.Accepting.{FileOn}

-- a write, to a file of an accepted board, that ends by the greatest size
pub record Writing (g : Layout) (b : List ℕ) (f o : ℕ) (new : List ℕ) : Type 0 where
  pub on : FileOn g b f
  pub small : Small new
  pub most : o + length new ≤ greatest g

-- the file is empty, or its tree spans e bytes
abbrev pub Spanned : Layout → List ℕ → ℕ → ℕ → Type 0
Spanned g b f e = 0 < size g b f → e ≤ span g.words (root_height g b f)

-- the file is not empty and its tree spans fewer than e bytes: it grows before a write that ends at e
pub record Growing (g : Layout) (b : List ℕ) (f e : ℕ) : Type 0 where
  pub on : FileOn g b f
  pub live : 0 < size g b f
  pub more : span g.words (root_height g b f) < e
  pub most : e ≤ greatest g
