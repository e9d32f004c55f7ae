-- What the ways of planning are asked on, and where a descent ends. The board is read with growth performed: c is the board then.
use Rattle.std.specs.Prelude.{◌≡◌, List, ℕ, ◌+◌, ◌*◌, ◌%◌, ◌^◌, ◌≤◌, ◌<◌, length}
use Rattle.model.specs.declared.Inode.{Inode}
use Rattle.model.specs.Layout.{Kind}
use Rattle.model.specs.Layout.{layout_of}
use Rattle.model.specs.Tree.{span}
use Rattle.model.specs.Board.{greatest}
use Rattle.model.specs.Fresh.{build}
use Rattle.model.specs.Change.{descend}
use Rattle.kinds.specs.Figures.{Bits}
use Rattle.plans.specs.declared.Grown.{Grown}
use Rattle.shadows.specs.declared.Spot.{Spot}
use Rattle.shadows.specs.declared.Target.{Target}

-- where a descent ends: the tree that is built anew, and the address of its pointer
pub record Descended (W : ℕ) (c : List ℕ) (h k n o : ℕ) (new : List ℕ) (a : ℕ) (r : Spot) : Type 0 where
  pub is : (fresh : ℕ → ℕ) (t : ℕ) → descend W fresh c h k n o new t a ≡ record { at = r.at; pages = build W fresh c r.tree.height r.tree.block r.tree.left r.offset new t }
  pub low : r.tree.height ≤ h

-- there is room for a page on each level of a tree; `bits` is the width
pub record Pages (kind : Kind) (bits : ℕ) (pages : List ℕ) : Type 0 where
  pub wide : Bits kind bits
  pub room : 2 ^ bits * (layout_of kind).height ≤ length pages

-- A write of `new` at o that stays within the bounds, to the file with inode n, whose tree spans it. The size stands in the word after the root;
-- `scratch` has room for the pages
pub record Ready (kind : Kind) (bits : ℕ) (n : Inode) (o : ℕ) (new scratch : List ℕ) (base taken : ℕ) : Type 0 where
  pub pages : Pages kind bits scratch
  pub some : 0 < length new
  pub end : o + length new ≤ greatest (layout_of kind)
  pub address : n.at + 1 < 2 ^ 64
  pub height : 0 < n.size → n.root % (layout_of kind).words ≤ (layout_of kind).height
  pub spans : 0 < n.size → o + length new ≤ span (layout_of kind).words (n.root % (layout_of kind).words)
  pub place : base + 2 ^ bits * taken ≤ 2 ^ 16

-- the same of a target, with growth's `base` and the blocks that growth takes
abbrev pub ReadyFor : Kind → ℕ → Target → List ℕ → List ℕ → Grown → Type 0
ReadyFor kind bits t new scratch grown = Ready kind bits t.inode t.offset new scratch grown.base grown.levels
