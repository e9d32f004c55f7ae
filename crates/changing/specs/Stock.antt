-- The table of free blocks that a write is planned with.
use Rattle.std.specs.Prelude.{◌≡◌, List, ℕ, length}
use Rattle.model.specs.Layout.{Kind}
use Rattle.model.specs.Layout.{layout_of}
use Rattle.model.specs.Board.{free}
use Rattle.model.specs.Calls.{lowest}
use Rattle.plans.specs.Onto.{taking}
use Rattle.planning.specs.Asked.{Asked}

-- a write that no refusal up to 6 turns away; the table lists the free blocks, and `count` is how many there are
pub record Stocked (kind : Kind) (b : List ℕ) (f o : ℕ) (new table : List ℕ) (count : ℕ) : Type 0 where
  pub asked : Asked kind b f o new table
  pub lists : (i : ℕ) → taking table i ≡ lowest (layout_of kind) b i
  pub all : count ≡ length (free (layout_of kind) b)
