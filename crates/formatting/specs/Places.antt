-- A figure of format's plan, with what is known of it.
use Rattle.std.specs.Prelude.{◌≡◌, ℕ, ◌+◌, ◌*◌, ◌≤◌}
use Rattle.model.specs.Layout.{Kind}
use Rattle.model.specs.Layout.{layout_of}

-- the place in format's plan of the first store to the trailer's words from word 1 on: at most 14 blocks of 512 words lie before it
pub record Place (kind : Kind) (r : ℕ) : Type 0 where
  pub is : r ≡ 2 + (layout_of kind).words * (1 + (layout_of kind).leaves)
  pub most : r ≤ 7170
