-- What a function leaves that fills the front of a lent slice.
use Rattle.std.specs.Prelude.{◌≡◌, List, ◌++◌, ℕ, drop}
use Rattle.model.specs.Lists.{tabulate}

-- f 0 to f (n - 1), then what stood there
pub record Filled (f : ℕ → ℕ) (n : ℕ) (out out' : List ℕ) : Type 0 where
  pub is : out' ≡ tabulate n f ++ drop n out
