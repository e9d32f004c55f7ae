-- The board with growth performed: *What follows sees the grown tree*.
use Rattle.std.specs.Prelude.{◌≡◌, cond, List, [], ◌∷◌, ◌++◌, ℕ, zero, suc, ◌*◌, ◌^◌, ◌<◌, ◌-◌, get_or, eqb}
use Rattle.model.specs.Lists.{tabulate}
use Rattle.model.specs.Store.{store, performed}
use Rattle.model.specs.Fresh.{stored}
use Rattle.model.specs.Change.{level_page, level_below}
use Rattle.words.specs.Width.{Width}
use Rattle.plans.specs.declared.Grown.{Grown}

-- the block that is taken i-th, by a table of the free ones
unfoldable pub taking : List ℕ → ℕ → ℕ
taking free i = get_or free i 0

-- each is small enough for the addresses of its words to be words
pub record Blocks (free : List ℕ) : Type 0 where
  pub small : (i : ℕ) → taking free i < 2 ^ 54

-- growth's pages go to the first blocks of the table, the root word last
unfoldable pub onto : ℕ → List ℕ → List ℕ → Grown → List ℕ
onto W free b g = performed b (stored W (taking free) (tabulate g.levels (λ i. level_page W (level_below (taking free) g.below i))) 0 ++ (store g.at g.root ∷ []))

-- the last of t levels whose block is k, counted from 1
unfoldable pub level_of : (ℕ → ℕ) → ℕ → ℕ → ℕ
level_of fresh zero k = 0
level_of fresh (suc t) k = cond (eqb (fresh t) k) (suc t) (level_of fresh t k)

-- no block and no word of a board, and no pairs before
pub record NotGrown (g : Grown) : Type 0 where
  pub none : g.levels ≡ 0
  pub off : g.at ≡ 2 ^ 64 - 1
  pub null : g.below ≡ 0
  pub first : g.base ≡ 0

-- the pointers that growth stores are words
pub record Pointers (bits : ℕ) (free : List ℕ) (g : Grown) : Type 0 where
  pub width : Width bits
  pub blocks : Blocks free
  pub below : 2 ^ bits * g.below < 2 ^ 64
