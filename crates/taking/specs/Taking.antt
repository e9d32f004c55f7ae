-- Fresh blocks as they are taken, from a table of the free ones, and the words and the size of a fresh tree.
use Rattle.std.specs.Prelude.{◌≡◌, List, ℕ, zero, suc, ◌+◌, ◌-◌, ◌*◌, ◌^◌, ◌≤◌, ◌<◌, length, get_or}
use Rattle.model.specs.Lists.{tabulate}
use Rattle.model.specs.Words.{byte_of, word_of}
use Rattle.model.specs.Tree.{seen, span}
use Rattle.model.specs.Store.{Store, store, laid}
use Rattle.model.specs.Fresh.{Page, splice, stored}
use Rattle.plans.specs.Onto.{taking}

-- Pages laid for the blocks taken from the c-th on, and how many are taken then. Before them the plan has `base` other pairs, so the place of a
-- block's stores is known from its number.
pub record Took (W : ℕ) (free plan : List ℕ) (base c : ℕ) (ps : List Page) (plan' : List ℕ) (c' : ℕ) : Type 0 where
  pub is : plan' ≡ laid plan (base + W * c) (stored W (taking free) ps c)
  pub next : c' ≡ c + length ps

-- r is the pointer to the block that is taken i-th; the block's words have addresses
pub record PointerTo (W : ℕ) (free : List ℕ) (i r : ℕ) : Type 0 where
  pub is : r ≡ W * taking free i
  pub small : r + 512 ≤ 2 ^ 63

-- byte i of word j of a block with `new` written at o: x stood in the word, and n bytes of the block were visible
unfoldable pub spliced_byte : ℕ → ℕ → ℕ → List ℕ → ℕ → ℕ → ℕ
spliced_byte x n o new j i = splice o new (seen (n - (8 * j + i)) (byte_of x i)) (8 * j + i)

-- the stores of the block that begins at address a and gets the words of `new`
unfoldable pub new_stores : ℕ → ℕ → List ℕ → List Store
new_stores W a new = tabulate W (λ j. store (a + j) (word_of 8 (λ i. get_or new (8 * j + i) 0)))

-- the blocks of a whole tree of height h
unfoldable pub whole : ℕ → ℕ → ℕ
whole W zero = 1
whole W (suc h) = W * whole W h + 1

-- r is x, a number of blocks of a tree of height h: fewer than the bytes that it spans
pub record TreeCount (W h x r : ℕ) : Type 0 where
  pub is : r ≡ x
  pub most : r < span W h
