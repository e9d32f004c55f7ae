-- Stores to words that exist: what a pointer gets that isn't live and leads to written bytes, the words of a data block, and bytes with zeros behind them.
use Rattle.std.specs.Prelude.{List, [], ◌∷◌, ◌++◌, ℕ, ◌+◌, ◌-◌, ◌*◌, ◌^◌, length, replicate}
use Rattle.model.specs.Lists.{joined, choose}
use Rattle.model.specs.Store.{Store, store}
use Rattle.model.specs.Fresh.{part_length, data_page, fresh_pointer}
use Rattle.model.specs.InPlace.{in_place}
use Rattle.trees.specs.declared.Tree.{Tree}
use Rattle.plans.specs.declared.Grown.{Grown}
use Rattle.plans.specs.Onto.{taking, onto}
use Rattle.tails.specs.declared.End.{End}

-- the pointer to a fresh subtree, by the table of free blocks
unfoldable pub hooks : ℕ → List ℕ → ℕ → ℕ → ℕ → ℕ
hooks W free h l c = fresh_pointer W (taking free) h 0 l c

-- the words of data block k that hold some of l bytes written at its end, n: those of `new`, then zeros
unfoldable pub word_stores : ℕ → List ℕ → ℕ → ℕ → ℕ → List ℕ → List Store
word_stores W b k n l new = joined W (λ j. choose (part_length 8 j n l) [] (store (W * k + j) (data_page W b k n n new j) ∷ []))

-- `new`, and zeros behind it up to l bytes
unfoldable pub padded : ℕ → List ℕ → List ℕ
padded l new = new ++ replicate (l - length new) 0

-- ---- The same and `in_place` of InPlace on a tree by value, the board being read with growth performed

module _ (bits : ℕ) (board free : List ℕ) (grown : Grown) (e : End) (new : List ℕ) where
  abbrev pub words_at : List Store
  words_at = word_stores (2 ^ bits) (onto (2 ^ bits) free board grown) e.tree.block e.tree.left e.length new

  abbrev pub stores_at : List Store
  stores_at = in_place (2 ^ bits) (onto (2 ^ bits) free board grown) (hooks (2 ^ bits) free) e.tree.height e.tree.block e.tree.left (padded e.length new) e.taken e.at

-- `in_place` on the lent board, the tree's pointer at address a, where l zeros are written: each pointer that isn't live and leads to them gets 0
abbrev pub cleared_at : ℕ → List ℕ → Tree → ℕ → ℕ → List Store
cleared_at bits b t l a = in_place (2 ^ bits) b (λ h l c. 0) t.height t.block t.left (replicate l 0) 0 a
