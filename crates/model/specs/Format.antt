-- Format. Document 01, 'How a change is planned', its last paragraph.
use Rattle.std.specs.Prelude.{cond, List, [], ◌∷◌, ◌++◌, ℕ, suc, ◌+◌, ◌-◌, ◌*◌, replicate, ltb}
use Rattle.model.specs.Lists.{tabulate}
use Rattle.model.specs.Layout.{Layout}
use Rattle.model.specs.Board.{block_count, trailer_word}
use Rattle.model.specs.Store.{Store, store}
use Rattle.model.specs.Fresh.{Page, stored}
use Rattle.model.specs.Plan.{Plan, plan, step}

module _ (g : Layout) where
  -- *block 1 (pointers to 2 to 9)*; words past the inode pointers are 0
  unfoldable pub inode_page : Page
  inode_page j = cond (ltb j g.leaves) (g.words * (2 + j)) 0

  -- *blocks 2 to 9 all zero*
  unfoldable pub format_pages : List Page
  format_pages = inode_page ∷ replicate g.leaves (λ j. 0)

  module _ (b : List ℕ) where
    -- the address of trailer word j
    unfoldable pub trailer_address : ℕ → ℕ
    trailer_address j = g.words * (block_count g b - 1) + j

    -- *trailer words 1 to 7*
    unfoldable pub trailer_stores : List Store
    trailer_stores = tabulate (g.words - 1) (λ j. store (trailer_address (suc j)) (trailer_word g (block_count g b) (suc j)))

    -- *trailer word 0 becomes 0; barrier; then, in this order, block 1, blocks 2 to 9, trailer words 1 to 7; barrier; trailer word 0 becomes 9*
    unfoldable pub format_plan : Plan
    format_plan = plan (step [] (trailer_address 0) 0 ∷ step (stored g.words (λ c. c) format_pages 1 ++ trailer_stores) (trailer_address 0) (g.words + 1) ∷ []) 0
