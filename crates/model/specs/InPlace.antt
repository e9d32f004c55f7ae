-- Writing at the end of a file in place: *one epoch of hidden stores*, for a tail and for a length change.
use Rattle.std.specs.Prelude.{Bool, true, false, List, [], ◌∷◌, ℕ, zero, suc, ◌+◌, ◌-◌, ◌*◌, ◌/◌, ◌%◌, length, Option, Some, None}
use Rattle.model.specs.Lists.{joined, sum, choose}
use Rattle.model.specs.Tree.{ending, span, cell, link}
use Rattle.model.specs.Store.{Store, store}
use Rattle.model.specs.Fresh.{Page, part, part_length, need, data_page, build}

-- a walk ended at a block
unfoldable pub at_block : Option ℕ → Bool
at_block None = false
at_block (Some k) = true

-- the store to a pointer at address a that isn't live, where `new` is written beneath it, none where that is no byte: `hook h l c` is what a pointer over
-- height h gets that leads to l of the bytes, with c fresh blocks taken before
unfoldable pub hooked : (hook : ℕ → ℕ → ℕ → ℕ) (h : ℕ) → List ℕ → ℕ → ℕ → List Store
hooked hook h [] c a = []
hooked hook h (x ∷ new) c a = store a (hook h (suc (length new)) c) ∷ []

module _ (W : ℕ) where
  -- how many fresh blocks l bytes take that are written at the end, n, of the tree (h, k, n): none where its blocks are live
  unfoldable pub tail_need : ℕ → ℕ → ℕ → ℕ
  tail_need zero zero l = need W zero 0 l
  tail_need zero (suc n) l = 0
  tail_need (suc h) zero l = need W (suc h) 0 l
  tail_need (suc h) (suc n) l = sum W (λ j. tail_need h (suc n - j * span W h) (part_length (span W h) j (suc n) l))

  -- how many of them lie under the children before j
  unfoldable pub tail_before : ℕ → ℕ → ℕ → ℕ → ℕ
  tail_before h n l j = sum j (λ i. tail_need h (n - i * span W h) (part_length (span W h) i n l))

  module _ (b : List ℕ) where
    -- the walk to byte n, the first past the n bytes below the size, *along live pointers*: the last live block, or a hole where one of them is null
    unfoldable pub walk_live : ℕ → ℕ → ℕ → Option ℕ
    walk_live zero k n = ending k n
    walk_live (suc h) k n = choose (n % span W h) (ending k n) (walk_live h (link W b k (n / span W h) / W) (n % span W h))

    -- the pages of the *fresh subtrees* under *pointers that aren't live and lead to written bytes*
    unfoldable pub tail_pages : (ℕ → ℕ) → ℕ → ℕ → ℕ → List ℕ → ℕ → List Page
    tail_pages fresh zero k zero new c = build W fresh b zero 0 0 0 new c
    tail_pages fresh zero k (suc n) new c = []
    tail_pages fresh (suc h) k zero new c = build W fresh b (suc h) 0 0 0 new c
    tail_pages fresh (suc h) k (suc n) new c = joined W (λ j. tail_pages fresh h (link W b k j / W) (suc n - j * span W h) (part (span W h) j (suc n) new)
        (c + tail_before h (suc n) (length new) j))

    -- *existing data words that hold written bytes are stored, bytes at or past e as 0*
    unfoldable pub tail_words : ℕ → ℕ → List ℕ → List Store
    tail_words k n new = joined W (λ j. choose (part_length 8 j n (length new)) [] (store (W * k + j) (data_page W b k n n new j) ∷ []))

    -- The stores to existing words when `new` is written at the end, n, of the tree (h, k, n), whose pointer stands at address a.
    -- A tail hooks a fresh subtree where a pointer isn't live, a length change 0. They stand *by the first file byte they stand for*. A live hole stays
    module _ (hook : ℕ → ℕ → ℕ → ℕ) where
      unfoldable pub in_place : ℕ → ℕ → ℕ → List ℕ → ℕ → ℕ → List Store
      in_place zero k zero new c a = hooked hook zero new c a
      in_place zero zero (suc n) new c a = []
      in_place zero (suc k) (suc n) new c a = tail_words (suc k) (suc n) new
      in_place (suc h) k zero new c a = hooked hook (suc h) new c a
      in_place (suc h) zero (suc n) new c a = []
      in_place (suc h) (suc k) (suc n) new c a = joined W (λ j. in_place h (cell W b (suc k) j / W) (suc n - j * span W h) (part (span W h) j (suc n) new)
          (c + tail_before h (suc n) (length new) j) (W * suc k + j))
