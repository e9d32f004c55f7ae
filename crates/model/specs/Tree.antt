-- Block trees. A tree is (h, k, n): its height, its block (0 is null, a hole) and how many of its bytes lie below the file's size.
-- The pointer to it is *live* when n > 0: then the first byte of its span lies below the size. Where a block's pointers are
-- followed, child j has n - j * span h of those bytes, so neither liveness nor a size past the span needs another test.
use Rattle.std.specs.Prelude.{Bool, true, false, cond, ◌&&◌, List, [], ◌∷◌, ℕ, zero, suc, ◌+◌, ◌-◌, ◌*◌, ◌/◌, ◌%◌, get_or, leb, ltb, eqb, Option, Some, None}
use Rattle.model.specs.Lists.{every, joined}
use Rattle.model.specs.Words.{byte_of}

-- *live*: some of its n bytes lie below the size, and then the first does
unfoldable pub live : ℕ → Bool
live zero = false
live (suc n) = true

-- w where something is live, else 0
unfoldable pub seen : ℕ → ℕ → ℕ
seen zero w = 0
seen (suc n) w = w

-- where a walk ends that arrives at block k: there, or in a hole, which is none
unfoldable pub ending : ℕ → ℕ → Option ℕ
ending zero n = None
ending (suc k) zero = None
ending (suc k) (suc n) = Some (suc k)

-- N6: how many blocks a walk visits that arrives at block k: none where it is null or the pointer to it isn't live
unfoldable pub visit : ℕ → ℕ → ℕ
visit zero n = 0
visit (suc k) zero = 0
visit (suc k) (suc n) = 1

-- W words are a block
module _ (W : ℕ) where
  -- *A tree of height h spans*
  unfoldable pub span : ℕ → ℕ
  span zero = 8 * W
  span (suc h) = W * span h

  -- *the least sufficient height* for e bytes, at most h
  unfoldable pub least : ℕ → ℕ → ℕ
  least zero e = zero
  least (suc h) e = cond (leb e (span h)) (least h e) (suc h)

  -- a live pointer w has *low bits 0*
  unfoldable pub aligned : ℕ → ℕ → Bool
  aligned zero w = true
  aligned (suc n) w = eqb (w % W) 0

  module _ (b : List ℕ) where
    -- word j of block k: *block k begins at word W × k*
    unfoldable pub cell : ℕ → ℕ → ℕ
    cell k j = get_or b (W * k + j) 0

    -- the same where k may be null: *a hole, all zeros*
    unfoldable pub link : ℕ → ℕ → ℕ
    link zero j = 0
    link (suc k) j = cell (suc k) j

    -- *The walk to a byte* i of the tree. *The height falls by one at each pointer followed; at 0 the block holds data.*
    -- *Under a pointer that isn't live* it ends in a hole, since there n is 0 to the end
    unfoldable pub walk : ℕ → ℕ → ℕ → ℕ → Option ℕ
    walk zero k n i = ending k n
    walk (suc h) k n i = walk h (link k (i / span h) / W) (n - i / span h * span h) (i % span h)

    -- N6: *how many blocks it visited, the data block included and a hole not counted. A pointer that isn't live counts as a hole*. By the same recursion
    unfoldable pub visits : ℕ → ℕ → ℕ → ℕ → ℕ
    visits zero k n i = visit k n
    visits (suc h) k n i = visit k n + visits h (link k (i / span h) / W) (n - i / span h * span h) (i % span h)

    -- byte i of the block where a walk ended
    unfoldable pub shown : Option ℕ → ℕ → ℕ
    shown None i = 0
    shown (Some k) i = byte_of (cell k (i / 8)) (i % 8)

    -- the *live blocks* of the tree
    unfoldable pub blocks : ℕ → ℕ → ℕ → List ℕ
    blocks zero zero n = []
    blocks zero (suc k) zero = []
    blocks zero (suc k) (suc n) = suc k ∷ []
    blocks (suc h) zero n = []
    blocks (suc h) (suc k) zero = []
    blocks (suc h) (suc k) (suc n) = suc k ∷ joined W (λ j. blocks h (cell (suc k) j / W) (suc n - j * span h))

    -- those of them that hold data: *at 0 the block holds data*
    unfoldable pub data_blocks : ℕ → ℕ → ℕ → List ℕ
    data_blocks zero k n = blocks zero k n
    data_blocks (suc h) k n = joined W (λ j. data_blocks h (link k j / W) (n - j * span h))

    -- every live pointer of the tree *has a block* below top, *live ones may be null, and low bits 0*; the low bits of the tree's own are not looked at
    unfoldable pub sound : ℕ → ℕ → ℕ → ℕ → Bool
    sound top zero zero n = true
    sound top zero (suc k) zero = true
    sound top zero (suc k) (suc n) = ltb (suc k) top
    sound top (suc h) zero n = true
    sound top (suc h) (suc k) zero = true
    sound top (suc h) (suc k) (suc n) =
        ltb (suc k) top && every W (λ j. aligned (suc n - j * span h) (cell (suc k) j) && sound top h (cell (suc k) j / W) (suc n - j * span h))
