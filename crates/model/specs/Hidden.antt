-- Hidden stores. Document 01: *A hidden store is one to a free block, to a live data block without altering bytes below the size,
-- to a file's pointer (no inode pointer) that isn't live in a live block, or to the root of a file of size 0.*
use Rattle.std.specs.Prelude.{Bool, false, not, ◌&&◌, ◌||◌, List, ℕ, zero, suc, ◌+◌, ◌-◌, ◌*◌, ◌/◌, ◌%◌, get_or, leb, eqb}
use Rattle.model.specs.Lists.{every, some, member}
use Rattle.model.specs.Words.{byte_of}
use Rattle.model.specs.Layout.{Layout, files}
use Rattle.model.specs.Tree.{live, span, cell}
use Rattle.model.specs.Board.{root_address, root_height, root_block, size, free}
use Rattle.model.specs.Store.{Store}

-- word j of a data block may become w where x is: each byte that differs lies at or past the n bytes below the size
unfoldable pub keeps_bytes : ℕ → ℕ → ℕ → ℕ → Bool
keeps_bytes n j x w = every 8 (λ i. leb n (8 * j + i) || eqb (byte_of w i) (byte_of x i))

-- the second and third kind, in the tree (h, k, n)
module _ (W : ℕ) (b : List ℕ) (s : Store) where
  -- *a live data block*, whose bytes are kept; *a pointer that isn't live in a live block*; or one of these further down
  unfoldable pub hidden_under : ℕ → ℕ → ℕ → Bool
  hidden_under zero zero n = false
  hidden_under zero (suc k) zero = false
  hidden_under zero (suc k) (suc n) = eqb (s.at / W) (suc k) && keeps_bytes (suc n) (s.at % W) (get_or b s.at 0) s.value
  hidden_under (suc h) zero n = false
  hidden_under (suc h) (suc k) zero = false
  hidden_under (suc h) (suc k) (suc n) = eqb (s.at / W) (suc k) && not (live (suc n - s.at % W * span W h))
      || some W (λ j. hidden_under h (cell W b (suc k) j / W) (suc n - j * span W h))

module _ (g : Layout) (b : List ℕ) (s : Store) where
  -- *the root of a file of size 0*, or in the file's tree
  unfoldable pub hidden_in_file : ℕ → Bool
  hidden_in_file f = eqb s.at (root_address g b f) && eqb (size g b f) 0
      || hidden_under g.words b s (root_height g b f) (root_block g b f) (size g b f)

  -- a *hidden* store
  unfoldable pub hidden : Bool
  hidden = member (s.at / g.words) (free g b) || some (files g) hidden_in_file
