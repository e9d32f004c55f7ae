-- The blocks that a change gives up: those that are live before it, or that its growth took, and are not live after it. Document 02, N5.
use Rattle.std.specs.Prelude.{cond, List, [], ◌∷◌, ◌++◌, ℕ, zero, suc, ◌+◌, ◌-◌, ◌*◌, ◌/◌, ◌%◌, length, leb, ltb, Option, Some, None}
use Rattle.model.specs.declared.Inode.{Inode}
use Rattle.model.specs.Lists.{joined, concat}
use Rattle.model.specs.Layout.{Layout}
use Rattle.model.specs.Tree.{span, cell, link, blocks}
use Rattle.model.specs.Board.{root_height, root_block, size, inode_of}
use Rattle.model.specs.Store.{performed}
use Rattle.model.specs.Plan.{Plan, plan_epochs}
use Rattle.model.specs.Fresh.{part_length, touched}
use Rattle.model.specs.Change.{growth, grown_inode, single_block, is_tail}

-- the block of a tree, where it exists and is live
unfoldable pub own : ℕ → ℕ → List ℕ
own zero n = []
own (suc k) zero = []
own (suc k) (suc n) = suc k ∷ []

module _ (W : ℕ) (b : List ℕ) where
  -- those of the tree (h, k, n) that fresh ones take the place of when l bytes are written at o: the existing blocks *on all paths* that are made fresh,
  -- by the test that `build` goes by
  unfoldable pub path_blocks : ℕ → ℕ → ℕ → ℕ → ℕ → List ℕ
  path_blocks zero k n o l = cond (touched W zero k n o l) (own k n) []
  path_blocks (suc h) k n o l = cond (touched W (suc h) k n o l)
      (own k n ++ joined W (λ j. path_blocks h (link W b k j / W) (n - j * span W h) (o - j * span W h) (part_length (span W h) j o l))) []

  -- those beneath the word where a shadow inside the file is committed
  unfoldable pub inside_blocks : ℕ → ℕ → ℕ → ℕ → ℕ → List ℕ
  inside_blocks zero k n o l = path_blocks zero k n o l
  inside_blocks (suc h) zero n o l = path_blocks (suc h) zero n o l
  inside_blocks (suc h) (suc k) n o l = cond (leb (o % span W h + l) (span W h))
      (inside_blocks h (cell W b (suc k) (o / span W h) / W) (n - o / span W h * span W h) (o % span W h) l)
      (path_blocks (suc h) (suc k) n o l)

  -- those that are no longer live where n bytes lay below the size and m do: *blocks beyond a shortened end are free at once*
  unfoldable pub dropped_blocks : ℕ → ℕ → ℕ → ℕ → List ℕ
  dropped_blocks zero k n zero = blocks W b zero k n
  dropped_blocks zero k n (suc m) = []
  dropped_blocks (suc h) zero n m = []
  dropped_blocks (suc h) (suc k) n zero = blocks W b (suc h) (suc k) n
  dropped_blocks (suc h) (suc k) n (suc m) = joined W (λ j. dropped_blocks h (cell W b (suc k) j / W) (n - j * span W h) (suc m - j * span W h))

-- ways 4 to 6, of a file with inode n: a tail none; shadow inside the file; shadow with length, and the leaf
unfoldable pub way_gives : (g : Layout) (b : List ℕ) (n : Inode) → ℕ → List ℕ → List ℕ
way_gives g b n o new =
    cond (is_tail g b n o) []
    (cond (leb (o + length new) n.size) (inside_blocks g.words b (n.root % g.words) (n.root / g.words) n.size o (length new))
    (n.at / g.words ∷ path_blocks g.words b (n.root % g.words) (n.root / g.words) n.size o (length new)))

-- a length change
unfoldable pub length_gives : (g : Layout) (b : List ℕ) (f : ℕ) → ℕ → List ℕ
length_gives g b f n = cond (ltb n (size g b f)) (dropped_blocks g.words b (root_height g b f) (root_block g b f) (size g b f) n) []

module _ (g : Layout) (fresh : ℕ → ℕ) (b : List ℕ) (f : ℕ) where
  -- a write: a single word gives up none; another is planned on the grown board, so that growth's blocks may be given up too
  unfoldable pub some_gives : Option ℕ → ℕ → List ℕ → List ℕ
  some_gives (Some k) o new = []
  some_gives None o new =
      let p : Plan = growth g fresh (inode_of g b f) (o + length new) in
      way_gives g (performed b (concat (plan_epochs p.steps))) (grown_inode g fresh (inode_of g b f) (o + length new)) o new

  unfoldable pub write_gives : ℕ → List ℕ → List ℕ
  write_gives o [] = []
  write_gives o (x ∷ new) = some_gives (single_block g b f o (o + suc (length new))) o (x ∷ new)
