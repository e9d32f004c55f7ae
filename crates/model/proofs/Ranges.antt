-- Where the live blocks and the roots of an accepted board lie.
use mathlib.Core.Logic.{inl, inr}
use mathlib.Core.List.{List}
use Prim.Native.Nat.{ℕ, zero, suc, ◌-◌, ◌*◌, ◌/◌, ◌<◌}
use native.Mathlib.Omega.{arith}
use lib.Dec.{T, ltb→lt}
use Rattle.model.specs.Lists.{sum, one, occ}
use Rattle.model.specs.Layout.{Layout, Fits, files}
use Rattle.model.specs.Tree.{span, cell, link, blocks, sound}
use Rattle.model.specs.Board.{root_blocks, block_count, inode_block, leaf, root_height, root_block, size, file_blocks, live_blocks}
use Rattle.model.proofs.Cases.{split, decide}
use Rattle.model.proofs.Sums.{sum_some}
use Rattle.model.proofs.Counting.{one_other, occ_joined, one_some}
use Rattle.model.proofs.Trees.{child_blocks}
use Rattle.model.proofs.Agree.{sound_root, sound_child}
use Rattle.model.proofs.Shown.{words_pos, occ_live}
use Rattle.model.proofs.Accepting.{Ranged, Pointers, Facts}

-- the blocks of a tree whose pointers are as they must be
module _ (W : ℕ) (pos : 0 < W) (b : List ℕ) (top : ℕ) where
  pub tree_range : (h k n x : ℕ) → T (sound W b top h k n) → 0 < occ x (blocks W b h k n) → (0 < x) × (x < top)
  unfolding blocks occ sound link
  tree_range zero zero n x t o = absurd (omega (arith, o))
  tree_range zero (suc k) zero x t o = absurd (omega (arith, o))
  tree_range zero (suc k) (suc n) x t o = rw (one_some x (suc k) (omega (arith, o))) (omega arith, ltb→lt (suc k) top t)
  tree_range (suc h) zero n x t o = absurd (omega (arith, o))
  tree_range (suc h) (suc k) zero x t o = absurd (omega (arith, o))
  tree_range (suc h) (suc k) (suc n) x t o = elim (decide x (suc k)) [
    | inl e ↦ rw e (omega arith, sound_root W pos top b h (suc k) (suc n) (omega arith) (omega arith) t)
    | inr d ↦
        let c = sum_some W (λ j. occ x (child_blocks W b h (suc k) (suc n) j)) (omega (arith, o, one_other x (suc k) d, occ_joined x W (child_blocks W b h (suc k) (suc n)))) in
        tree_range h (cell W b (suc k) c.0 / W) (suc n - c.0 * span W h) x (sound_child W pos top b h (suc k) (suc n) t c.0 c.1).1 c.2
  ]

module _ (g : Layout) (pos : 0 < g.words) (b : List ℕ) (ok : Pointers g b) where
  file_in : (f x : ℕ) → f < files g → 0 < occ x (file_blocks g b f) → Ranged g b x
  unfolding file_blocks root_blocks
  file_in f x h o = tree_range g.words pos b (block_count g b - 1) (root_height g b f) (root_block g b f) (size g b f) x (ok.tree f h) o

  pub live_in : (x : ℕ) → 0 < occ x (live_blocks g b) → Ranged g b x
  live_in x o = elim (decide x (inode_block g b)) [
    | inl e ↦ rw e ok.inode
    | inr d ↦ elim (split (sum g.leaves (λ l. one x (leaf g b l))) 0) [
      | inl z ↦ let c = sum_some (files g) (λ f. occ x (file_blocks g b f)) (omega (arith, o, occ_live g b x, one_other x (inode_block g b) d)) in
          file_in c.0 x c.1 c.2
      | inr z ↦ let c = sum_some g.leaves (λ l. one x (leaf g b l)) z in
          rw (one_some x (leaf g b c.0) c.2) (ok.leaf_in_law c.0 c.1)
    ]
  ]

-- on an accepted board they are so
module _ (g : Layout) (fit : Fits g) (b : List ℕ) (ok : Facts g b) where
  pub file_range : (f x : ℕ) → f < files g → 0 < occ x (file_blocks g b f) → Ranged g b x
  file_range = file_in g (words_pos g fit) b ok.pointers

  pub live_range : (x : ℕ) → 0 < occ x (live_blocks g b) → Ranged g b x
  live_range = live_in g (words_pos g fit) b ok.pointers
