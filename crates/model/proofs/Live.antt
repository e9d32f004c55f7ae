-- Where all pointers are as they must be, every live block lies below the trailer; as a test, which code is proved by.
use mathlib.Core.Path.{◌≡◌, refl}
use mathlib.Core.Bool.{Bool, true, ◌&&◌}
use mathlib.Core.List.{List, [], ◌∷◌}
use Prim.Native.Nat.{ℕ, ◌-◌, ◌<◌}
use native.Mathlib.Omega.{arith}
use lib.Dec.{ltb}
use borrow.Author.Tests.{lt-ltb}
use Rattle.model.specs.Lists.{every, all, occ}
use Rattle.model.specs.Layout.{Layout, files}
use Rattle.model.specs.Board.{block_count, inode_block, live_blocks, trailer_sound, inodes_sound, file_sound}
use Rattle.model.proofs.Cases.{every_of, true_left, true_right}
use Rattle.model.proofs.Counting.{one_same}
use Rattle.model.proofs.Accepting.{Pointers, inode_range, leaves_range, file_tree}
use Rattle.model.proofs.Ranges.{live_in}

-- each of the blocks lies below top
abbrev pub below : ℕ → List ℕ → Bool
below top = all (λ k. ltb k top)

below_of : (top : ℕ) (l : List ℕ) → ((q : ℕ) → 0 < occ q l → q < top) → below top l ≡ true
unfolding all occ
below_of top [] each = refl
below_of top (x ∷ xs) each = rw (lt-ltb x top (each x (omega (arith, one_same x)))) (below_of top xs (λ q o. each q (omega (arith, o))))

module _ (g : Layout) (b : List ℕ) where
  pub inode_below : trailer_sound g b ≡ true → ltb (inode_block g b) (block_count g b - 1) ≡ true
  inode_below e = lt-ltb (inode_block g b) (block_count g b - 1) (inode_range g b (rw e tt)).1

  pub live_below : 0 < g.words → trailer_sound g b ≡ true → (inodes_sound g b && every (files g) (file_sound g b)) ≡ true → below (block_count g b - 1) (live_blocks g b) ≡ true
  live_below pos t e =
      let trees : Bool = every (files g) (file_sound g b) in
      let ok : Pointers g b = record {
        inode = inode_range g b (rw t tt);
        leaf_in_law = leaves_range g b (true_left (inodes_sound g b) trees e);
        tree = λ f u. file_tree g b f (every_of (files g) (file_sound g b) (rw (true_right (inodes_sound g b) trees e) tt) f u);
      } in
      below_of (block_count g b - 1) (live_blocks g b) (λ q o. (live_in g pos b ok q o).1)
