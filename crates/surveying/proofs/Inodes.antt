-- Marking one inode leaf, the live blocks of one file, and all of them.
use mathlib.Core.Path.{◌≡◌, refl, ap, ◌∙◌}
use mathlib.Core.Logic.{◌≢◌}
use mathlib.Core.Bool.{Bool, true, false, ◌&&◌, and-true, and-false}
use mathlib.Core.List.{List, [], ◌∷◌, ◌++◌}
use Prim.Native.Nat.{ℕ, zero, suc, ◌-◌, ◌/◌, ◌%◌, ◌≤◌, ◌<◌}
use native.Mathlib.Omega.{arith}
use lib.Dec.{leb, ltb}
use borrow.Author.Tests.{eq-eqb, ne_eqb, lt-ltb, le-leb, lt-leb}
use Rattle.model.specs.Lists.{tabulate, joined, every}
use Rattle.model.specs.Layout.{Layout, files}
use Rattle.model.specs.Tree.{sound}
use Rattle.model.specs.Board.{root_blocks, root_sound, greatest, block_count, trailer, inode_block, inode_pointer, leaf, root, size, file_blocks, live_blocks, in_range, leaf_sound, inodes_sound, file_sound}
use Rattle.model.proofs.Trees.{blocks_dead}
use Rattle.trees.specs.Marks.{Marked}
use Rattle.trees.specs.Trees.{Crawled}
use Rattle.trees.proofs.Marking
use Rattle.boards.specs.Trailers.{spares_sound}
use Rattle.surveying.specs.Survey.{pointers_sound}

-- leaf l, by its pointer p, the low bits and the block of it
module _ (g : Layout) (b : List ℕ) (l : ℕ) {p low : ℕ} (ep : p ≡ inode_pointer g b l) (el : low ≡ p % g.words) where
  low_is : low ≡ inode_pointer g b l % g.words
  low_is = el ∙ ap (λ (x : ℕ). x % g.words) ep

  pub leaf_low : {m m' : List ℕ} → low ≢ 0 → Marked (leaf_sound g b l) (leaf g b l ∷ []) m false m'
  unfolding leaf_sound
  leaf_low f = Marking.fault (rw (← low_is, ne_eqb low 0 f))

  module _ {k : ℕ} (ek : k ≡ p / g.words) where
    leaf_is : k ≡ leaf g b l
    unfolding leaf
    leaf_is = ek ∙ ap (λ (x : ℕ). x / g.words) ep

    pub leaf_null : {m m' : List ℕ} → low ≡ 0 → k ≡ 0 → Marked (leaf_sound g b l) (leaf g b l ∷ []) m false m'
    unfolding leaf_sound in_range
    leaf_null e z = Marking.fault (rw (← low_is, ← leaf_is, eq-eqb low 0 e, z))

    pub leaf_claim : {top : ℕ} {m m' : List ℕ} {ok : Bool} → low ≡ 0 → k ≢ 0 → top ≡ block_count g b - 1 → Marked (ltb k top) (k ∷ []) m ok m' → Marked (leaf_sound g b l) (leaf g b l ∷ []) m ok m'
    unfolding leaf_sound in_range
    leaf_claim e f et c = Marking.same (rw (← low_is, ← leaf_is, ← et, eq-eqb low 0 e, lt-ltb 0 k (omega arith))) (rw (← leaf_is)) c

-- all words of the inode pointer block: s, whether the spare ones are 0, then the leaves
module _ (g : Layout) (b : List ℕ) {m m' : List ℕ} {s : Bool} (es : s ≡ spares_sound g b) where
  pub inodes_spare : s ≡ false → Marked (inodes_sound g b) (tabulate g.leaves (leaf g b)) m false m'
  unfolding inodes_sound
  inodes_spare z = Marking.fault (rw (← es, z, and-false))

  pub inodes_leaves : {ok : Bool} → s ≡ true → Marked (every g.leaves (leaf_sound g b)) (tabulate g.leaves (leaf g b)) m ok m' → Marked (inodes_sound g b) (tabulate g.leaves (leaf g b)) m ok m'
  unfolding inodes_sound
  inodes_leaves z c = Marking.same (rw (← es, z, and-true)) refl c

-- a live root
root_live : (W : ℕ) (b : List ℕ) (height top r n : ℕ) → n ≢ 0 → root_sound W b height top r n ≡ (leb (r % W) height && sound W b top (r % W) (r / W) n)
unfolding root_sound
root_live W b height top r zero live = absurd (live refl)
root_live W b height top r (suc n) live = refl

-- file f, by its size n and its root word r, with the height h and the block k of it
module _ (g : Layout) (b : List ℕ) (f : ℕ) {n : ℕ} (en : n ≡ size g b f) where
  pub file_large : {m m' : List ℕ} {most : ℕ} → most ≡ greatest g → most < n → Marked (file_sound g b f) (file_blocks g b f) m false m'
  unfolding file_sound
  file_large e l = Marking.fault (rw (← en, lt-leb n (greatest g) (rw e at l)))

  pub file_empty : {m : List ℕ} → n ≡ 0 → Marked (file_sound g b f) (file_blocks g b f) m true m
  unfolding file_sound root_sound file_blocks root_blocks
  file_empty z = Marking.nothing (rw (← en, z, le-leb 0 (greatest g) (omega arith))) (rw (← en, z) (blocks_dead g.words b (root g b f % g.words) (root g b f / g.words)))

  module _ {most : ℕ} (em : most ≡ greatest g) (u : n ≤ most) (live : n ≢ 0) {r h height : ℕ} (er : r ≡ root g b f) (eh : h ≡ r % g.words) (et : height ≡ g.height) where
    shape : file_sound g b f ≡ (leb h height && sound g.words b (block_count g b - 1) h (r / g.words) n)
    unfolding file_sound
    shape = rw (← en, ← er, le-leb n (greatest g) (rw em at u), root_live g.words b g.height (block_count g b - 1) r n live, ← eh, ← et)

    pub file_high : {m m' : List ℕ} → height < h → Marked (file_sound g b f) (file_blocks g b f) m false m'
    file_high l = Marking.fault (shape ∙ rw (lt-leb h height l))

    pub file_tree : {W top k : ℕ} {ok : Bool} {m m' : List ℕ} → h ≤ height → top ≡ block_count g b - 1 → k ≡ r / g.words → g.words ≡ W → Crawled W top b h k n m ok m' → Marked (file_sound g b f) (file_blocks g b f) m ok m'
    unfolding file_blocks root_blocks
    file_tree l ez ek ew c = Marking.same (shape ∙ rw (le-leb h height l, ← ez, ← ek, ew)) (rw (← en, ← er, ← eh, ← ek, ew)) c.crawled

-- all of them: the inode pointer block, by the inode root p, then the leaves, then the files
module _ (g : Layout) (b : List ℕ) {m m₁ : List ℕ} {top p k : ℕ} {ok₁ : Bool} (et : top ≡ block_count g b - 1) (ep : p ≡ trailer g b 0) (ek : k ≡ p / g.words)
    (c : Marked (ltb k top) (k ∷ []) m ok₁ m₁) where
  inode_is : k ≡ inode_block g b
  unfolding inode_block
  inode_is = ek ∙ ap (λ (x : ℕ). x / g.words) ep

  pub all_inode : {m' : List ℕ} → ok₁ ≡ false → Marked (pointers_sound g b) (live_blocks g b) m false m'
  unfolding live_blocks
  all_inode z = rw (← inode_is, ← et)
      (Marking.fall (inodes_sound g b && every (files g) (file_sound g b)) (tabulate g.leaves (leaf g b) ++ joined (files g) (file_blocks g b)) c z)

  module _ {m₂ : List ℕ} {ok₂ : Bool} (z : ok₁ ≡ true) (d : Marked (inodes_sound g b) (tabulate g.leaves (leaf g b)) m₁ ok₂ m₂) where
    pub all_leaves : {m' : List ℕ} → ok₂ ≡ false → Marked (pointers_sound g b) (live_blocks g b) m false m'
    unfolding live_blocks
    all_leaves y = rw (← inode_is, ← et) (Marking.both c z (Marking.fall (every (files g) (file_sound g b)) (joined (files g) (file_blocks g b)) d y))

    pub all_files : {m' : List ℕ} {ok : Bool} → ok₂ ≡ true → Marked (every (files g) (file_sound g b)) (joined (files g) (file_blocks g b)) m₂ ok m' → Marked (pointers_sound g b) (live_blocks g b) m ok m'
    unfolding live_blocks
    all_files y e = rw (← inode_is, ← et) (Marking.both c z (Marking.both d y e))
