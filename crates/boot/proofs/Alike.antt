-- Boards that are alike outside block 0. A tree and a file whose inode is found elsewhere are the same on both: null is a hole, and no block 0 is
-- looked at. Where both sides of an equation are one definition at two boards, its path, λ t, is that definition with t at the parts that are equal.
use Rattle.std.specs.Prelude.{Option, Some, None}
use mathlib.Core.Path.{◌≡◌, refl, ap, ◌∙◌}
use mathlib.Core.Logic.{inl, inr}
use mathlib.Core.Bool.{Bool, true, false, cond, ◌&&◌}
use mathlib.Core.List.{List, [], ◌∷◌}
use Prim.Native.Nat.{ℕ, zero, suc, ◌+◌, ◌-◌, ◌*◌, ◌/◌, ◌%◌, ◌≤◌, ◌<◌}
use native.Mathlib.Omega.{arith}
use lib.ListN.{length, get_or, set, drop, length-set}
use lib.Seq.{get_or-drop, get_or-set_same, get_or-set_other, set_out}
use lib.Dec.{leb, ltb}
use Rattle.model.specs.Lists.{tabulate, joined, every}
use Rattle.model.specs.Words.{byte_of}
use Rattle.model.specs.Layout.{Layout, files}
use Rattle.model.specs.Tree.{ending, span, aligned, cell, link, walk, shown, blocks, sound}
use Rattle.model.specs.Board.{root_walk, root_blocks, root_sound, greatest, block_count, trailer, inode_block, inode_pointer, leaf, root_address, size_address, root, size, file_walk, contents, linked_leaf, linked_word, walk_to, file_blocks, file_sound}
use Rattle.model.specs.Store.{Store, performed}
use Rattle.model.proofs.Cases.{split, decide}
use Rattle.model.proofs.Shown.{count_kept}

pub record Alike (W : ℕ) (b b' : List ℕ) : Type 0 where
  pub lengths : length b ≡ length b'
  pub words : (i : ℕ) → W ≤ i → get_or b i 0 ≡ get_or b' i 0

pub dropped_alike : (W : ℕ) (b b' : List ℕ) → length b ≡ length b' → drop W b ≡ drop W b' → Alike W b b'
dropped_alike W b b' l e = record {
  lengths = l;
  words = λ i u. let z : W + (i - W) ≡ i = omega arith in rw z at (rw (get_or-drop W b (i - W) 0, get_or-drop W b' (i - W) 0) at (ap (λ (d : List ℕ). get_or d (i - W) 0) e));
}

-- ---- Stores

set_alike : (W : ℕ) (b b' : List ℕ) (a v : ℕ) → Alike W b b' → Alike W (set b a v) (set b' a v)
set_alike W b b' a v same = record {
  lengths = rw (length-set b a v, length-set b' a v) same.lengths;
  words = λ i u. elim (decide i a) [
    | inl e ↦ elim (split (length b) a) [
      | inl out ↦ rw (set_out b a v out, set_out b' a v (rw (← same.lengths) out)) (same.words i u)
      | inr on ↦ rw (e, get_or-set_same b a v 0 on, get_or-set_same b' a v 0 (rw (← same.lengths) on))
    ]
    | inr d ↦ rw (get_or-set_other b a i v 0 d, get_or-set_other b' a i v 0 d) (same.words i u)
  ];
}

pub performed_alike : (W : ℕ) (b b' : List ℕ) (ss : List Store) → Alike W b b' → Alike W (performed b ss) (performed b' ss)
unfolding performed
performed_alike W b b' [] same = same
performed_alike W b b' (s ∷ ss) same = performed_alike W (set b s.at s.value) (set b' s.at s.value) ss (set_alike W b b' s.at s.value same)

-- ---- Trees

-- a walk did not end at block 0
unfoldable pub Off : Option ℕ → Type 0
Off None = Unit
Off (Some k) = 0 < k

pub off_cond : (t : Bool) (w : Option ℕ) → Off w → Off (cond t w None)
unfolding Off
off_cond true w o = o
off_cond false w o = tt

walk_off : (W : ℕ) (b : List ℕ) (h k n i : ℕ) → Off (walk W b h k n i)
unfolding walk ending Off
walk_off W b zero zero n i = tt
walk_off W b zero (suc k) zero i = tt
walk_off W b zero (suc k) (suc n) i = omega arith
walk_off W b (suc h) k n i = walk_off W b h (link W b k (i / span W h) / W) (n - i / span W h * span W h) (i % span W h)

pub file_walk_off : (g : Layout) (b : List ℕ) (f i : ℕ) → Off (file_walk g b f i)
unfolding file_walk root_walk
file_walk_off g b f i =
    let r : ℕ = root g b f in
    off_cond (ltb i (span g.words (r % g.words))) (walk g.words b (r % g.words) (r / g.words) (size g b f) i)
    (walk_off g.words b (r % g.words) (r / g.words) (size g b f) i)

module _ (W : ℕ) {b b' : List ℕ} (same : Alike W b b') where
  pub cell_alike : (k j : ℕ) → 0 < k → cell W b k j ≡ cell W b' k j
  unfolding cell
  cell_alike zero j l = absurd (omega arith)
  cell_alike (suc k) j l = same.words (W * suc k + j) (omega arith)

  cells : (k j : ℕ) → cell W b (suc k) j ≡ cell W b' (suc k) j
  cells k j = cell_alike (suc k) j (omega arith)

  pub link_alike : (k j : ℕ) → link W b k j ≡ link W b' k j
  unfolding link
  link_alike zero j = refl
  link_alike (suc k) j = cells k j

  walk_alike : (h k n i : ℕ) → walk W b h k n i ≡ walk W b' h k n i
  unfolding walk
  walk_alike zero k n i = refl
  walk_alike (suc h) k n i = λ t. walk_alike h (link_alike k (i / span W h) t / W) (n - i / span W h * span W h) (i % span W h) t

  root_walk_alike : (r n i : ℕ) → root_walk W b r n i ≡ root_walk W b' r n i
  unfolding root_walk
  root_walk_alike r n i = λ t. cond (ltb i (span W (r % W))) (walk_alike (r % W) (r / W) n i t) None

  shown_alike : (w : Option ℕ) → Off w → (i : ℕ) → shown W b w i ≡ shown W b' w i
  unfolding shown Off
  shown_alike None o i = refl
  shown_alike (Some k) o i = λ t. byte_of (cell_alike k (i / 8) o t) (i % 8)

  blocks_alike : (h k n : ℕ) → blocks W b h k n ≡ blocks W b' h k n
  unfolding blocks
  blocks_alike zero zero n = refl
  blocks_alike zero (suc k) zero = refl
  blocks_alike zero (suc k) (suc n) = refl
  blocks_alike (suc h) zero n = refl
  blocks_alike (suc h) (suc k) zero = refl
  blocks_alike (suc h) (suc k) (suc n) = λ t. suc k ∷ joined W (λ j. blocks_alike h (cells k j t / W) (suc n - j * span W h) t)

  sound_alike : (top h k n : ℕ) → sound W b top h k n ≡ sound W b' top h k n
  unfolding sound
  sound_alike top zero zero n = refl
  sound_alike top zero (suc k) zero = refl
  sound_alike top zero (suc k) (suc n) = refl
  sound_alike top (suc h) zero n = refl
  sound_alike top (suc h) (suc k) zero = refl
  sound_alike top (suc h) (suc k) (suc n) =
      λ t. ltb (suc k) top && every W (λ j. aligned W (suc n - j * span W h) (cells k j t) && sound_alike top h (cells k j t / W) (suc n - j * span W h) t)

  root_sound_alike : (height top r n : ℕ) → root_sound W b height top r n ≡ root_sound W b' height top r n
  unfolding root_sound
  root_sound_alike height top r zero = refl
  root_sound_alike height top r (suc n) = λ t. leb (r % W) height && sound_alike top (r % W) (r / W) (suc n) t

-- ---- Files

-- trailer, inode pointer block and the leaf of file f are not block 0
pub record Found (g : Layout) (b : List ℕ) (f : ℕ) : Type 0 where
  pub trailer_there : 0 < block_count g b - 1
  pub inode_there : 0 < inode_block g b
  pub leaf_there : 0 < leaf g b (f / g.inodes)

module _ (g : Layout) {b b' : List ℕ} (same : Alike g.words b b') where
  pub count_alike : block_count g b ≡ block_count g b'
  count_alike = count_kept g b b' same.lengths

  module _ (there : 0 < block_count g b - 1) where
    pub trailer_alike : (j : ℕ) → trailer g b j ≡ trailer g b' j
    unfolding trailer
    trailer_alike j = cell_alike g.words same (block_count g b - 1) j there ∙ (λ t. cell g.words b' (count_alike t - 1) j)

    pub inode_alike : inode_block g b ≡ inode_block g b'
    unfolding inode_block
    inode_alike = λ t. trailer_alike 0 t / g.words

    module _ (inode : 0 < inode_block g b) where
      pub pointer_alike : (l : ℕ) → inode_pointer g b l ≡ inode_pointer g b' l
      unfolding inode_pointer
      pointer_alike l = cell_alike g.words same (inode_block g b) l inode ∙ (λ t. cell g.words b' (inode_alike t) l)

      pub leaf_alike : (l : ℕ) → leaf g b l ≡ leaf g b' l
      unfolding leaf
      leaf_alike l = λ t. pointer_alike l t / g.words

  -- the walk as a call goes by links
  leaf_links_alike : (f : ℕ) → linked_leaf g b f ≡ linked_leaf g b' f
  unfolding linked_leaf
  leaf_links_alike f = λ t.
      link_alike g.words same (link_alike g.words same (count_alike t - 1) 0 t / g.words) (f / g.inodes) t / g.words

  inode_links_alike : (f j : ℕ) → linked_word g b f j ≡ linked_word g b' f j
  unfolding linked_word
  inode_links_alike f j = λ t. link_alike g.words same (leaf_links_alike f t) (2 * (f % g.inodes) + j) t

  pub walk_to_alike : (f i : ℕ) → walk_to g b f i ≡ walk_to g b' f i
  unfolding walk_to
  walk_to_alike f i = λ t. cond (ltb f (files g)) (root_walk_alike g.words same (inode_links_alike f 0 t) (inode_links_alike f 1 t) i t) None

  module _ {f : ℕ} (found : Found g b f) where
    pub address_alike : root_address g b f ≡ root_address g b' f
    unfolding root_address
    address_alike = λ t. g.words * leaf_alike found.trailer_there found.inode_there (f / g.inodes) t + 2 * (f % g.inodes)

    -- the root stands outside block 0
    pub address_off : g.words ≤ root_address g b f
    unfolding root_address
    address_off = by (leaf g b (f / g.inodes)) found.leaf_there
      where
        by : (k : ℕ) → 0 < k → g.words ≤ g.words * k + 2 * (f % g.inodes)
        by zero l = absurd (omega arith)
        by (suc k) l = omega arith

    pub root_alike : root g b f ≡ root g b' f
    unfolding root
    root_alike = same.words (root_address g b f) address_off ∙ (λ t. get_or b' (address_alike t) 0)

    pub size_alike : size g b f ≡ size g b' f
    unfolding size size_address
    size_alike = same.words (root_address g b f + 1) (omega (arith, address_off)) ∙ (λ t. get_or b' (address_alike t + 1) 0)

    pub file_walk_alike : (i : ℕ) → file_walk g b f i ≡ file_walk g b' f i
    unfolding file_walk
    file_walk_alike i = λ t. root_walk_alike g.words same (root_alike t) (size_alike t) i t

    pub file_blocks_alike : file_blocks g b f ≡ file_blocks g b' f
    unfolding file_blocks root_blocks
    file_blocks_alike = λ t. blocks_alike g.words same (root_alike t % g.words) (root_alike t / g.words) (size_alike t) t

    pub file_sound_alike : file_sound g b f ≡ file_sound g b' f
    unfolding file_sound
    file_sound_alike = λ t. leb (size_alike t) (greatest g) && root_sound_alike g.words same g.height (count_alike t - 1) (root_alike t) (size_alike t) t

    byte_alike : (i j : ℕ) → shown g.words b (file_walk g b f i) j ≡ shown g.words b' (file_walk g b' f i) j
    byte_alike i j = shown_alike g.words same (file_walk g b f i) (file_walk_off g b f i) j ∙ (λ t. shown g.words b' (file_walk_alike i t) j)

    pub contents_alike : contents g b f ≡ contents g b' f
    unfolding contents
    contents_alike = λ t. tabulate (size_alike t) (λ i. byte_alike i (i % span g.words 0) t)
