-- Whole boards: what is visible of all files. Boards on which that is the same show the same.
use Rattle.std.specs.Prelude.{None}
use mathlib.Core.Path.{◌≡◌, refl, sym, ap, ap₂, ◌∙◌}
use mathlib.Core.Logic.{inl, inr}
use mathlib.Core.Bool.{Bool, ◌&&◌}
use mathlib.Core.List.{List, ◌∷◌, ◌++◌}
use Prim.Native.Nat.{ℕ, zero, suc, ◌+◌, ◌-◌, ◌*◌, ◌/◌, ◌%◌, ◌^◌, ◌≤◌, ◌<◌}
use native.Mathlib.Omega.{arith}
use native.Mathlib.Nat.{mod-lt, mod-eq_of_lt, zero-div, div-add-mod', div-lt_iff_lt-mul, add-zero, add_assoc}
use lib.ListN.{length}
use lib.Arith.{digits_mod, mod-mul}
use lib.Dec.{leb, eqb}
use borrow.Author.Tests.{lt-ltb, le-ltb}
use Rattle.model.specs.Lists.{tabulate, joined, every, sum, distinct, one, occ}
use Rattle.model.specs.Words.{byte_of}
use Rattle.model.specs.Layout.{Layout, Fits, files}
use Rattle.model.specs.Tree.{ending, span, link, walk, shown}
use Rattle.model.specs.Board.{root_walk, root_blocks, root_sound, trailer_word, greatest, block_count, trailer, inode_block, inode_pointer, leaf, root_address, root_height, root_block, root, size, file_walk, contents, file_blocks, live_blocks, free, in_range, word_count_sound, trailer_sound, leaf_sound, spare_sound, inodes_sound, file_sound, trees_sound, accepted, size_address}
use Rattle.model.specs.Calls.{word_count_fault, board_faults, check_answer}
use Rattle.model.proofs.Cases.{split, every_cong, tabulate_cong, joined_cong}
use Rattle.model.proofs.Sums.{sum_at}
use Rattle.model.proofs.Counting.{one_same, occ_append, occ_joined, occ_tabulate}
use Rattle.model.proofs.Spans.{child, span_pos}
use Rattle.model.proofs.Perform.{address_block}
use Rattle.model.proofs.Trees.{walk_dead}
use Rattle.model.proofs.Walks.{block_pos, spanned_pos, span_blocks}
use Rattle.model.proofs.Agree.{byte_at, span_byte, agree, seen_live, span_byte_in, span_byte_past, agree_blocks, agree_sound, agree_span_byte, blocks_none}

-- ---- what is seen of a byte is where the walk to it ends

module _ (W : ℕ) (pos : 0 < W) where
  -- a byte's place in its data block is the same in each tree above it
  pub place_in_block : (h i : ℕ) → i % span W h % span W 0 ≡ i % span W 0
  unfolding span
  place_in_block h i = rw (span_blocks W pos h, mod-mul i (spanned_pos W pos h) (block_pos W pos)) (digits_mod (i / (8 * W) % W ^ h) (mod-lt i (block_pos W pos)))

  ending_byte : (b : List ℕ) (k n i : ℕ) → i < span W 0 → i < n → shown W b (ending k n) i ≡ byte_at W b 0 k n i
  unfolding shown ending byte_at link byte_of
  ending_byte b zero n i l v = sym (seen_live (n - i) _ (omega arith) ∙ ap (λ (x : ℕ). x % 256) (zero-div (256 ^ (i % 8))))
  ending_byte b (suc k) zero i l v = absurd (omega arith)
  ending_byte b (suc k) (suc n) i l v = sym (seen_live (suc n - i) _ (omega arith))

  walk_byte : (b : List ℕ) (h k n i : ℕ) → i < span W h → i < n → shown W b (walk W b h k n i) (i % span W 0) ≡ byte_at W b h k n i
  unfolding walk byte_at
  walk_byte b zero k n i l v = rw (mod-eq_of_lt l) (ending_byte b k n i l v)
  walk_byte b (suc h) k n i l v =
      let j : ℕ = i / span W h in
      rw (← (place_in_block h i)) (walk_byte b h (link W b k j / W) (n - j * span W h) (i % span W h) (mod-lt i (span_pos W pos h)) (omega (arith, div-add-mod' i (span W h))))

  pub agree_walk : (b b' : List ℕ) (h k n i : ℕ) → i < span W h → agree W b b' h k n → walk W b h k n i ≡ walk W b' h k n i
  unfolding walk agree
  agree_walk b b' zero k n i l a = refl
  agree_walk b b' (suc h) k n i l a =
      let j : ℕ = i / span W h in
      let m : ℕ = n - j * span W h in
      elim (split n (j * span W h)) [
        | inl d ↦
            let z : m ≡ 0 = omega arith in
            rw z (walk_dead W b h (link W b k j / W) (i % span W h) ∙ sym (walk_dead W b' h (link W b' k j / W) (i % span W h)))
        | inr d ↦ rw (← (a j (child W pos h i l).which d).0) (agree_walk b b' h (link W b k j / W) m (i % span W h) (mod-lt i (span_pos W pos h)) (a j (child W pos h i l).which d).1)
      ]

-- byte i of a file with root word r and size n
unfoldable pub root_byte : ℕ → List ℕ → ℕ → ℕ → ℕ → ℕ
root_byte W b r n i = span_byte W b (r % W) (r / W) n i

pub root_byte_in : (W : ℕ) (b : List ℕ) (r n i : ℕ) → i < span W (r % W) → root_byte W b r n i ≡ byte_at W b (r % W) (r / W) n i
unfolding root_byte
root_byte_in W b r n i l = span_byte_in W b (r % W) (r / W) n i l

pub root_byte_past : (W : ℕ) (b : List ℕ) (r n i : ℕ) → span W (r % W) ≤ i → root_byte W b r n i ≡ 0
unfolding root_byte
root_byte_past W b r n i l = span_byte_past W b (r % W) (r / W) n i l

root_walk_byte : (W : ℕ) → 0 < W → (b : List ℕ) (r n i : ℕ) → i < n → shown W b (root_walk W b r n i) (i % span W 0) ≡ root_byte W b r n i
unfolding root_walk shown
root_walk_byte W pos b r n i v = elim (split (span W (r % W)) i) [
  | inl past ↦ rw (le-ltb i (span W (r % W)) past) (sym (root_byte_past W b r n i past))
  | inr l ↦ rw (lt-ltb i (span W (r % W)) l) (walk_byte W pos b (r % W) (r / W) n i l v ∙ sym (root_byte_in W b r n i l))
]

pub contents_bytes : (g : Layout) → 0 < g.words → (b : List ℕ) (f : ℕ) → contents g b f ≡ tabulate (size g b f) (root_byte g.words b (root g b f) (size g b f))
unfolding contents file_walk
contents_bytes g pos b f = tabulate_cong (size g b f) _ _ (λ i v. root_walk_byte g.words pos b (root g b f) (size g b f) i v)

-- ---- a file on boards that agree on it

module _ (W : ℕ) (pos : 0 < W) (b b' : List ℕ) (r r' n : ℕ) (e : 0 < n → r ≡ r') (a : agree W b b' (r % W) (r / W) n) where
  pub root_blocks_law : root_blocks W b r n ≡ root_blocks W b' r' n
  unfolding root_blocks
  root_blocks_law = elim (split n 0) [
    | inl z ↦ blocks_none W pos b (r % W) (r / W) n (omega arith) ∙ sym (blocks_none W pos b' (r' % W) (r' / W) n (omega arith))
    | inr z ↦ rw (← (e z)) (agree_blocks W pos b b' (r % W) (r / W) n a)
  ]

  pub root_byte_law : (i : ℕ) → i < n → root_byte W b r n i ≡ root_byte W b' r' n i
  unfolding root_byte
  root_byte_law i l = rw (← (e (omega arith))) (agree_span_byte W pos b b' (r % W) (r / W) n i a)

  dead_walk : (c : List ℕ) (x i : ℕ) → n ≡ 0 → root_walk W c x n i ≡ None
  unfolding root_walk
  dead_walk c x i z = elim (split (span W (x % W)) i) [
    | inl past ↦ rw (le-ltb i (span W (x % W)) past)
    | inr l ↦ rw (lt-ltb i (span W (x % W)) l, z) (walk_dead W c (x % W) (x / W) i)
  ]

  pub root_walk_law : (i : ℕ) → root_walk W b r n i ≡ root_walk W b' r' n i
  unfolding root_walk
  root_walk_law i = elim (split n 0) [
    | inl z ↦ let z' : n ≡ 0 = omega arith in dead_walk b r i z' ∙ sym (dead_walk b' r' i z')
    | inr z ↦ rw (← (e z)) (elim (split (span W (r % W)) i) [
      | inl past ↦ rw (le-ltb i (span W (r % W)) past)
      | inr l ↦ rw (lt-ltb i (span W (r % W)) l) (agree_walk W pos b b' (r % W) (r / W) n i l a)
    ])
  ]

pub root_sound_law : (W : ℕ) (pos : 0 < W) (b b' : List ℕ) (r r' n : ℕ) (e : 0 < n → r ≡ r') (a : agree W b b' (r % W) (r / W) n) (height top : ℕ)
    → root_sound W b height top r n ≡ root_sound W b' height top r' n
unfolding root_sound
root_sound_law W pos b b' r r' zero e a height top = refl
root_sound_law W pos b b' r r' (suc n) e a height top = rw (← (e (omega arith))) (ap (λ (t : Bool). leb (r % W) height && t) (agree_sound W pos b b' top (r % W) (r / W) (suc n) a))

-- ---- boards

-- all that is visible on the board is the same
pub record Same (g : Layout) (b b' : List ℕ) : Type 0 where
  pub lengths : length b ≡ length b'
  pub trailers : (j : ℕ) → j < g.words → trailer g b j ≡ trailer g b' j
  pub pointers : (l : ℕ) → l < g.words → inode_pointer g b l ≡ inode_pointer g b' l
  pub sizes : (f : ℕ) → f < files g → size g b f ≡ size g b' f
  pub roots : (f : ℕ) → f < files g → 0 < size g b f → root g b f ≡ root g b' f
  pub trees : (f : ℕ) → f < files g → agree g.words b b' (root_height g b f) (root_block g b f) (size g b f)

pub words_pos : (g : Layout) → Fits g → 0 < g.words
words_pos g fit = omega (arith, fit.trailer_fits)

-- boards of one length with the same words in the trailer, and where an inode pointer is the same
module _ (g : Layout) (b b' : List ℕ) (len : length b ≡ length b') where
  pub count_kept : block_count g b ≡ block_count g b'
  unfolding block_count
  count_kept = ap (λ (x : ℕ). x / g.words) len

  pub words_kept : word_count_sound g b ≡ word_count_sound g b'
  unfolding word_count_sound
  words_kept = rw len

  pub leaf_kept : (l : ℕ) → inode_pointer g b l ≡ inode_pointer g b' l → leaf g b l ≡ leaf g b' l
  unfolding leaf
  leaf_kept l e = ap (λ (x : ℕ). x / g.words) e

  pub leaf_sound_kept : (l : ℕ) → inode_pointer g b l ≡ inode_pointer g b' l → leaf_sound g b l ≡ leaf_sound g b' l
  unfolding leaf_sound in_range
  leaf_sound_kept l e = rw (e, leaf_kept l e, count_kept)

  pub spare_sound_kept : (j : ℕ) → inode_pointer g b (g.leaves + j) ≡ inode_pointer g b' (g.leaves + j) → spare_sound g b j ≡ spare_sound g b' j
  unfolding spare_sound
  spare_sound_kept j e = ap (λ (x : ℕ). eqb x 0) e

  module _ (fit : Fits g) (trailers : (j : ℕ) → j < g.words → trailer g b j ≡ trailer g b' j) where
    pub inode_kept : inode_block g b ≡ inode_block g b'
    unfolding inode_block
    inode_kept = ap (λ (x : ℕ). x / g.words) (trailers 0 (words_pos g fit))

    pub trailer_kept : trailer_sound g b ≡ trailer_sound g b'
    unfolding trailer_sound in_range
    trailer_kept =
        let rest : every (g.words - 1) (λ j. eqb (trailer g b (suc j)) (trailer_word g (block_count g b) (suc j))) ≡ every (g.words - 1) (λ j. eqb (trailer g b' (suc j)) (trailer_word g (block_count g b') (suc j))) =
        every_cong (g.words - 1) _ _ (λ j h. rw (trailers (suc j) (omega arith), count_kept)) in
        rw (rest, trailers 0 (words_pos g fit), inode_kept, count_kept)

module _ (g : Layout) (fit : Fits g) (b b' : List ℕ) (s : Same g b b') where
  pos : 0 < g.words
  pos = words_pos g fit

  pub same_count : block_count g b ≡ block_count g b'
  same_count = count_kept g b b' s.lengths

  pub same_inode : inode_block g b ≡ inode_block g b'
  same_inode = inode_kept g b b' s.lengths fit s.trailers

  pub same_leaf : (l : ℕ) → l < g.leaves → leaf g b l ≡ leaf g b' l
  same_leaf l h = leaf_kept g b b' s.lengths l (s.pointers l (omega (arith, fit.leaves_fit)))

  pub same_address : (f : ℕ) → f / g.inodes < g.leaves → root_address g b f ≡ root_address g b' f
  unfolding root_address
  same_address f h = ap (λ (x : ℕ). g.words * x + 2 * (f % g.inodes)) (same_leaf (f / g.inodes) h)

  pub same_blocks : (f : ℕ) → f < files g → file_blocks g b f ≡ file_blocks g b' f
  unfolding file_blocks
  same_blocks f h = rw (← (s.sizes f h)) (root_blocks_law g.words pos b b' (root g b f) (root g b' f) (size g b f) (s.roots f h) (s.trees f h))

  pub same_live : live_blocks g b ≡ live_blocks g b'
  unfolding live_blocks
  same_live = ap₂ ◌∷◌ same_inode (ap₂ ◌++◌ (tabulate_cong g.leaves (leaf g b) (leaf g b') same_leaf) (joined_cong (files g) (file_blocks g b) (file_blocks g b') same_blocks))

  pub same_free : free g b ≡ free g b'
  unfolding free
  same_free = rw (same_count, same_live)

  same_file : (f : ℕ) → f < files g → file_sound g b f ≡ file_sound g b' f
  unfolding file_sound
  same_file f h = rw (← (s.sizes f h), ← same_count)
      (ap (λ (t : Bool). leb (size g b f) (greatest g) && t) (root_sound_law g.words pos b b' (root g b f) (root g b' f) (size g b f) (s.roots f h) (s.trees f h) g.height (block_count g b - 1)))

  pub same_contents : (f : ℕ) → f < files g → contents g b f ≡ contents g b' f
  same_contents f h = rw (contents_bytes g pos b f, contents_bytes g pos b' f, ← (s.sizes f h))
      (tabulate_cong (size g b f) _ _ (root_byte_law g.words pos b b' (root g b f) (root g b' f) (size g b f) (s.roots f h) (s.trees f h)))

  pub same_walk : (f : ℕ) → f < files g → (i : ℕ) → file_walk g b f i ≡ file_walk g b' f i
  unfolding file_walk
  same_walk f h i = rw (← (s.sizes f h)) (root_walk_law g.words pos b b' (root g b f) (root g b' f) (size g b f) (s.roots f h) (s.trees f h) i)

  same_inodes : inodes_sound g b ≡ inodes_sound g b'
  unfolding inodes_sound
  same_inodes = ap₂ ◌&&◌ (every_cong g.leaves (leaf_sound g b) (leaf_sound g b') (λ l h. leaf_sound_kept g b b' s.lengths l (s.pointers l (omega (arith, fit.leaves_fit)))))
      (every_cong (g.words - g.leaves) (spare_sound g b) (spare_sound g b') (λ j h. spare_sound_kept g b b' s.lengths j (s.pointers (g.leaves + j) (omega arith))))

  same_trees : trees_sound g b ≡ trees_sound g b'
  unfolding trees_sound
  same_trees = ap₂ ◌&&◌ (ap₂ ◌&&◌ same_inodes (every_cong (files g) (file_sound g b) (file_sound g b') same_file)) (ap distinct same_live)

  pub same_accepted : accepted g b ≡ accepted g b'
  unfolding accepted
  same_accepted = rw (words_kept g b b' s.lengths, trailer_kept g b b' s.lengths fit s.trailers, same_trees)

  pub same_check : check_answer g b ≡ check_answer g b'
  unfolding check_answer board_faults word_count_fault
  same_check = rw (words_kept g b b' s.lengths, trailer_kept g b b' s.lengths fit s.trailers, same_trees)

-- ---- live blocks, counted

module _ (g : Layout) (b : List ℕ) where
  pub occ_live : (q : ℕ) → occ q (live_blocks g b) ≡ one q (inode_block g b) + sum g.leaves (λ l. one q (leaf g b l)) + sum (files g) (λ f. occ q (file_blocks g b f))
  unfolding live_blocks occ
  occ_live q = omega (arith, occ_append q (tabulate g.leaves (leaf g b)) (joined (files g) (file_blocks g b)), occ_tabulate q g.leaves (leaf g b), occ_joined q (files g) (file_blocks g b))

  pub inode_live : 0 < occ (inode_block g b) (live_blocks g b)
  inode_live = omega (arith, occ_live (inode_block g b), one_same (inode_block g b))

  pub leaf_live : (l : ℕ) → l < g.leaves → 0 < occ (leaf g b l) (live_blocks g b)
  leaf_live l h = omega (arith, occ_live (leaf g b l), one_same (leaf g b l), sum_at g.leaves (λ i. one (leaf g b l) (leaf g b i)) l h)

  pub file_live : (f q : ℕ) → f < files g → occ q (file_blocks g b f) ≤ occ q (live_blocks g b)
  file_live f q h = omega (arith, occ_live q, sum_at (files g) (λ i. occ q (file_blocks g b i)) f h)

-- ---- where a file is

module _ (g : Layout) (fit : Fits g) where
  -- the leaf of a file, and its place there
  pub leaf_of : (f : ℕ) → f < files g → f / g.inodes < g.leaves
  unfolding files
  leaf_of f h = (div-lt_iff_lt-mul fit.inodes_some).1 h

  pub slot : (f : ℕ) → 2 * (f % g.inodes) + 1 < g.words
  slot f = omega (arith, mod-lt f fit.inodes_some, fit.inodes_fit)

  -- a file's inode lies in its leaf
  pub inode_block_of : (b : List ℕ) (f d : ℕ) → d ≤ 1 → (root_address g b f + d) / g.words ≡ leaf g b (f / g.inodes)
  unfolding root_address
  inode_block_of b f d l = rw (add_assoc (g.words * leaf g b (f / g.inodes)) (2 * (f % g.inodes)) d) (address_block g.words (leaf g b (f / g.inodes)) (2 * (f % g.inodes) + d) (omega (arith, slot f)))

  pub root_block_law : (b : List ℕ) (f : ℕ) → root_address g b f / g.words ≡ leaf g b (f / g.inodes)
  root_block_law b f = ap (λ (x : ℕ). x / g.words) (sym (add-zero (root_address g b f))) ∙ inode_block_of b f 0 (omega arith)

  pub size_block : (b : List ℕ) (f : ℕ) → size_address g b f / g.words ≡ leaf g b (f / g.inodes)
  unfolding size_address
  size_block b f = inode_block_of b f 1 (omega arith)
