-- Boards that show the same, word by word. Outside the files' trees few words are visible; a store that goes to none of them and alters no tree is not seen,
-- alone or after others that are not.
use mathlib.Core.Path.{◌≡◌, refl, sym, ap, ◌∙◌, subst}
use mathlib.Core.Logic.{◌⊎◌, inl, inr}
use mathlib.Core.List.{List, [], ◌∷◌}
use Prim.Native.Nat.{ℕ, ◌+◌, ◌-◌, ◌*◌, ◌/◌, ◌%◌, ◌<◌}
use native.Mathlib.Omega.{arith}
use native.Mathlib.Nat.{mod-lt, div-add-mod', mul_comm}
use lib.ListN.{length, get_or, set, length-set}
use Rattle.model.specs.Lists.{occ}
use Rattle.model.specs.Layout.{Layout, Fits, files}
use Rattle.model.specs.Tree.{cell}
use Rattle.model.specs.Board.{root_blocks, block_count, trailer, inode_block, inode_pointer, leaf, root_address, size_address, root_height, root_block, root, size, file_blocks, live_blocks}
use Rattle.model.specs.Store.{Store, performed}
use Rattle.model.proofs.Cases.{split}
use Rattle.model.proofs.Perform.{All, address_block}
use Rattle.model.proofs.Agree.{agree, agree_refl, agree_trans, agree_none, frame, dark_word, dark_again}
use Rattle.model.proofs.Shown.{Same, same_address, inode_live, leaf_live, root_block_law, size_block, words_pos, same_count, same_inode, file_live, leaf_of}

-- x is the address of a word of the trailer, a word of the inode pointer block, a size, or the root of a file that is not empty: of a visible word outside the files' trees
pub data Visible (g : Layout) (b : List ℕ) : ℕ → Type 0 where
  trailer_word_law : (j : ℕ) → j < g.words → Visible g b (g.words * (block_count g b - 1) + j)
  pointer_word : (l : ℕ) → l < g.words → Visible g b (g.words * inode_block g b + l)
  size_word : (f : ℕ) → f < files g → Visible g b (size_address g b f)
  root_word : (f : ℕ) → f < files g → 0 < size g b f → Visible g b (root_address g b f)

-- what is visible of a file's tree is the same on b and b'
abbrev pub TreeSame : Layout → List ℕ → List ℕ → ℕ → Type 0
TreeSame g b b' f = agree g.words b b' (root_height g b f) (root_block g b f) (size g b f)

-- a store that alters nothing visible on b
abbrev pub Unseen : Layout → List ℕ → Store → Type 0
Unseen g b s = Same g b (set b s.at s.value)

-- a tree is found by another root and size, if they are the same or the size is 0
tree_found_by : (W : ℕ) → 0 < W → (b b' : List ℕ) (r r' n n' : ℕ) → n ≡ n' → (0 < n → r ≡ r') → agree W b b' (r % W) (r / W) n → agree W b b' (r' % W) (r' / W) n'
tree_found_by W pos b b' r r' n n' sizes roots a = elim (split n 0) [
  | inl z ↦ agree_none W pos b b' (r' % W) (r' / W) n' (omega (arith, sizes))
  | inr v ↦ rw (← (roots v), ← sizes) a
]

module _ (g : Layout) (fit : Fits g) where
  -- boards on which these words and the trees are the same
  pub words_same : (b b' : List ℕ) → length b ≡ length b' → ((x : ℕ) → Visible g b x → get_or b x 0 ≡ get_or b' x 0)
      → ((f : ℕ) → f < files g → TreeSame g b b' f) → Same g b b'
  unfolding trailer inode_block inode_pointer leaf root_address size_address root size cell block_count
  words_same b b' len word tree =
      let W : ℕ = g.words in
      let count : block_count g b ≡ block_count g b' = ap (λ (x : ℕ). x / W) len in
      let trailers : (j : ℕ) → j < W → trailer g b j ≡ trailer g b' j = λ j l. word (W * (block_count g b - 1) + j) (trailer_word_law j l) ∙ ap (λ (x : ℕ). get_or b' (W * (x - 1) + j) 0) count in
      let inode : inode_block g b ≡ inode_block g b' = ap (λ (x : ℕ). x / W) (trailers 0 (words_pos g fit)) in
      let pointers : (l : ℕ) → l < g.words → inode_pointer g b l ≡ inode_pointer g b' l = λ l h. word (W * inode_block g b + l) (pointer_word l h) ∙ ap (λ (x : ℕ). get_or b' (W * x + l) 0) inode in
      let leaf-same : (f : ℕ) → f < files g → leaf g b (f / g.inodes) ≡ leaf g b' (f / g.inodes) = λ f h. ap (λ (x : ℕ). x / W) (pointers (f / g.inodes) (omega (arith, leaf_of g fit f h, fit.leaves_fit))) in
      record {
        lengths = len;
        trailers = trailers;
        pointers = pointers;
        sizes = λ f h. word (size_address g b f) (size_word f h) ∙ ap (λ (x : ℕ). get_or b' (W * x + 2 * (f % g.inodes) + 1) 0) (leaf-same f h);
        roots = λ f h v. word (root_address g b f) (root_word f h v) ∙ ap (λ (x : ℕ). get_or b' (W * x + 2 * (f % g.inodes)) 0) (leaf-same f h);
        trees = tree;
      }

  module _ (b c : List ℕ) (s : Same g b c) where
    -- the same addresses are visible on both, and the words there are the same
    visible_back : (x : ℕ) → Visible g c x → Visible g b x
    unfolding size_address
    visible_back x (trailer_word_law j l) = subst (λ (y : ℕ). Visible g b (g.words * (y - 1) + j)) (same_count g fit b c s) (trailer_word_law j l)
    visible_back x (pointer_word l h) = subst (λ (y : ℕ). Visible g b (g.words * y + l)) (same_inode g fit b c s) (pointer_word l h)
    visible_back x (size_word f h) = subst (λ (y : ℕ). Visible g b (y + 1)) (same_address g fit b c s f (leaf_of g fit f h)) (size_word f h)
    visible_back x (root_word f h v) = subst (λ (y : ℕ). Visible g b y) (same_address g fit b c s f (leaf_of g fit f h)) (root_word f h (omega (arith, v, s.sizes f h)))

    same_word : (x : ℕ) → Visible g b x → get_or b x 0 ≡ get_or c x 0
    unfolding trailer inode_pointer root size size_address cell
    same_word x (trailer_word_law j l) = s.trailers j l ∙ ap (λ (y : ℕ). get_or c (g.words * (y - 1) + j) 0) (sym (same_count g fit b c s))
    same_word x (pointer_word l h) = s.pointers l h ∙ ap (λ (y : ℕ). get_or c (g.words * y + l) 0) (sym (same_inode g fit b c s))
    same_word x (size_word f h) = s.sizes f h ∙ ap (λ (y : ℕ). get_or c (y + 1) 0) (sym (same_address g fit b c s f (leaf_of g fit f h)))
    same_word x (root_word f h v) = s.roots f h v ∙ ap (λ (y : ℕ). get_or c y 0) (sym (same_address g fit b c s f (leaf_of g fit f h)))

  pub same_refl : (b : List ℕ) → Same g b b
  same_refl b = record {
    lengths = refl;
    trailers = λ j l. refl;
    pointers = λ l h. refl;
    sizes = λ f h. refl;
    roots = λ f h v. refl;
    trees = λ f h. agree_refl g.words (words_pos g fit) b (root_height g b f) (root_block g b f) (size g b f);
  }

  pub same_trans : (b c d : List ℕ) → Same g b c → Same g c d → Same g b d
  same_trans b c d s u = record {
    lengths = s.lengths ∙ u.lengths;
    trailers = λ j l. s.trailers j l ∙ u.trailers j l;
    pointers = λ l h. s.pointers l h ∙ u.pointers l h;
    sizes = λ f h. s.sizes f h ∙ u.sizes f h;
    roots = λ f h v. s.roots f h v ∙ u.roots f h (omega (arith, v, s.sizes f h));
    trees = λ f h. agree_trans g.words (words_pos g fit) b c d (root_height g b f) (root_block g b f) (size g b f) (s.trees f h)
        (tree_found_by g.words (words_pos g fit) c d (root g c f) (root g b f) (size g c f) (size g b f) (sym (s.sizes f h)) (λ v. sym (s.roots f h (omega (arith, v, s.sizes f h)))) (u.trees f h));
  }

  -- a store that alters nothing visible still does so on a board that shows the same
  pub same_again : (b c : List ℕ) (a v : ℕ) → Same g b c → Same g b (set b a v) → Same g c (set c a v)
  same_again b c a v s u =
      let pos : 0 < g.words = words_pos g fit in
      words_same c (set c a v) (sym (length-set c a v))
      (λ x x-seen. let x-b : Visible g b x = visible_back b c s x x-seen in dark_word g.words pos (λ w. w) b c a v x s.lengths (same_word b c s x x-b) (same_word b (set b a v) u x x-b))
      (λ f h. tree_found_by g.words pos c (set c a v) (root g b f) (root g c f) (size g b f) (size g c f) (s.sizes f h) (s.roots f h)
      (dark_again g.words pos b c a v (root_height g b f) (root_block g b f) (size g b f) s.lengths (s.trees f h) (u.trees f h)))

  unseen_from : (b c : List ℕ) (ss : List Store) → Same g b c → All (Unseen g b) ss → Same g b (performed c ss)
  unfolding performed All
  unseen_from b c [] p a = p
  unseen_from b c (s ∷ ss) p a = unseen_from b (set c s.at s.value) ss (same_trans b c (set c s.at s.value) p (same_again b c s.at s.value p a.0)) a.1

  -- stores that are not seen one by one, in any order
  pub unseen_same : (b : List ℕ) (ss : List Store) → All (Unseen g b) ss → Same g b (performed b ss)
  unseen_same b ss a = unseen_from b b ss (same_refl b) a

  -- ---- where visible words lie

  -- in the trailer or a live block
  visible_block : (b : List ℕ) (x : ℕ) → Visible g b x → (x / g.words ≡ block_count g b - 1) ⊎ (0 < occ (x / g.words) (live_blocks g b))
  visible_block b x (trailer_word_law j l) = inl (address_block g.words (block_count g b - 1) j l)
  visible_block b x (pointer_word l h) = inr (rw (address_block g.words (inode_block g b) l (omega (arith, fit.leaves_fit))) (inode_live g b))
  visible_block b x (size_word f h) = inr (rw (size_block g fit b f) (leaf_live g b (f / g.inodes) (leaf_of g fit f h)))
  visible_block b x (root_word f h v) = inr (rw (root_block_law g fit b f) (leaf_live g b (f / g.inodes) (leaf_of g fit f h)))

  -- boards that have the same words in the live blocks and the trailer
  pub frame_same : (b b' : List ℕ) → length b ≡ length b'
      → ((k : ℕ) → (k ≡ block_count g b - 1) ⊎ (0 < occ k (live_blocks g b)) → (j : ℕ) → j < g.words → cell g.words b k j ≡ cell g.words b' k j) → Same g b b'
  unfolding file_blocks root_blocks cell
  frame_same b b' len same = words_same b b' len
      (λ x v. subst (λ (y : ℕ). get_or b y 0 ≡ get_or b' y 0) (omega (arith, div-add-mod' x g.words, mul_comm g.words (x / g.words)))
      (same (x / g.words) (visible_block b x v) (x % g.words) (mod-lt x (words_pos g fit))))
      (λ f h. frame g.words (words_pos g fit) b b' (root_height g b f) (root_block g b f) (size g b f) (λ k o. same k (inr (omega (arith, file_live g b f k h)))))
