-- On an accepted board no block is reached twice: the inode pointer block, the leaves and the files' blocks are apart. So a store to an inode or to the tree
-- of one file is not seen elsewhere.
use mathlib.Core.Path.{◌≡◌, sym, ap, ap₂, ◌∙◌}
use mathlib.Core.Logic.{◌≢◌, ◌⊎◌, inl, inr}
use mathlib.Core.List.{List}
use Prim.Native.Nat.{ℕ, ◌+◌, ◌-◌, ◌*◌, ◌/◌, ◌%◌, ◌≤◌, ◌<◌}
use native.Mathlib.Omega.{arith}
use native.Mathlib.Nat.{add-zero, div-add-mod'}
use lib.ListN.{length, get_or, set, length-set}
use lib.Seq.{get_or-set_same, get_or-set_other}
use Rattle.model.specs.Lists.{one, occ}
use Rattle.model.specs.Layout.{Layout, Fits, files}
use Rattle.model.specs.Tree.{cell}
use Rattle.model.specs.Board.{block_count, trailer, inode_block, inode_pointer, leaf, root_address, size_address, root_height, root_block, root, size, root_blocks, file_blocks, live_blocks}
use Rattle.model.proofs.Cases.{decide}
use Rattle.model.proofs.Sums.{sum_at, sum_two}
use Rattle.model.proofs.Counting.{one_same, one_apart}
use Rattle.model.proofs.Agree.{agree_away, cell_away, agree}
use Rattle.model.proofs.Shown.{words_pos, occ_live, leaf_live, file_live, leaf_of, count_kept, inode_block_of, root_block_law, size_block, Same}
use Rattle.model.proofs.Accepting.{FileOn, Facts, facts, Ranged, address_on_board}
use Rattle.model.proofs.Ranges.{file_range}
use Rattle.model.proofs.Commits.{Others}

-- ---- Blocks

module _ (g : Layout) (b : List ℕ) (once : (q : ℕ) → occ q (live_blocks g b) ≤ 1) where
  pub inode_not_leaf : (l : ℕ) → l < g.leaves → leaf g b l ≢ inode_block g b
  inode_not_leaf l u = let q : ℕ = leaf g b l in
      one_apart q (inode_block g b) (omega (arith, once q, occ_live g b q, one_same q, sum_at g.leaves (λ i. one q (leaf g b i)) l u))

  pub leaves_apart : (l l' : ℕ) → l < g.leaves → l' < g.leaves → l ≢ l' → leaf g b l ≢ leaf g b l'
  leaves_apart l l' u v d = let q : ℕ = leaf g b l in
      one_apart q (leaf g b l') (omega (arith, once q, occ_live g b q, one_same q, sum_two g.leaves (λ i. one q (leaf g b i)) l l' u v d))

  -- a block of a file is none of these, nor another file's
  module _ (f q : ℕ) (f_lt : f < files g) (in-file : 0 < occ q (file_blocks g b f)) where
    pub file_not_inode : q ≢ inode_block g b
    file_not_inode = one_apart q (inode_block g b) (omega (arith, once q, occ_live g b q, sum_at (files g) (λ i. occ q (file_blocks g b i)) f f_lt))

    pub file_not_leaf : (l : ℕ) → l < g.leaves → q ≢ leaf g b l
    file_not_leaf l u = one_apart q (leaf g b l) (omega (arith, once q, occ_live g b q, sum_at g.leaves (λ i. one q (leaf g b i)) l u, sum_at (files g) (λ i. occ q (file_blocks g b i)) f f_lt))

    pub files_apart : (i : ℕ) → i < files g → i ≢ f → occ q (file_blocks g b i) ≡ 0
    files_apart i u d = omega (arith, once q, occ_live g b q, sum_two (files g) (λ j. occ q (file_blocks g b j)) i f u f_lt d)

  -- a leaf is no file's block
  pub leaf_not_file : (l f : ℕ) → l < g.leaves → f < files g → occ (leaf g b l) (file_blocks g b f) ≡ 0
  leaf_not_file l f u v = let q : ℕ = leaf g b l in
      omega (arith, once q, occ_live g b q, one_same q, sum_at g.leaves (λ i. one q (leaf g b i)) l u, sum_at (files g) (λ i. occ q (file_blocks g b i)) f v)

-- ---- Addresses

module _ (g : Layout) (fit : Fits g) (b : List ℕ) (ok : Facts g b) where
  -- the inodes of two files are apart
  pub inodes_apart : (i f d e : ℕ) → i < files g → f < files g → i ≢ f → d ≤ 1 → e ≤ 1 → root_address g b i + d ≢ root_address g b f + e
  unfolding root_address
  inodes_apart i f d e u v ne dl el x = elim (decide (i / g.inodes) (f / g.inodes)) [
    | inl same ↦
        let place : i % g.inodes ≡ f % g.inodes = omega (arith, ap (λ (y : ℕ). g.words * leaf g b y) same) in
        ne (sym (div-add-mod' i g.inodes) ∙ ap₂ (λ (y z : ℕ). y * g.inodes + z) same place ∙ div-add-mod' f g.inodes)
    | inr d' ↦ leaves_apart g b ok.once (i / g.inodes) (f / g.inodes) (leaf_of g fit i u) (leaf_of g fit f v) d'
        (sym (inode_block_of g fit b i d dl) ∙ ap (λ (y : ℕ). y / g.words) x ∙ inode_block_of g fit b f e el)
  ]

-- an address in the inode of file f, or in a block of its tree
abbrev pub Spot : Layout → List ℕ → ℕ → ℕ → Type 0
Spot g b f a = ((a ≡ root_address g b f) ⊎ (a ≡ size_address g b f)) ⊎ (0 < occ (a / g.words) (file_blocks g b f))

module _ {g : Layout} {b : List ℕ} {f : ℕ} (on : FileOn g b f) where
  open on use {fit, board, file}

  ok : Facts g b
  ok = facts g fit b board

  pos : 0 < g.words
  pos = words_pos g fit

  spot_block : (a : ℕ) → Spot g b f a → (a / g.words ≡ leaf g b (f / g.inodes)) ⊎ (0 < occ (a / g.words) (file_blocks g b f))
  spot_block a (inl (inl e)) = inl (ap (λ (x : ℕ). x / g.words) e ∙ root_block_law g fit b f)
  spot_block a (inl (inr e)) = inl (ap (λ (x : ℕ). x / g.words) e ∙ size_block g fit b f)
  spot_block a (inr t) = inr t

  pub spot_ranged : (a : ℕ) → Spot g b f a → Ranged g b (a / g.words)
  spot_ranged a s = elim (spot_block a s) [
    | inl e ↦ rw e (ok.pointers.leaf_in_law (f / g.inodes) (leaf_of g fit f file))
    | inr t ↦ file_range g fit b ok f (a / g.words) file t
  ]

  pub spot_live : (a : ℕ) → Spot g b f a → 0 < occ (a / g.words) (live_blocks g b)
  spot_live a s = elim (spot_block a s) [
    | inl e ↦ rw e (leaf_live g b (f / g.inodes) (leaf_of g fit f file))
    | inr t ↦ omega (arith, file_live g b f (a / g.words) file)
  ]

  -- it is not in the inode pointer block, in no other leaf, in no other inode and in no other file's tree
  spot_not_inode : (a : ℕ) → Spot g b f a → inode_block g b ≢ a / g.words
  spot_not_inode a s x = elim (spot_block a s) [
    | inl e ↦ inode_not_leaf g b ok.once (f / g.inodes) (leaf_of g fit f file) (sym e ∙ sym x)
    | inr t ↦ file_not_inode g b ok.once f (a / g.words) file t (sym x)
  ]

  -- an address in the tree is in no inode
  pub tree_not_inode_of : (a : ℕ) → 0 < occ (a / g.words) (file_blocks g b f) → (i d : ℕ) → i < files g → d ≤ 1 → root_address g b i + d ≢ a
  tree_not_inode_of a t i d u l x =
      file_not_leaf g b ok.once f (a / g.words) file t (i / g.inodes) (leaf_of g fit i u) (ap (λ (y : ℕ). y / g.words) (sym x) ∙ inode_block_of g fit b i d l)

  spot_not_inode_of : (a : ℕ) → Spot g b f a → (i d : ℕ) → i < files g → i ≢ f → d ≤ 1 → root_address g b i + d ≢ a
  unfolding size_address
  spot_not_inode_of a (inl (inl e)) i d u ne l x = inodes_apart g fit b ok i f d 0 u file ne l (omega arith) (x ∙ e ∙ sym (add-zero (root_address g b f)))
  spot_not_inode_of a (inl (inr e)) i d u ne l x = inodes_apart g fit b ok i f d 1 u file ne l (omega arith) (x ∙ e)
  spot_not_inode_of a (inr t) i d u ne l x = tree_not_inode_of a t i d u l x

  spot_not_file : (a : ℕ) → Spot g b f a → (i : ℕ) → i < files g → i ≢ f → occ (a / g.words) (file_blocks g b i) ≡ 0
  spot_not_file a s i u d = elim (spot_block a s) [
    | inl e ↦ rw e (leaf_not_file g b ok.once (f / g.inodes) i (leaf_of g fit f file) u)
    | inr t ↦ files_apart g b ok.once f (a / g.words) file t i u d
  ]

  -- ---- One word stored there

  module _ (a v : ℕ) (s : Spot g b f a) where
    abbrev b₂ : List ℕ
    b₂ = set b a v

    len : length b ≡ length b₂
    len = sym (length-set b a v)

    other_block : (q j : ℕ) → j < g.words → q ≢ a / g.words → cell g.words b q j ≡ cell g.words b₂ q j
    other_block q j l d = sym (cell_away g.words pos b a v q j l d)

    pub spot_trailer : (j : ℕ) → j < g.words → trailer g b j ≡ trailer g b₂ j
    unfolding trailer
    spot_trailer j l = other_block (block_count g b - 1) j l (λ x. omega (arith, (spot_ranged a s).1)) ∙ ap (λ (x : ℕ). cell g.words b₂ (x - 1) j) (count_kept g b b₂ len)

    pub spot_pointer : (l : ℕ) → l < g.words → inode_pointer g b l ≡ inode_pointer g b₂ l
    unfolding inode_pointer inode_block
    spot_pointer l u = other_block (inode_block g b) l u (spot_not_inode a s) ∙ ap (λ (x : ℕ). cell g.words b₂ (x / g.words) l) (spot_trailer 0 pos)

    pub spot_leaf : (l : ℕ) → l < g.leaves → leaf g b l ≡ leaf g b₂ l
    unfolding leaf
    spot_leaf l u = ap (λ (x : ℕ). x / g.words) (spot_pointer l (omega (arith, fit.leaves_fit)))

    pub spot_address : (i : ℕ) → i < files g → root_address g b i ≡ root_address g b₂ i
    unfolding root_address
    spot_address i u = ap (λ (x : ℕ). g.words * x + 2 * (i % g.inodes)) (spot_leaf (i / g.inodes) (leaf_of g fit i u))

    -- words of inodes other than the one stored
    word_of : (i d : ℕ) → i < files g → root_address g b i + d ≢ a → get_or b (root_address g b i + d) 0 ≡ get_or b₂ (root_address g b₂ i + d) 0
    word_of i d u ne = sym (get_or-set_other b a (root_address g b i + d) v 0 ne) ∙ ap (λ (x : ℕ). get_or b₂ (x + d) 0) (spot_address i u)

    pub spot_root : (i : ℕ) → i < files g → root_address g b i ≢ a → root g b i ≡ root g b₂ i
    unfolding root
    spot_root i u ne = sym (get_or-set_other b a (root_address g b i) v 0 ne) ∙ ap (λ (x : ℕ). get_or b₂ x 0) (spot_address i u)

    pub spot_size : (i : ℕ) → i < files g → size_address g b i ≢ a → size g b i ≡ size g b₂ i
    unfolding size size_address
    spot_size i u ne = word_of i 1 u ne

    on_board : a < length b
    on_board = address_on_board g fit b ok.sizes a (omega (arith, (spot_ranged a s).1))

    -- the word stored
    pub stored_root : a ≡ root_address g b f → root g b₂ f ≡ v
    unfolding root
    stored_root e = ap (λ (x : ℕ). get_or b₂ x 0) (sym (spot_address f file) ∙ sym e) ∙ get_or-set_same b a v 0 on_board

    pub stored_size : a ≡ size_address g b f → size g b₂ f ≡ v
    unfolding size size_address
    stored_size e = ap (λ (x : ℕ). get_or b₂ x 0) (ap (λ (x : ℕ). x + 1) (sym (spot_address f file)) ∙ sym e) ∙ get_or-set_same b a v 0 on_board

    pub spot_others : Others g b b₂ f
    unfolding size_address file_blocks root_blocks
    spot_others = record {
      sizes = λ i u d. spot_size i u (spot_not_inode_of a s i 1 u d (omega arith));
      roots = λ i u d z. spot_root i u (λ x. spot_not_inode_of a s i 0 u d (omega arith) (add-zero (root_address g b i) ∙ x));
      trees = λ i u d. agree_away g.words pos b a v (root_height g b i) (root_block g b i) (size g b i) (spot_not_file a s i u d);
    }

    -- if it is not seen in file f either, it is not seen at all
    pub spot_unseen : a ≢ size_address g b f → (0 < size g b f → a ≢ root_address g b f) → agree g.words b b₂ (root_height g b f) (root_block g b f) (size g b f) → Same g b b₂
    spot_unseen not_size not_root tree = record {
      lengths = len;
      trailers = spot_trailer;
      pointers = spot_pointer;
      sizes = λ i u. elim (decide i f) [ inl e ↦ rw e (spot_size f file (λ x. not_size (sym x))) | inr d ↦ spot_others.sizes i u d ];
      roots = λ i u live. elim (decide i f) [ inl e ↦ rw e (spot_root f file (λ x. not_root (rw e at live) (sym x))) | inr d ↦ spot_others.roots i u d live ];
      trees = λ i u. elim (decide i f) [ inl e ↦ rw e tree | inr d ↦ spot_others.trees i u d ];
    }
