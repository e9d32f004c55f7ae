-- What it says of a board that it is accepted, as facts on numbers.
use mathlib.Core.Path.{◌≡◌}
use mathlib.Core.Logic.{inl, inr}
use mathlib.Core.Bool.{Bool, true, ◌&&◌}
use mathlib.Core.List.{List}
use Prim.Native.Nat.{ℕ, zero, suc, ◌+◌, ◌-◌, ◌*◌, ◌/◌, ◌%◌, ◌≤◌, ◌<◌, ◌^◌}
use native.Mathlib.Omega.{arith}
use native.Mathlib.Nat.{mod-lt, div-add-mod', mul_comm, le-div_iff_mul-le}
use lib.ListN.{length}
use lib.Dec.{T, leb, ltb, eqb, leb→le, ltb→lt, lt→ltb, eqb→eq}
use Rattle.model.specs.Lists.{every, distinct, occ}
use Rattle.model.specs.Layout.{Layout, Fits, files}
use Rattle.model.specs.Tree.{sound}
use Rattle.model.specs.Board.{root_sound, trailer_word, greatest, block_count, trailer, inode_block, inode_pointer, leaf, root_height, root_block, root, size, live_blocks, in_range, word_count_sound, trailer_sound, leaf_sound, spare_sound, inodes_sound, file_sound, trees_sound, accepted}
use Rattle.model.proofs.Cases.{split, and_left, and_right, and_both, every_of, every_all}
use Rattle.model.proofs.Counting.{distinct_occ, occ_distinct}
use Rattle.model.proofs.Perform.{block_on}
use Rattle.model.proofs.Trees.{sound_dead}
use Rattle.model.proofs.Shown.{words_pos}

-- a board whose word count is in order
pub record Counted (g : Layout) (b : List ℕ) : Type 0 where
  pub whole : length b ≡ g.words * block_count g b
  pub blocks_least : 16 ≤ block_count g b
  pub below : length b < 2 ^ 64

pub counted : (g : Layout) → Fits g → (b : List ℕ) → T (word_count_sound g b) → Counted g b
unfolding word_count_sound block_count
counted g fit b ok =
    let low : Bool = leb (16 * g.words) (length b) in
    let high : Bool = leb (length b) (g.most * g.words) in
    let even : Bool = eqb (length b % g.words) 0 in
    let both : T (low && high) = and_left (low && high) even ok in
    let rest : length b % g.words ≡ 0 = eqb→eq (length b % g.words) 0 (and_right (low && high) even ok) in
    record {
      whole = omega (arith, div-add-mod' (length b) g.words, mul_comm g.words (length b / g.words));
      blocks_least = (le-div_iff_mul-le (words_pos g fit)).1 (leb→le (16 * g.words) (length b) (and_left low high both));
      below = omega (arith, fit.addresses_fit, leb→le (length b) (g.most * g.words) (and_right low high both));
    }

-- k is one of 1 to B − 2
abbrev pub Ranged : Layout → List ℕ → ℕ → Type 0
Ranged g b k = (0 < k) × (k < block_count g b - 1)

pub ranged : (g : Layout) (b : List ℕ) (k : ℕ) → T (in_range g b k) → Ranged g b k
unfolding in_range
ranged g b k t = (ltb→lt 0 k (and_left (ltb 0 k) (ltb k (block_count g b - 1)) t), ltb→lt k (block_count g b - 1) (and_right (ltb 0 k) (ltb k (block_count g b - 1)) t))

pub in_range_law : (g : Layout) (b : List ℕ) (k : ℕ) → Ranged g b k → T (in_range g b k)
unfolding in_range
in_range_law g b k r = and_both (ltb 0 k) (ltb k (block_count g b - 1)) (lt→ltb 0 k r.0) (lt→ltb k (block_count g b - 1) r.1)

-- the parts of acceptance
pub record Accepted (g : Layout) (b : List ℕ) : Type 0 where
  pub words : T (word_count_sound g b)
  pub trailers : T (trailer_sound g b)
  pub leaves : (l : ℕ) → l < g.leaves → T (leaf_sound g b l)
  pub spares : (j : ℕ) → j < g.words - g.leaves → T (spare_sound g b j)
  pub files_sound : (f : ℕ) → f < files g → T (file_sound g b f)
  pub once : (q : ℕ) → occ q (live_blocks g b) ≤ 1

module _ (g : Layout) (b : List ℕ) where
  abbrev L : Bool
  L = every g.leaves (leaf_sound g b)

  abbrev S : Bool
  S = every (g.words - g.leaves) (spare_sound g b)

  abbrev F : Bool
  F = every (files g) (file_sound g b)

  abbrev D : Bool
  D = distinct (live_blocks g b)

  pub accepted_parts : T (accepted g b) → Accepted g b
  unfolding accepted trees_sound inodes_sound
  accepted_parts t =
      let first : T (word_count_sound g b && trailer_sound g b) = and_left (word_count_sound g b && trailer_sound g b) (L && S && F && D) t in
      let trees : T (L && S && F && D) = and_right (word_count_sound g b && trailer_sound g b) (L && S && F && D) t in
      let inodes : T (L && S) = and_left (L && S) F (and_left (L && S && F) D trees) in
      record {
        words = and_left (word_count_sound g b) (trailer_sound g b) first;
        trailers = and_right (word_count_sound g b) (trailer_sound g b) first;
        leaves = every_of g.leaves (leaf_sound g b) (and_left L S inodes);
        spares = every_of (g.words - g.leaves) (spare_sound g b) (and_right L S inodes);
        files_sound = every_of (files g) (file_sound g b) (and_right (L && S) F (and_left (L && S && F) D trees));
        once = distinct_occ (live_blocks g b) (and_right (L && S && F) D trees);
      }

  pub parts_accepted : Accepted g b → T (accepted g b)
  unfolding accepted trees_sound inodes_sound
  parts_accepted a =
      let leaves : T L = every_all g.leaves (leaf_sound g b) a.leaves in
      let spares : T S = every_all (g.words - g.leaves) (spare_sound g b) a.spares in
      let all_files : T F = every_all (files g) (file_sound g b) a.files_sound in
      and_both (word_count_sound g b && trailer_sound g b) (L && S && F && D) (and_both (word_count_sound g b) (trailer_sound g b) a.words a.trailers)
      (and_both (L && S && F) D (and_both (L && S) F (and_both L S leaves spares) all_files) (occ_distinct (live_blocks g b) a.once))

-- ---- what they say of blocks and files

module _ (g : Layout) (b : List ℕ) where
  pub root_sound_parts : (height top r n : ℕ) → 0 < n → T (root_sound g.words b height top r n) → (r % g.words ≤ height) × T (sound g.words b top (r % g.words) (r / g.words) n)
  unfolding root_sound
  root_sound_parts height top r zero p t = absurd (omega arith)
  root_sound_parts height top r (suc n) p t =
      let u : Bool = leb (r % g.words) height in
      let v : Bool = sound g.words b top (r % g.words) (r / g.words) (suc n) in
      (leb→le (r % g.words) height (and_left u v t), and_right u v t)

  pub file_parts : (f : ℕ) → T (file_sound g b f) → (size g b f ≤ greatest g) × T (root_sound g.words b g.height (block_count g b - 1) (root g b f) (size g b f))
  unfolding file_sound
  file_parts f t =
      let u : Bool = leb (size g b f) (greatest g) in
      let v : Bool = root_sound g.words b g.height (block_count g b - 1) (root g b f) (size g b f) in
      (leb→le (size g b f) (greatest g) (and_left u v t), and_right u v t)

  -- the tree of a sound file is sound
  pub file_tree : (f : ℕ) → T (file_sound g b f) → T (sound g.words b (block_count g b - 1) (root_height g b f) (root_block g b f) (size g b f))
  file_tree f t = elim (split (size g b f) 0) [
    | inl z ↦ let e : size g b f ≡ 0 = omega arith in rw (e, sound_dead g.words b (block_count g b - 1) (root_height g b f) (root_block g b f)) tt
    | inr live ↦ (root_sound_parts g.height (block_count g b - 1) (root g b f) (size g b f) live (file_parts f t).1).1
  ]

  pub inode_range : T (trailer_sound g b) → Ranged g b (inode_block g b)
  unfolding trailer_sound
  inode_range t =
      let m : Bool = eqb (trailer g b 0 % g.words) 1 in
      let r : Bool = in_range g b (inode_block g b) in
      let w : Bool = every (g.words - 1) (λ j. eqb (trailer g b (suc j)) (trailer_word g (block_count g b) (suc j))) in
      ranged g b (inode_block g b) (and_right m r (and_left (m && r) w t))

  pub leaf_range : (l : ℕ) → T (leaf_sound g b l) → Ranged g b (leaf g b l)
  unfolding leaf_sound
  leaf_range l t = ranged g b (leaf g b l) (and_right (eqb (inode_pointer g b l % g.words) 0) (in_range g b (leaf g b l)) t)

  pub leaves_range : inodes_sound g b ≡ true → (l : ℕ) → l < g.leaves → Ranged g b (leaf g b l)
  unfolding inodes_sound
  leaves_range e l u = leaf_range l (every_of g.leaves (leaf_sound g b) (and_left (every g.leaves (leaf_sound g b)) (every (g.words - g.leaves) (spare_sound g b)) (rw e tt)) l u)

-- f is a file of an accepted board
pub record FileOn (g : Layout) (b : List ℕ) (f : ℕ) : Type 0 where
  pub fit : Fits g
  pub board : T (accepted g b)
  pub file : f < files g

-- the pointers are as they must be, so that live blocks are in range
pub record Pointers (g : Layout) (b : List ℕ) : Type 0 where
  pub inode : Ranged g b (inode_block g b)
  pub leaf_in_law : (l : ℕ) → l < g.leaves → Ranged g b (leaf g b l)
  pub tree : (f : ℕ) → f < files g → T (sound g.words b (block_count g b - 1) (root_height g b f) (root_block g b f) (size g b f))

-- an accepted board, as facts on numbers
pub record Facts (g : Layout) (b : List ℕ) : Type 0 where
  pub sizes : Counted g b
  pub pointers : Pointers g b
  pub most : (f : ℕ) → f < files g → size g b f ≤ greatest g
  pub low : (f : ℕ) → f < files g → 0 < size g b f → root_height g b f ≤ g.height
  pub once : (q : ℕ) → occ q (live_blocks g b) ≤ 1

module _ (g : Layout) (fit : Fits g) (b : List ℕ) where
  pub facts : T (accepted g b) → Facts g b
  facts t =
      let a = accepted_parts g b t in
      record {
        sizes = counted g fit b a.words;
        pointers = record { inode = inode_range g b a.trailers; leaf_in_law = λ l u. leaf_range g b l (a.leaves l u); tree = λ f u. file_tree g b f (a.files_sound f u) };
        most = λ f u. (file_parts g b f (a.files_sound f u)).0;
        low = λ f u live. (root_sound_parts g b g.height (block_count g b - 1) (root g b f) (size g b f) live (file_parts g b f (a.files_sound f u)).1).0;
        once = a.once;
      }

  -- a block in range lies on the board, with all its words
  pub on_board : Counted g b → (k j : ℕ) → k < block_count g b → j < g.words → g.words * k + j < length b
  on_board n k j u l = omega (arith, n.whole, block_on g.words k (block_count g b) u)

  pub address_on_board : Counted g b → (a : ℕ) → a / g.words < block_count g b → a < length b
  address_on_board n a u = omega (arith, n.whole, block_on g.words (a / g.words) (block_count g b) u, mod-lt a (words_pos g fit), div-add-mod' a g.words, mul_comm g.words (a / g.words))
