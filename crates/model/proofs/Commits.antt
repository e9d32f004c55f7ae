-- The commit law: when each file becomes something sound, on blocks that it had or that were free, the board is accepted again. Several files may
-- change at once, and inode leaves and the inode pointer block may move.
use mathlib.Core.Path.{◌≡◌, refl, sym, ap, ◌∙◌}
use mathlib.Core.Logic.{◌≢◌, inl, inr}
use mathlib.Core.List.{List}
use Prim.Native.Nat.{ℕ, zero, suc, ◌+◌, ◌-◌, ◌/◌, ◌%◌, ◌≤◌, ◌<◌}
use native.Mathlib.Omega.{arith}
use lib.ListN.{length}
use lib.Dec.{T, leb, le→leb}
use Rattle.model.specs.Lists.{tabulate, sum, one, occ}
use Rattle.model.specs.Layout.{Layout, Fits, files}
use Rattle.model.specs.Tree.{seen, span, blocks, sound}
use Rattle.model.specs.Board.{root_blocks, root_sound, greatest, block_count, inode_block, leaf, root_height, root_block, root, size, file_walk, contents, walk_to, file_blocks, live_blocks, trailer_sound, leaf_sound, spare_sound, file_sound, accepted}
use Rattle.model.specs.Fresh.{splice}
use Rattle.model.proofs.Cases.{split, decide, and_both, tabulate_cong}
use Rattle.model.proofs.Sums.{sum_cong, sum_add, only, only_same, only_other, sum_only, sum_only_at}
use Rattle.model.proofs.Agree.{byte_at, agree, agree_none, agree_trans, seen_live, seen_dead, blocks_none, byte_at_past}
use Rattle.model.proofs.Changed.{Changed}
use Rattle.model.proofs.Levels.{Grown}
use Rattle.model.proofs.Shown.{Same, root_byte, root_byte_in, root_byte_past, contents_bytes, root_blocks_law, root_byte_law, root_walk_law, root_sound_law, words_pos, occ_live, leaf_of, count_kept, words_kept}
use Rattle.model.proofs.Accepting.{FileOn, accepted_parts, parts_accepted, file_parts, root_sound_parts}
use Rattle.model.proofs.Linked.{walk_to_file}

-- file f is sound on b₂, reads `wanted`, and has its blocks of b and the extra ones, less those that are gone
pub record FileCommit (g : Layout) (b b₂ : List ℕ) (f : ℕ) (wanted : List ℕ) (extra gone : ℕ → ℕ) : Type 0 where
  pub sound : T (file_sound g b₂ f)
  pub reads : contents g b₂ f ≡ wanted
  pub counts : (q : ℕ) → occ q (file_blocks g b₂ f) + gone q ≡ occ q (file_blocks g b f) + extra q

-- block k₂ stands where k stood, or is an extra one, and then k is gone
abbrev pub Moved : ℕ → ℕ → (ℕ → ℕ) → (ℕ → ℕ) → Type 0
Moved k k₂ extra gone = (q : ℕ) → one q k₂ + gone q ≡ one q k + extra q

-- b became b₂: what each file reads, and the extra blocks of the inode pointer block, of each leaf and of each file, none of them live on b, and none twice
pub record Commit (g : Layout) (b b₂ : List ℕ) (wanted : ℕ → List ℕ) (above lessAbove : ℕ → ℕ) (beside lessBeside within lessWithin : ℕ → ℕ → ℕ) : Type 0 where
  pub lengths : length b ≡ length b₂
  pub trailers : T (trailer_sound g b₂)
  pub inode : Moved (inode_block g b) (inode_block g b₂) above lessAbove
  pub leaves : (l : ℕ) → l < g.leaves → T (leaf_sound g b₂ l)
  pub spares : (j : ℕ) → j < g.words - g.leaves → T (spare_sound g b₂ j)
  pub leaves_moved : (l : ℕ) → l < g.leaves → Moved (leaf g b l) (leaf g b₂ l) (beside l) (lessBeside l)
  pub all_files : (f : ℕ) → f < files g → FileCommit g b b₂ f (wanted f) (within f) (lessWithin f)
  pub spare : (q : ℕ) → occ q (live_blocks g b) + above q + sum g.leaves (λ l. beside l q) + sum (files g) (λ f. within f q) ≤ 1

module _ (g : Layout) (b b₂ : List ℕ) where
  -- the live blocks are those of b and the extra ones, less those that are gone
  pub commit_counts : {wanted : ℕ → List ℕ} {above lessAbove : ℕ → ℕ} {beside lessBeside within lessWithin : ℕ → ℕ → ℕ} → Commit g b b₂ wanted above lessAbove beside lessBeside within lessWithin
      → (q : ℕ) → occ q (live_blocks g b₂) + lessAbove q + sum g.leaves (λ l. lessBeside l q) + sum (files g) (λ f. lessWithin f q)
      ≡ occ q (live_blocks g b) + above q + sum g.leaves (λ l. beside l q) + sum (files g) (λ f. within f q)
  commit_counts {wanted} {above} {lessAbove} {beside} {lessBeside} {within} {lessWithin} c q = omega (
    arith,
    c.inode q,
    occ_live g b q,
    occ_live g b₂ q,
    sum_cong g.leaves (λ l. one q (leaf g b₂ l) + lessBeside l q) (λ l. one q (leaf g b l) + beside l q) (λ l u. c.leaves_moved l u q),
    sum_add g.leaves (λ l. one q (leaf g b₂ l)) (λ l. lessBeside l q),
    sum_add g.leaves (λ l. one q (leaf g b l)) (λ l. beside l q),
    sum_cong (files g) (λ f. occ q (file_blocks g b₂ f) + lessWithin f q) (λ f. occ q (file_blocks g b f) + within f q) (λ f u. (c.all_files f u).counts q),
    sum_add (files g) (λ f. occ q (file_blocks g b₂ f)) (λ f. lessWithin f q),
    sum_add (files g) (λ f. occ q (file_blocks g b f)) (λ f. within f q),
  )

  pub commit_accepted : {wanted : ℕ → List ℕ} {above lessAbove : ℕ → ℕ} {beside lessBeside within lessWithin : ℕ → ℕ → ℕ} → Commit g b b₂ wanted above lessAbove beside lessBeside within lessWithin → T (accepted g b) → T (accepted g b₂)
  commit_accepted c t = parts_accepted g b₂ (record {
    words = rw (← (words_kept g b b₂ c.lengths)) (accepted_parts g b t).words;
    trailers = c.trailers;
    leaves = c.leaves;
    spares = c.spares;
    files_sound = λ f u. (c.all_files f u).sound;
    once = λ q. omega (arith, c.spare q, commit_counts c q);
  })

-- ---- What a file becomes

-- m bytes: those of file f, with `new` at o
abbrev pub spliced : (g : Layout) (b : List ℕ) (f o : ℕ) (new : List ℕ) (m : ℕ) → List ℕ
spliced g b f o new m = tabulate m (λ i. splice o new (seen (size g b f - i) (root_byte g.words b (root g b f) (size g b f) i)) i)

-- (h, k) is the tree of file f, where its size is above 0
abbrev pub Had : (g : Layout) (b : List ℕ) (f h k : ℕ) → Type 0
Had g b f h k = 0 < size g b f → (h ≡ root_height g b f) × (k ≡ root_block g b f)

module _ (g : Layout) (fit : Fits g) (b : List ℕ) (f : ℕ) where
  pub had_blocks : (h k : ℕ) → Had g b f h k → blocks g.words b h k (size g b f) ≡ file_blocks g b f
  unfolding file_blocks root_blocks
  had_blocks h k old = elim (split (size g b f) 0) [
    | inl z ↦ let z' : size g b f ≡ 0 = omega arith in
        blocks_none g.words (words_pos g fit) b h k (size g b f) z' ∙ sym (blocks_none g.words (words_pos g fit) b (root_height g b f) (root_block g b f) (size g b f) z')
    | inr z ↦ rw ((old z).0, (old z).1)
  ]

  had_byte : (h k i : ℕ) → Had g b f h k → i < span g.words h → byte_at g.words b h k (size g b f) i ≡ seen (size g b f - i) (root_byte g.words b (root g b f) (size g b f) i)
  had_byte h k i old l = elim (split (size g b f) i) [
    | inl z ↦ byte_at_past g.words (words_pos g fit) b h k (size g b f) i z ∙ sym (seen_dead (size g b f - i) _ (omega arith))
    | inr z ↦ let o = old (omega arith) in
        rw (o.0, o.1) (sym (seen_live (size g b f - i) _ (omega arith) ∙ root_byte_in g.words b (root g b f) (size g b f) i (rw (← o.0) l)))
  ]

-- a file that is written: m bytes, `new` at o, in a tree of the height that it had
pub record Written (g : Layout) (b b₂ : List ℕ) (f h k o m : ℕ) (new : List ℕ) (extra gone : ℕ → ℕ) : Type 0 where
  pub old : Had g b f h k
  pub height : root_height g b₂ f ≡ h
  pub now : size g b₂ f ≡ m
  pub low : h ≤ g.height
  pub most : m ≤ greatest g
  -- past the span nothing is seen
  pub past : (i : ℕ) → span g.words h ≤ i → i < m → splice o new 0 i ≡ 0
  pub change : Changed g.words b b₂ (block_count g b - 1) h k (root_block g b₂ f) (size g b f) m o new extra gone

root_sound_of : (g : Layout) (b₂ : List ℕ) (height top r n : ℕ) → r % g.words ≤ height → T (sound g.words b₂ top (r % g.words) (r / g.words) n) → T (root_sound g.words b₂ height top r n)
unfolding root_sound
root_sound_of g b₂ height top r zero p t = tt
root_sound_of g b₂ height top r (suc n) p t = and_both (leb (r % g.words) height) (sound g.words b₂ top (r % g.words) (r / g.words) (suc n)) (le→leb (r % g.words) height p) t

module _ {g : Layout} (fit : Fits g) {b b₂ : List ℕ} (len : length b ≡ length b₂) {f h k o m : ℕ} {new : List ℕ} {extra gone : ℕ → ℕ} (w : Written g b b₂ f h k o m new extra gone) where
  written_byte : (i : ℕ) → i < m → root_byte g.words b₂ (root g b₂ f) m i ≡ splice o new (seen (size g b f - i) (root_byte g.words b (root g b f) (size g b f) i)) i
  written_byte i l =
      let n : ℕ = size g b f in
      elim (split (span g.words h) i) [
        | inl past ↦
            let none : seen (n - i) (root_byte g.words b (root g b f) n i) ≡ 0 = elim (split n i) [
              | inl z ↦ seen_dead (n - i) _ (omega arith)
              | inr z ↦ seen_live (n - i) _ (omega arith) ∙ root_byte_past g.words b (root g b f) n i (rw (← (w.old (omega arith)).0) past)
            ] in
            root_byte_past g.words b₂ (root g b₂ f) m i (rw w.height past) ∙ sym (ap (λ (x : ℕ). splice o new x i) none ∙ w.past i past l)
        | inr l' ↦
            let now : byte_at g.words b₂ (root_height g b₂ f) (root_block g b₂ f) m i ≡ splice o new (byte_at g.words b h k n i) i = rw w.height (w.change.bytes i l' l) in
            root_byte_in g.words b₂ (root g b₂ f) m i (rw w.height l') ∙ now ∙ ap (λ (x : ℕ). splice o new x i) (had_byte g fit b f h k i w.old l')
      ]

  pub written_commit : T (sound g.words b (block_count g b - 1) h k (size g b f)) → FileCommit g b b₂ f (spliced g b f o new m) extra gone
  unfolding file_sound file_blocks root_blocks
  written_commit t = record {
    sound = rw (w.now, ← (count_kept g b b₂ len)) (and_both (leb m (greatest g)) (root_sound g.words b₂ g.height (block_count g b - 1) (root g b₂ f) m) (le→leb m (greatest g) w.most)
        (root_sound_of g b₂ g.height (block_count g b - 1) (root g b₂ f) m (rw w.height w.low) (rw w.height (w.change.fine t))));
    reads = rw (contents_bytes g (words_pos g fit) b₂ f, w.now) (tabulate_cong m _ _ written_byte);
    counts = λ q. rw (w.height, w.now) (omega (arith, w.change.counts q, ap (occ q) (had_blocks g fit b f h k w.old)));
  }

module _ (g : Layout) (fit : Fits g) (b b₂ : List ℕ) (len : length b ≡ length b₂) (f : ℕ) where
  pos : 0 < g.words
  pos = words_pos g fit

  -- a file that is not touched
  pub kept_commit : size g b f ≡ size g b₂ f → (0 < size g b f → root g b f ≡ root g b₂ f) → agree g.words b b₂ (root_height g b f) (root_block g b f) (size g b f)
      → T (file_sound g b f) → FileCommit g b b₂ f (contents g b f) (λ q. 0) (λ q. 0)
  unfolding file_sound file_blocks
  kept_commit sizes roots tree t =
      let n : ℕ = size g b f in
      let e = root_blocks_law g.words pos b b₂ (root g b f) (root g b₂ f) n roots tree in
      record {
        sound = rw (← sizes, ← (count_kept g b b₂ len), ← (root_sound_law g.words pos b b₂ (root g b f) (root g b₂ f) n roots tree g.height (block_count g b - 1))) t;
        reads = rw (contents_bytes g pos b f, contents_bytes g pos b₂ f, ← sizes) (tabulate_cong n _ _ (λ i l. sym (root_byte_law g.words pos b b₂ (root g b f) (root g b₂ f) n roots tree i l)));
        counts = λ q. rw (← sizes, ← e) (omega arith);
      }

  -- a file whose tree is grown
  pub grown_commit : (h' : ℕ) (extra : ℕ → ℕ) → 0 < size g b f → size g b f ≡ size g b₂ f → root_height g b₂ f ≡ h' → h' ≤ g.height
      → Grown g.words b b₂ (block_count g b - 1) (root_height g b f) (root_block g b f) h' (root_block g b₂ f) (size g b f) extra
      → T (file_sound g b f) → FileCommit g b b₂ f (contents g b f) extra (λ q. 0)
  unfolding file_sound file_blocks root_blocks root_byte
  grown_commit h' extra live sizes height low w t =
      let n : ℕ = size g b f in
      let old = file_parts g b f t in
      record {
        sound = rw (← sizes, ← (count_kept g b b₂ len)) (and_both (leb n (greatest g)) (root_sound g.words b₂ g.height (block_count g b - 1) (root g b₂ f) n) (le→leb n (greatest g) old.0)
            (root_sound_of g b₂ g.height (block_count g b - 1) (root g b₂ f) n (rw height low)
            (rw height (w.fine (root_sound_parts g b g.height (block_count g b - 1) (root g b f) n live old.1).1))));
        reads = rw (contents_bytes g pos b f, contents_bytes g pos b₂ f, ← sizes) (tabulate_cong n _ _ (λ i l. rw height (w.bytes i)));
        counts = λ q. rw (← sizes, height) (omega (arith, w.counts q));
      }

-- ---- One file

-- all that is visible of the files other than f is the same
pub record Others (g : Layout) (b b₂ : List ℕ) (f : ℕ) : Type 0 where
  pub sizes : (i : ℕ) → i < files g → i ≢ f → size g b i ≡ size g b₂ i
  pub roots : (i : ℕ) → i < files g → i ≢ f → 0 < size g b i → root g b i ≡ root g b₂ i
  pub trees : (i : ℕ) → i < files g → i ≢ f → agree g.words b b₂ (root_height g b i) (root_block g b i) (size g b i)

-- on a board that shows the same as b
pub others_from : {g : Layout} → 0 < g.words → {b c b₂ : List ℕ} {f : ℕ} → Same g b c → Others g c b₂ f → Others g b b₂ f
others_from {g} pos {b} {c} {b₂} s o = record {
  sizes = λ i u d. s.sizes i u ∙ o.sizes i u d;
  roots = λ i u d live. s.roots i u live ∙ o.roots i u d (rw (← (s.sizes i u)) live);
  trees = λ i u d. elim (split (size g b i) 0) [
    | inl z ↦ agree_none g.words pos b b₂ (root_height g b i) (root_block g b i) (size g b i) (omega arith)
    | inr live ↦ agree_trans g.words pos b c b₂ (root_height g b i) (root_block g b i) (size g b i) (s.trees i u) (rw (s.roots i u live, s.sizes i u) (o.trees i u d))
  ];
}

-- file f alone is changed, and with it its leaf may move: `beside` and `within` count the extra blocks of the two
pub record OneFile (g : Layout) (b b₂ : List ℕ) (f : ℕ) (wanted : List ℕ) (beside lessBeside within lessWithin : ℕ → ℕ) : Type 0 where
  pub lengths : length b ≡ length b₂
  pub trailers : T (trailer_sound g b₂)
  pub inode : inode_block g b ≡ inode_block g b₂
  pub leaves : (l : ℕ) → l < g.leaves → T (leaf_sound g b₂ l)
  pub spares : (j : ℕ) → j < g.words - g.leaves → T (spare_sound g b₂ j)
  pub leaves_stay : (l : ℕ) → l < g.leaves → l ≢ f / g.inodes → leaf g b l ≡ leaf g b₂ l
  pub leaf_moved : Moved (leaf g b (f / g.inodes)) (leaf g b₂ (f / g.inodes)) beside lessBeside
  pub others : Others g b b₂ f
  pub file : FileCommit g b b₂ f wanted within lessWithin
  pub spare : (q : ℕ) → occ q (live_blocks g b) + beside q + within q ≤ 1

-- file i is on b₂ as it is on b: it reads the same, and the walk to each byte ends where it ended
pub record Kept (g : Layout) (b b₂ : List ℕ) (i : ℕ) : Type 0 where
  pub reads : contents g b₂ i ≡ contents g b i
  pub walks : (n : ℕ) → walk_to g b₂ i n ≡ walk_to g b i n

-- the board is accepted, the file reads as wanted, and the others are as before
pub record Outcome (g : Layout) (b b₂ : List ℕ) (f : ℕ) (wanted : List ℕ) : Type 0 where
  pub board : T (accepted g b₂)
  pub reads : contents g b₂ f ≡ wanted
  pub kept : (i : ℕ) → i < files g → i ≢ f → Kept g b b₂ i

module _ {g : Layout} {b b₂ : List ℕ} {f : ℕ} (on : FileOn g b f) {wanted : List ℕ} {beside lessBeside within lessWithin : ℕ → ℕ} (c : OneFile g b b₂ f wanted beside lessBeside within lessWithin) where
  open on use {fit, board, file}

  -- what file i reads
  reads_of : ℕ → List ℕ
  reads_of i = contents g b₂ i

  other : (i : ℕ) → i < files g → i ≢ f → FileCommit g b b₂ i (contents g b i) (λ q. 0) (λ q. 0)
  other i u d = kept_commit g fit b b₂ c.lengths i (c.others.sizes i u d) (c.others.roots i u d) (c.others.trees i u d) ((accepted_parts g b board).files_sound i u)

  other_walks : (i : ℕ) → i < files g → i ≢ f → (n : ℕ) → file_walk g b₂ i n ≡ file_walk g b i n
  unfolding file_walk
  other_walks i u d n = rw (← (c.others.sizes i u d))
      (sym (root_walk_law g.words (words_pos g fit) b b₂ (root g b i) (root g b₂ i) (size g b i) (c.others.roots i u d) (c.others.trees i u d) n))

  each : (i : ℕ) → i < files g → FileCommit g b b₂ i (reads_of i) (λ q. only i f (within q)) (λ q. only i f (lessWithin q))
  unfolding reads_of
  each i u = elim (decide i f) [
    | inl e ↦ rw e (record { sound = c.file.sound; reads = refl; counts = λ q. omega (arith, c.file.counts q, only_same f (within q), only_same f (lessWithin q)) })
    | inr d ↦ let o = other i u d in record { sound = o.sound; reads = refl; counts = λ q. omega (arith, o.counts q, only_other i f (within q) d, only_other i f (lessWithin q) d) }
  ]

  commit : Commit g b b₂ reads_of (λ q. 0) (λ q. 0) (λ l q. only l (f / g.inodes) (beside q)) (λ l q. only l (f / g.inodes) (lessBeside q)) (λ i q. only i f (within q)) (λ i q. only i f (lessWithin q))
  commit = record {
    lengths = c.lengths;
    trailers = c.trailers;
    inode = λ q. omega (arith, ap (one q) c.inode);
    leaves = c.leaves;
    spares = c.spares;
    leaves_moved = λ l u q. elim (decide l (f / g.inodes)) [
      | inl e ↦ rw e (omega (arith, c.leaf_moved q, only_same (f / g.inodes) (beside q), only_same (f / g.inodes) (lessBeside q)))
      | inr d ↦ omega (arith, ap (one q) (c.leaves_stay l u d), only_other l (f / g.inodes) (beside q) d, only_other l (f / g.inodes) (lessBeside q) d)
    ];
    all_files = each;
    spare = λ q. omega (arith, c.spare q, sum_only g.leaves (f / g.inodes) (beside q), sum_only (files g) f (within q));
  }

  pub one_file : Outcome g b b₂ f wanted
  one_file =
      let now : T (accepted g b₂) = commit_accepted g b b₂ commit board in
      let at : (e : List ℕ) → T (accepted g e) → (i : ℕ) → i < files g → FileOn g e i = λ e t i u. record { fit = fit; board = t; file = u } in
      record {
        board = now;
        reads = c.file.reads;
        kept = λ i u d. record {
          reads = (other i u d).reads;
          walks = λ n. walk_to_file (at b₂ now i u) n ∙ other_walks i u d n ∙ sym (walk_to_file (at b board i u) n);
        };
      }

  pub one_file_counts : (q : ℕ) → occ q (live_blocks g b₂) + lessBeside q + lessWithin q ≡ occ q (live_blocks g b) + beside q + within q
  one_file_counts q =
      let l_lt : f / g.inodes < g.leaves = leaf_of g fit f file in
      omega (
        arith,
        commit_counts g b b₂ commit q,
        sum_only_at g.leaves (f / g.inodes) (beside q) l_lt,
        sum_only_at g.leaves (f / g.inodes) (lessBeside q) l_lt,
        sum_only_at (files g) f (within q) file,
        sum_only_at (files g) f (lessWithin q) file,
      )
