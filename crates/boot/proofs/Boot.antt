-- Block 0, the boot block: what it holds decides no answer, no walk, no plan and no slice.
use Rattle.std.specs.Prelude.{Err}
use mathlib.Core.Path.{◌≡◌, refl, sym, subst, ◌∙◌}
use mathlib.Core.Bool.{Bool, true, false, not, ◌&&◌, ◌||◌}
use mathlib.Core.List.{List, [], ◌∷◌, ◌++◌, append-nil, append_assoc}
use Prim.Native.Nat.{ℕ, suc, ◌+◌, ◌-◌, ◌*◌, ◌/◌, ◌%◌, ◌<◌, min}
use native.Mathlib.Omega.{arith}
use lib.ListN.{length, get_or, take, drop}
use lib.Dec.{leb, ltb, eqb, T}
use borrow.Author.Tests.{leb-false, not-false}
use Rattle.model.specs.declared.Fault.{Fault}
use Rattle.model.specs.declared.Fault.TheVariants.{WordCount, Trailer, Damaged, FileNumber, End, FreeBlocks, PairCount, PlanLength, Address}
use Rattle.model.specs.Lists.{tabulate, every, all, pick_from, member, distinct}
use Rattle.model.specs.Layout.{Layout, Fits, files}
use Rattle.model.specs.Board.{trailer_word, greatest, block_count, inode_block, leaf, size, contents, file_blocks, live_blocks, free, in_range, word_count_sound, trailer_sound, leaf_sound, spare_sound, inodes_sound, file_sound, trees_sound, accepted}
use Rattle.model.specs.Store.{Store, store, is_barrier, paired, laid}
use Rattle.model.specs.Plan.{Plan, plan, step, pairs}
use Rattle.model.specs.Fresh.{stored}
use Rattle.model.specs.Change.{write_plan, length_plan}
use Rattle.model.specs.Format.{format_pages, trailer_address, trailer_stores, format_plan}
use Rattle.model.specs.Answers.{Faults, answered, unless_refused}
use Rattle.model.specs.Calls.{word_count_fault, board_faults, file_faults, check_answer, free_count_answer, size_answer, read_count, read_answer, read_buffer, planned, lowest, write_faults, write_from, write, set_length, format, perform_faults, perform_answer}
use Rattle.model.specs.Cut.{Change, writing, length_to, called_from, called}
use Rattle.model.specs.Claims.{SameCalls, BootRule}
use Rattle.model.proofs.Cases.{true_left, every_cong, joined_cong}
use Rattle.model.proofs.Shown.{words_pos, leaf_of, words_kept}
use Rattle.model.proofs.Accepting.{Ranged, inode_range, leaves_range, facts, counted}
use Rattle.boot.proofs.Alike.{Alike, dropped_alike, Found, count_alike, trailer_alike, inode_alike, pointer_alike, leaf_alike, size_alike, walk_to_alike, file_blocks_alike, file_sound_alike, contents_alike}
use Rattle.boot.proofs.BootPlans.{length_plan_alike, write_plan_alike}

-- the second tests need agree only where the first hold
and_alike : (s s' r r' : Bool) → s ≡ s' → (s ≡ true → r ≡ r') → (s && r) ≡ (s' && r')
and_alike true s' r r' e f = λ t. e t && f refl t
and_alike false s' r r' e f = rw (← e)

-- ---- Lists of faults

-- they end in refusal x, whatever is asked after them
abbrev Turns : Fault → Faults → Type 0
Turns x fs = (more : Faults) (n : ℕ) → answered (fs ++ more) n ≡ Err x

planned_turned : (x : Fault) (fs more : Faults) (ss : List Store) (slice : List ℕ) → Turns x fs → planned (fs ++ more) ss slice ≡ record { answer = Err x; slice = slice }
unfolding planned unless_refused
planned_turned x fs more ss slice p =
    let last : Faults = (PlanLength, ltb (length slice) (2 * length ss)) ∷ [] in
    let e : answered ((fs ++ more) ++ last) (length ss) ≡ Err x = rw (append_assoc fs more last) (p (more ++ last) (length ss)) in
    λ t. record { answer = e t; slice = unless_refused (e t) (laid slice 0 ss) slice }

-- the lists of two boards: the same refusal for both, or they are equal and P holds
data Verdict (fs fs' : Faults) (P : Type 0) : Type 0 where
  turned : (x : Fault) → Turns x fs → Turns x fs' → Verdict fs fs' P
  passed : fs ≡ fs' → P → Verdict fs fs' P

module _ {P : Type 0} where
  asked : (x : Fault) (t t' : Bool) (fs fs' : Faults) → t ≡ t' → (t ≡ false → Verdict fs fs' P) → Verdict ((x, t) ∷ fs) ((x, t') ∷ fs') P
  unfolding answered
  asked x t t' fs fs' e rest = subst (λ (u : Bool). Verdict ((x, t) ∷ fs) ((x, u) ∷ fs') P) e (by t rest)
    where
      by : (t : Bool) → (t ≡ false → Verdict fs fs' P) → Verdict ((x, t) ∷ fs) ((x, t) ∷ fs') P
      by true rest = turned x (λ more n. refl) (λ more n. refl)
      by false rest = elim (rest refl) [
        | turned y p q ↦ turned y p q
        | passed e p ↦ passed (λ t. (x, false) ∷ e t) p
      ]

  answers_alike : (fs fs' : Faults) → Verdict fs fs' P → (n n' : ℕ) → (P → n ≡ n') → answered fs n ≡ answered fs' n'
  answers_alike fs fs' (turned x p q) n n' e = (rw append-nil at (p [] n)) ∙ sym (rw append-nil at (q [] n'))
  answers_alike fs fs' (passed z p) n n' e = λ t. answered (z t) (e p t)

  -- what a call leaves
  left_alike : {A : Type 0} (fs fs' : Faults) → Verdict fs fs' P → (n n' : ℕ) (a a' z : A) → (P → n ≡ n') → (P → a ≡ a')
      → unless_refused (answered fs n) a z ≡ unless_refused (answered fs' n') a' z
  unfolding unless_refused
  left_alike fs fs' (turned x p q) n n' a a' z e d = rw (rw append-nil at (p [] n), rw append-nil at (q [] n'))
  left_alike fs fs' (passed y p) n n' a a' z e d = λ t. unless_refused (answered (y t) (e p t)) (d p t) z

  planned_alike : (fs fs' : Faults) → Verdict fs fs' P → (more more' : Faults) (ss ss' : List Store) (slice : List ℕ) → (P → more ≡ more') → (P → ss ≡ ss')
      → planned (fs ++ more) ss slice ≡ planned (fs' ++ more') ss' slice
  planned_alike fs fs' (turned x p q) more more' ss ss' slice e d = planned_turned x fs more ss slice p ∙ sym (planned_turned x fs' more' ss' slice q)
  planned_alike fs fs' (passed z p) more more' ss ss' slice e d = λ t. planned (z t ++ e p t) (d p t) slice

-- ---- Boards

-- a board on which every file's inode is found
record Rooted (g : Layout) (b : List ℕ) : Type 0 where
  trailer_there : 0 < block_count g b - 1
  inode_there : 0 < inode_block g b
  leaves_there : (l : ℕ) → l < g.leaves → Ranged g b (leaf g b l)

module _ (g : Layout) (fit : Fits g) (b : List ℕ) where
  trailer_off : word_count_sound g b ≡ true → 0 < block_count g b - 1
  trailer_off e = omega (arith, (counted g fit b (rw e tt)).blocks_least)

  rooted : T (accepted g b) → Rooted g b
  rooted t = let ok = facts g fit b t in record { trailer_there = omega (arith, ok.sizes.blocks_least); inode_there = ok.pointers.inode.0; leaves_there = ok.pointers.leaf_in_law }

  file_found : Rooted g b → (f : ℕ) → f < files g → Found g b f
  file_found r f l = record { trailer_there = r.trailer_there; inode_there = r.inode_there; leaf_there = (r.leaves_there (f / g.inodes) (leaf_of g fit f l)).0 }

-- ---- Two boards

module _ (g : Layout) (fit : Fits g) {b b' : List ℕ} (same : Alike g.words b b') where
  word_count_alike : word_count_sound g b ≡ word_count_sound g b'
  word_count_alike = words_kept g b b' same.lengths

  range_alike : (k k' : ℕ) → k ≡ k' → in_range g b k ≡ in_range g b' k'
  unfolding in_range
  range_alike k k' e = λ t. ltb 0 (e t) && ltb (e t) (count_alike g same t - 1)

  trailer_sound_alike : 0 < block_count g b - 1 → trailer_sound g b ≡ trailer_sound g b'
  unfolding trailer_sound
  trailer_sound_alike there = λ t. eqb (trailer_alike g same there 0 t % g.words) 1 && range_alike (inode_block g b) (inode_block g b') (inode_alike g same there) t
      && every (g.words - 1) (λ j. eqb (trailer_alike g same there (suc j) t) (trailer_word g (count_alike g same t) (suc j)))

  leaf_sound_alike : 0 < block_count g b - 1 → 0 < inode_block g b → (l : ℕ) → leaf_sound g b l ≡ leaf_sound g b' l
  unfolding leaf_sound
  leaf_sound_alike there inode l =
      λ t. eqb (pointer_alike g same there inode l t % g.words) 0 && range_alike (leaf g b l) (leaf g b' l) (leaf_alike g same there inode l) t

  inodes_sound_alike : 0 < block_count g b - 1 → 0 < inode_block g b → inodes_sound g b ≡ inodes_sound g b'
  unfolding inodes_sound spare_sound
  inodes_sound_alike there inode =
      λ t. every g.leaves (λ j. leaf_sound_alike there inode j t) && every (g.words - g.leaves) (λ j. eqb (pointer_alike g same there inode (g.leaves + j) t) 0)

  live_alike : Rooted g b → live_blocks g b ≡ live_blocks g b'
  unfolding live_blocks
  live_alike r = λ t. inode_alike g same r.trailer_there t ∷ (tabulate g.leaves (λ l. leaf_alike g same r.trailer_there r.inode_there l t)
      ++ joined_cong (files g) (file_blocks g b) (file_blocks g b') (λ f l. file_blocks_alike g same (file_found g fit b r f l)) t)

  trees_sound_alike : 0 < block_count g b - 1 → 0 < inode_block g b → trees_sound g b ≡ trees_sound g b'
  unfolding trees_sound
  trees_sound_alike there inode =
      let l : Bool = inodes_sound g b in
      let l' : Bool = inodes_sound g b' in
      let f : Bool = every (files g) (file_sound g b) in
      let f' : Bool = every (files g) (file_sound g b') in
      let found-by : l ≡ true → Rooted g b = λ e. record { trailer_there = there; inode_there = inode; leaves_there = leaves_range g b e } in
      and_alike (l && f) (l' && f') (distinct (live_blocks g b)) (distinct (live_blocks g b'))
      (and_alike l l' f f' (inodes_sound_alike there inode)
      (λ e. every_cong (files g) (file_sound g b) (file_sound g b') (λ j u. file_sound_alike g same (file_found g fit b (found-by e) j u))))
      (λ e t. distinct (live_alike (found-by (true_left l f e)) t))

  -- both are refused for the same fault, or b is accepted
  board_verdict : (P : Type 0) (more : Faults) → (T (accepted g b) → Verdict more more P) → Verdict (board_faults g b ++ more) (board_faults g b' ++ more) P
  unfolding board_faults word_count_fault accepted
  board_verdict P more rest =
      let trailers : Bool → Fault × Bool = λ s. (Trailer, not s) in
      let trees : Bool → Fault × Bool = λ s. (Damaged, not s) in
      asked WordCount (not (word_count_sound g b)) (not (word_count_sound g b'))
      (trailers (trailer_sound g b) ∷ trees (trees_sound g b) ∷ more) (trailers (trailer_sound g b') ∷ trees (trees_sound g b') ∷ more)
      (λ t. not (word_count_alike t)) (λ c.
      let there : 0 < block_count g b - 1 = trailer_off g fit b (not-false (word_count_sound g b) c) in
      asked Trailer (not (trailer_sound g b)) (not (trailer_sound g b')) (trees (trees_sound g b) ∷ more) (trees (trees_sound g b') ∷ more)
      (λ t. not (trailer_sound_alike there t)) (λ r.
      let inode : 0 < inode_block g b = (inode_range g b (rw (not-false (trailer_sound g b) r) tt)).0 in
      asked Damaged (not (trees_sound g b)) (not (trees_sound g b')) more more
      (λ t. not (trees_sound_alike there inode t)) (λ d. rest (rw (not-false (word_count_sound g b) c, not-false (trailer_sound g b) r, not-false (trees_sound g b) d) tt))))

  boards : Verdict (board_faults g b) (board_faults g b') (T (accepted g b))
  unfolding board_faults word_count_fault
  boards = board_verdict (T (accepted g b)) [] (λ w. passed refl w)

  file_verdict : (f : ℕ) → Verdict (file_faults g b f) (file_faults g b' f) (T (accepted g b) × f < files g)
  unfolding file_faults
  file_verdict f = board_verdict (T (accepted g b) × f < files g) ((FileNumber, leb (files g) f) ∷ [])
      (λ w. asked FileNumber (leb (files g) f) (leb (files g) f) [] [] refl (λ e. passed refl (w, leb-false (files g) f e)))

  free_alike : T (accepted g b) → free g b ≡ free g b'
  unfolding free
  free_alike w = λ t. pick_from 1 (count_alike g same t - 2) (λ k. not (member k (live_alike (rooted g fit b w) t)))

  -- ---- Calls

  module _ (f : ℕ) where
    found : T (accepted g b) × f < files g → Found g b f
    found p = file_found g fit b (rooted g fit b p.0) f p.1

    sizes_alike : T (accepted g b) × f < files g → size g b f ≡ size g b' f
    sizes_alike p = size_alike g same (found p)

    reads_alike : (o : ℕ) (out : List ℕ) → (read_answer g b f o out ≡ read_answer g b' f o out) × (read_buffer g b f o out ≡ read_buffer g b' f o out)
    unfolding read_answer read_buffer read_count
    reads_alike o out =
        let n : ℕ = read_count g b f o out in
        let n' : ℕ = read_count g b' f o out in
        let counts : T (accepted g b) × f < files g → n ≡ n' = λ p t. min (length out) (sizes_alike p t - o) in (
          answers_alike (file_faults g b f) (file_faults g b' f) (file_verdict f) n n' counts,
          left_alike (file_faults g b f) (file_faults g b' f) (file_verdict f) n n'
              (take n (drop o (contents g b f)) ++ drop n out) (take n' (drop o (contents g b' f)) ++ drop n' out) out counts
              (λ p t. take (counts p t) (drop o (contents_alike g same (found p) t)) ++ drop (counts p t) out),
        )

    write_plans : T (accepted g b) × f < files g → (o : ℕ) (new : List ℕ) → write_plan g (lowest g b) b f o new ≡ write_plan g (lowest g b') b' f o new
    unfolding lowest
    write_plans p o new =
        write_plan_alike g (words_pos g fit) same (lowest g b) f (found p) o new ∙ (λ t. write_plan g (λ i. get_or (free_alike p.0 t) i 0) b' f o new)

    write_alike : (o : ℕ) (new slice : List ℕ) → write g b f o new slice ≡ write g b' f o new slice
    unfolding write write_from write_faults
    write_alike o new slice =
        let faults : ℕ → Plan → Faults = λ room p. (End, ltb (greatest g) (o + length new)) ∷ (FreeBlocks, ltb room p.taken) ∷ [] in
        let p : Plan = write_plan g (lowest g b) b f o new in
        let p' : Plan = write_plan g (lowest g b') b' f o new in
        planned_alike (file_faults g b f) (file_faults g b' f) (file_verdict f)
        (faults (length (free g b)) p) (faults (length (free g b')) p') (pairs p) (pairs p') slice
        (λ q t. faults (length (free_alike q.0 t)) (write_plans q o new t)) (λ q t. pairs (write_plans q o new t))

    set_length_alike : (n : ℕ) (slice : List ℕ) → set_length g b f n slice ≡ set_length g b' f n slice
    unfolding set_length
    set_length_alike n slice =
        planned_alike (file_faults g b f) (file_faults g b' f) (file_verdict f) ((End, ltb (greatest g) n) ∷ []) ((End, ltb (greatest g) n) ∷ [])
        (pairs (length_plan g b f n)) (pairs (length_plan g b' f n)) slice (λ q. refl) (λ q t. pairs (length_plan_alike g same (found q) n t))

  changes_alike : (c : Change) (slice : List ℕ) → called g b c slice ≡ called g b' c slice
  unfolding called called_from write
  changes_alike (writing f o new) slice = write_alike f o new.values slice
  changes_alike (length_to f n) slice = set_length_alike f n slice

  format_plan_alike : format_plan g b ≡ format_plan g b'
  unfolding format_plan trailer_stores trailer_address
  format_plan_alike = λ t.
      let last : ℕ = g.words * (count_alike g same t - 1) in
      let trailers : List Store = tabulate (g.words - 1) (λ j. store (last + suc j) (trailer_word g (count_alike g same t) (suc j))) in
      plan (step [] (last + 0) 0 ∷ step (stored g.words (λ c. c) (format_pages g) 1 ++ trailers) (last + 0) (g.words + 1) ∷ []) 0

  same_calls : SameCalls g b b'
  unfolding check_answer free_count_answer size_answer format perform_answer perform_faults word_count_fault
  same_calls = record {
    checks = answers_alike (board_faults g b) (board_faults g b') boards 0 0 (λ w. refl);
    counts = answers_alike (board_faults g b) (board_faults g b') boards (length (free g b)) (length (free g b')) (λ w t. length (free_alike w t));
    sizes = λ f. answers_alike (file_faults g b f) (file_faults g b' f) (file_verdict f) (size g b f) (size g b' f) (sizes_alike f);
    reads = reads_alike;
    walks = walk_to_alike g same;
    changes = changes_alike;
    formats = λ slice t. planned ((WordCount, not (word_count_alike t)) ∷ []) (pairs (format_plan_alike t)) slice;
    performs = λ slice k t. answered ((WordCount, not (word_count_alike t)) ∷ (PairCount, ltb (length slice) (2 * k))
        ∷ (Address, not (all (λ s. ltb s.at (same.lengths t) || is_barrier s) (take k (paired slice)))) ∷ []) k;
  }

pub boot_rule : BootRule
boot_rule g fit b b' l e = same_calls g fit (dropped_alike g.words b b' l e)
