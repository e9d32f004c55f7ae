-- A survey's ways out, and what its marks tell of the free blocks.
use Rattle.std.specs.Prelude.{Ok, Err}
use mathlib.Core.Path.{◌≡◌, refl, sym, ◌∙◌}
use mathlib.Core.Bool.{Bool, true, false, not, cond, ◌&&◌}
use mathlib.Core.List.{List}
use Prim.Native.Nat.{ℕ, ◌-◌, ◌*◌, ◌%◌, ◌≤◌, ◌<◌}
use native.Mathlib.Nat.{mul_comm, div-le_of_le-mul}
use native.Mathlib.Omega.{arith}
use lib.ListN.{length, replicate}
use lib.Dec.{T, leb, eqb}
use borrow.Author.Tests.{leb-true}
use Rattle.model.specs.declared.Fault.{Fault}
use Rattle.model.specs.declared.Fault.TheVariants.{WordCount, Trailer, Damaged}
use Rattle.model.specs.Lists.{every, pick_from, member, distinct}
use Rattle.model.specs.Layout.{Layout, files}
use Rattle.model.specs.Board.{block_count, live_blocks, free, word_count_sound, trailer_sound, inodes_sound, file_sound, trees_sound, accepted}
use Rattle.model.specs.Answers.{answered, Answer}
use Rattle.model.specs.Calls.{word_count_fault, board_faults, check_answer}
use Rattle.model.proofs.Cases.{is_true, and_left, and_right, true_left, true_right}
use Rattle.model.proofs.Refusals.{not_refused, check_accepts}
use Rattle.model.proofs.Live.{below, inode_below, live_below}
use Rattle.trees.specs.Marks.{unmarked, marked, Marked}
use Rattle.surveying.specs.Survey.{pointers_sound, spare, Surveyed}
use Rattle.surveying.proofs.Reached.{unmarked_zeros, spare_live, below_more, pick_same}

and_same : (x y z : Bool) → (x ≡ true → y ≡ z) → (x && y) ≡ (x && z)
and_same true y z f = f refl
and_same false y z f = refl

module _ (g : Layout) (pos : 0 < g.words) (few : g.most ≤ 1024) (b : List ℕ) where
  -- every pointer but the inode root
  abbrev others : Bool
  others = inodes_sound g b && every (files g) (file_sound g b)

  pub short : word_count_sound g b ≡ true → block_count g b - 1 ≤ 1024
  unfolding word_count_sound block_count
  short e =
      let lo : Bool = leb (16 * g.words) (length b) in
      let hi : Bool = leb (length b) (g.most * g.words) in
      let u = leb-true (length b) (g.most * g.words) (true_right lo hi (true_left (lo && hi) (eqb (length b % g.words) 0) e)) in
      omega (arith, div-le_of_le-mul g.words {m = length b} {n = g.most} (omega (arith, mul_comm g.words g.most)))

  module _ (w : word_count_sound g b ≡ true) (t : trailer_sound g b ≡ true) where
    within : others ≡ true → below 1024 (live_blocks g b) ≡ true
    within s = below_more (block_count g b - 1) 1024 (live_blocks g b) (short w) (live_below g b pos t s)

    -- what the marks find is what the definition asks
    accept : (pointers_sound g b && unmarked (replicate 1024 0) (live_blocks g b)) ≡ trees_sound g b
    unfolding trees_sound
    accept = rw (inode_below g b t)
        (and_same others (unmarked (replicate 1024 0) (live_blocks g b)) (distinct (live_blocks g b)) (λ s. unmarked_zeros 1024 (live_blocks g b) (within s)))

    found : {ok : Bool} {m m' : List ℕ} → m ≡ replicate 1024 0 → Marked (pointers_sound g b) (live_blocks g b) m ok m' → ok ≡ trees_sound g b
    found pre c = rw pre at c.answer ∙ accept

    free_marks : trees_sound g b ≡ true → pick_from 1 (block_count g b - 2) (spare (marked (replicate 1024 0) (live_blocks g b))) ≡ free g b
    unfolding trees_sound free
    free_marks e =
        pick_same 1 (block_count g b - 2) (spare (marked (replicate 1024 0) (live_blocks g b))) (λ k. not (member k (live_blocks g b)))
        (λ k. spare_live 1024 (live_blocks g b) k (within (true_left others (distinct (live_blocks g b)) e)))

-- the answer is the first fault's
answer_shape : (g : Layout) (b : List ℕ) → check_answer g b
    ≡ cond (not (word_count_sound g b)) (Err WordCount) (cond (not (trailer_sound g b)) (Err Trailer) (cond (not (trees_sound g b)) (Err Damaged) (Ok 0)))
unfolding check_answer board_faults word_count_fault answered
answer_shape g b = refl

refused : {g : Layout} {b m : List ℕ} {f : Fault} → Err f ≡ check_answer g b → Surveyed g b (Err f) m
refused q = record { answer = q; marks = λ v z. absurd (not_refused z refl) }

module _ {g : Layout} {b m : List ℕ} where
  pub miscounted : {w : Bool} → w ≡ word_count_sound g b → w ≡ false → Surveyed g b (Err WordCount) m
  miscounted e z = refused (sym (answer_shape g b ∙ rw (← e, z)))

  module _ {w : Bool} (ew : w ≡ word_count_sound g b) (zw : w ≡ true) where
    pub mistrailed : {t : Bool} → t ≡ trailer_sound g b → t ≡ false → Surveyed g b (Err Trailer) m
    mistrailed e z = refused (sym (answer_shape g b ∙ rw (← ew, zw, ← e, z)))

    module _ (pos : 0 < g.words) (few : g.most ≤ 1024) {t ok : Bool} {m₀ : List ℕ} (et : t ≡ trailer_sound g b) (zt : t ≡ true) (pre : m₀ ≡ replicate 1024 0)
        (c : Marked (pointers_sound g b) (live_blocks g b) m₀ ok m) where
      pub damaged : ok ≡ false → Surveyed g b (Err Damaged) m
      damaged z = refused (sym (answer_shape g b ∙ rw (← ew, zw, ← et, zt, ← found g pos few b (sym ew ∙ zw) (sym et ∙ zt) pre c, z)))

      pub surveyed : ok ≡ true → Surveyed g b (Ok 0) m
      surveyed z = record { answer = sym (answer_shape g b ∙ rw (← ew, zw, ← et, zt, ← found g pos few b (sym ew ∙ zw) (sym et ∙ zt) pre c, z)); marks = λ v _. rw pre at (c.left z) }

-- an accepted board
pub record Sound (g : Layout) (b : List ℕ) : Type 0 where
  pub words : word_count_sound g b ≡ true
  pub trailer : trailer_sound g b ≡ true
  pub trees : trees_sound g b ≡ true

pub sound : (g : Layout) (b : List ℕ) (v : ℕ) → check_answer g b ≡ Ok v → Sound g b
unfolding accepted
sound g b v e =
    let w : Bool = word_count_sound g b in
    let l : Bool = trailer_sound g b in
    let s : Bool = trees_sound g b in
    let t : T (w && l && s) = check_accepts g b e in
    record { words = is_true w (and_left w l (and_left (w && l) s t)); trailer = is_true l (and_right w l (and_left (w && l) s t)); trees = is_true s (and_right (w && l) s t) }

-- the free blocks are those that the marks have free
pub free_spare : {g : Layout} (pos : 0 < g.words) (few : g.most ≤ 1024) {b m : List ℕ} {r : Answer} (v : ℕ) → Surveyed g b r m → r ≡ Ok v → pick_from 1 (block_count g b - 2) (spare m) ≡ free g b
free_spare {g} pos few {b} v s z =
    let k = sound g b v (sym s.answer ∙ z) in
    rw (s.marks v z) (free_marks g pos few b k.words k.trailer k.trees)
