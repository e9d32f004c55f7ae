-- The claims: what walks visit in a file, which stretches are counted, and how many blocks a read or a write visits at most.
use Rattle.std.specs.Prelude.{Ok, Err, Some, None}
use mathlib.Core.Path.{◌≡◌, sym, ◌∙◌}
use mathlib.Core.Logic.{inl, inr}
use mathlib.Core.Bool.{Bool, true, false, cond}
use mathlib.Core.List.{List, map}
use Prim.Native.Nat.{ℕ, zero, suc, ◌+◌, ◌-◌, ◌*◌, ◌/◌, ◌%◌, ◌≤◌, ◌<◌}
use native.Mathlib.Omega.{arith}
use native.Mathlib.Nat.{zero-add, mul-le-mul_right, mul-div_cancel, le-div_iff_mul-le, div-mul-le_self, lt-div-mul-add}
use lib.ListN.{length, length-map}
use lib.Dec.{ltb}
use borrow.Author.Tests.{lt-ltb, le-ltb}
use Rattle.model.specs.Lists.{sum, filter, occ}
use Rattle.model.specs.Layout.{Layout, files, house}
use Rattle.model.specs.Tree.{span, walk, visits}
use Rattle.model.specs.Board.{root_walk, root_visits, root_blocks, root, root_height, root_block, size, file_walk, file_visits, visits_to, file_blocks}
use Rattle.model.specs.Answers.{unless_refused, Answer}
use Rattle.model.specs.Plan.{Plan, pairs}
use Rattle.model.specs.Change.{write_plan}
use Rattle.model.specs.Calls.{file_faults, stretch_count, root_visited, read_count, read_answer, visited, read_visited, lowest, write_faults, write_from, write, write_visited}
use Rattle.model.proofs.Cases.{split}
use Rattle.model.proofs.Sums.{sum_cong}
use Rattle.model.proofs.Counting.{member_occ}
use Rattle.model.proofs.Perform.{All}
use Rattle.model.proofs.Addresses.{all_left}
use Rattle.model.proofs.Epochs.{Passed, found, planned_either}
use Rattle.model.proofs.Descent.{hole≢block}
use Rattle.model.proofs.Shown.{words_pos}
use Rattle.model.proofs.Accepting.{FileOn, facts}
use Rattle.model.proofs.Linked.{linked_root, linked_size, walk_to_file}
use Rattle.model.proofs.WalkEnds.{file_once}
use Rattle.model.proofs.Rules.{file_passed, file_accepts}
use Rattle.model.proofs.Formatted.{house_fits}
use Rattle.visits.specs.Placed.{over, placed, file_placed}
use Rattle.visits.specs.Claims.{blocks_over, Visiting, VisitsRule, StretchRule, MostRule, HouseMostRule}
use Rattle.visits.proofs.Levels.{visits_dead, visits_most, visits_arrives, visits_misses, root_most, root_visits_most}
use Rattle.visits.proofs.Same.{root_visits_same}
use Rattle.visits.proofs.Paths.{distinct_kept, placed_blocks, none_over, path_counts, end_over}

-- ---- A file by its root word and its size

module _ (W : ℕ) (b : List ℕ) (r n i : ℕ) where
  root_arrives : (q : ℕ) → root_walk W b r n i ≡ Some q → root_visits W b r n i ≡ suc (r % W)
  unfolding root_walk root_visits
  root_arrives q e = by (ltb i (span W (r % W))) e
    where
      by : (t : Bool) → cond t (walk W b (r % W) (r / W) n i) None ≡ Some q → cond t (visits W b (r % W) (r / W) n i) 0 ≡ suc (r % W)
      by true e = visits_arrives W b (r % W) (r / W) n i q e
      by false e = absurd (hole≢block q e)

  root_misses : root_walk W b r n i ≡ None → root_visits W b r n i ≤ r % W
  unfolding root_walk root_visits
  root_misses e = by (ltb i (span W (r % W))) e
    where
      by : (t : Bool) → cond t (walk W b (r % W) (r / W) n i) None ≡ None → cond t (visits W b (r % W) (r / W) n i) 0 ≤ r % W
      by true e = visits_misses W b (r % W) (r / W) n i e
      by false e = omega arith

  root_over : 0 < W → (q : ℕ) → root_walk W b r n i ≡ Some q → 0 < occ q (map (λ p. p.block) (filter (over i) (placed W b (r % W) (r / W) n 0)))
  unfolding root_walk
  root_over pos q e = elim (split (span W (r % W)) i) [
    | inl past ↦ absurd (hole≢block q (rw (le-ltb i (span W (r % W)) past) at e))
    | inr l ↦ rw zero-add at (end_over W b pos (r % W) (r / W) n 0 i q l (rw (lt-ltb i (span W (r % W)) l) at e))
  ]

  root_counts : 0 < W → root_visits W b r n i ≡ length (filter (over i) (placed W b (r % W) (r / W) n 0))
  unfolding root_visits
  root_counts pos = elim (split (span W (r % W)) i) [
    | inl past ↦ rw (le-ltb i (span W (r % W)) past) (sym (none_over W b (r % W) (r / W) n 0 i (inr (omega arith))))
    | inr l ↦ rw (lt-ltb i (span W (r % W)) l) (rw zero-add at (path_counts W b pos (r % W) (r / W) n 0 i l))
  ]

-- ---- A file of an accepted board

module _ {g : Layout} {b : List ℕ} {f : ℕ} (on : FileOn g b f) where
  visits_to_file : (i : ℕ) → visits_to g b f i ≡ file_visits g b f i
  unfolding visits_to file_visits
  visits_to_file i = λ t. cond (lt-ltb f (files g) on.file t) (root_visits g.words b (linked_root on t) (linked_size on t) i) 0

  file_lives : map (λ p. p.block) (file_placed g b f) ≡ file_blocks g b f
  unfolding file_placed file_blocks root_blocks
  file_lives = placed_blocks g.words b (root_height g b f) (root_block g b f) (size g b f) 0

  -- one block on each level that the board's files may have
  file_most : (i : ℕ) → file_visits g b f i ≤ suc g.height
  unfolding file_visits
  file_most i = root_most g.words b (root g b f) (size g b f) i (suc g.height) (elim (split (size g b f) 0) [
    | inl z ↦ let e : size g b f ≡ 0 = omega arith in rw (e, visits_dead) (omega arith)
    | inr live ↦
        let low : root_height g b f ≤ g.height = (facts g on.fit b on.board).low f on.file live in
        omega (arith, visits_most g.words b (root_height g b f) (root_block g b f) (size g b f) i)
  ])

  file_counts : (i : ℕ) → file_visits g b f i ≡ length (blocks_over g b f i)
  unfolding file_visits file_placed
  file_counts i = rw length-map (root_counts g.words b (root g b f) (size g b f) i (words_pos g on.fit))

  visiting : Visiting g b f
  unfolding file_walk file_visits file_placed file_blocks root_blocks visited root_visited span
  visiting =
      let W : ℕ = g.words in
      let r : ℕ = root g b f in
      let n : ℕ = size g b f in
      record {
        same = visits_to_file;
        lives = file_lives;
        counts = λ i. visits_to_file i ∙ file_counts i;
        once = λ i. distinct_kept (over i) (λ p. p.block) (file_placed g b f) (λ q. rw file_lives (file_once on q));
        arrives = λ i k e. let w = sym (walk_to_file on i) ∙ e in
            (visits_to_file i ∙ root_arrives W b r n i k w, (member_occ k (blocks_over g b f i)).1 (root_over W b r n i (words_pos g on.fit) k w));
        misses = λ i e. rw visits_to_file (root_misses W b r n i (sym (walk_to_file on i) ∙ e));
        most = λ i. rw visits_to_file (root_visits_most W b r n i);
        tallest = λ i. rw visits_to_file (file_most i);
        alike = λ i j e. visits_to_file i ∙ root_visits_same W (words_pos g on.fit) b r n i j e ∙ sym (visits_to_file j);
        adds = λ o l. sum_cong (stretch_count (8 * W) o l) _ _ (λ q u. file_counts ((o / (8 * W) + q) * (8 * W)));
      }

pub visits_rule : VisitsRule
visits_rule g fit b t f l = visiting (record { fit = fit; board = t; file = l })

-- ---- Stretches

pub stretch_rule : StretchRule
unfolding stretch_count
stretch_rule m o zero q pos = (λ i. absurd (omega arith), λ l. absurd (omega arith))
stretch_rule m o (suc l) q pos = (to, from)
  where
    to : ((i : ℕ) × (o ≤ i) × (i < o + suc l) × (i / m ≡ q)) → (o / m ≤ q) × (q < o / m + suc ((o + l) / m - o / m))
    to (i, low, high, e) =
        let first : o / m ≤ i / m = (le-div_iff_mul-le pos).1 (omega (arith, div-mul-le_self o m)) in
        let last : i / m ≤ (o + l) / m = (le-div_iff_mul-le pos).1 (omega (arith, div-mul-le_self i m)) in
        (omega arith, omega arith)

    from : (o / m ≤ q) × (q < o / m + suc ((o + l) / m - o / m)) → (i : ℕ) × (o ≤ i) × (i < o + suc l) × (i / m ≡ q)
    from (low, high) = elim (split q (o / m)) [
      | inl u ↦ (o, omega arith, omega arith, omega arith)
      | inr u ↦
          let last : q * m ≤ o + l = (le-div_iff_mul-le pos).0 (omega arith) in
          (q * m, omega (arith, lt-div-mul-add {a = o} pos, mul-le-mul_right m u), omega arith, mul-div_cancel q pos)
    ]

-- at most how many have one of l bytes, wherever these begin
house_stretches : (o l : ℕ) → stretch_count 64 o l ≤ (l + 62) / 64 + 1
unfolding stretch_count
house_stretches o zero = omega arith
house_stretches o (suc l) = omega arith

-- ---- The most visits

sum_most : (c m : ℕ) (f : ℕ → ℕ) → ((j : ℕ) → f j ≤ c) → sum m f ≤ c * m
unfolding sum
sum_most c zero f l = omega arith
sum_most c (suc m) f l = omega (arith, sum_most c m f l, l m)

unless_most : (r : Answer) (a c : ℕ) → a ≤ c → unless_refused r a 0 ≤ c
unfolding unless_refused
unless_most (Ok n) a c l = l
unless_most (Err x) a c l = omega arith

-- where each walk visits at most c blocks once no fault of the file is found
module _ (g : Layout) (b : List ℕ) (f o c : ℕ) (each : All Passed (file_faults g b f) → (i : ℕ) → file_visits g b f i ≤ c) where
  visited_most : All Passed (file_faults g b f) → (l : ℕ) → visited g b f o l ≤ c * stretch_count (span g.words 0) o l
  unfolding visited root_visited file_visits
  visited_most h l = let m : ℕ = span g.words 0 in sum_most c (stretch_count m o l) (λ q. file_visits g b f ((o / m + q) * m)) (λ q. each h ((o / m + q) * m))

  read_most : (out : List ℕ) → read_visited g b f o out ≤ c * stretch_count (span g.words 0) o (read_count g b f o out)
  unfolding read_visited read_answer unless_refused
  read_most out = let n : ℕ = read_count g b f o out in elim (found (file_faults g b f) n) [
    | inl h ↦ unless_most (read_answer g b f o out) (visited g b f o n) _ (visited_most h n)
    | inr r ↦ rw r.1 (omega arith)
  ]

  write_most : (new slice : List ℕ) → write_visited g b f o new slice ≤ c * stretch_count (span g.words 0) o (length new)
  unfolding write_visited write write_from write_faults unless_refused
  write_most new slice =
      let p : Plan = write_plan g (lowest g b) b f o new in
      elim (planned_either (write_faults g b f o new p) (pairs p) slice) [
        | inl d ↦
            let h : All Passed (file_faults g b f) = all_left Passed (file_faults g b f) _ d.passed in
            unless_most (write g b f o new slice).answer (visited g b f o (length new)) _ (visited_most h (length new))
        | inr r ↦ rw r.answers (omega arith)
      ]

pub most_rule : MostRule
unfolding file_visits
most_rule g b f o =
    let c : ℕ = suc (root_height g b f) in
    let each : All Passed (file_faults g b f) → (i : ℕ) → file_visits g b f i ≤ c =
    λ h i. root_visits_most g.words b (root g b f) (size g b f) i in
    (read_most g b f o c each, write_most g b f o c each)

pub house_most_rule : HouseMostRule
unfolding span
house_most_rule b f o =
    let each : All Passed (file_faults house b f) → (i : ℕ) → file_visits house b f i ≤ 4 =
    λ h. file_most (record { fit = house_fits; board = file_accepts house b f h; file = file_passed house b f h }) in (
      λ out. omega (arith, read_most house b f o 4 each out, house_stretches o (read_count house b f o out)),
      λ new slice. omega (arith, write_most house b f o 4 each new slice, house_stretches o (length new)),
    )
