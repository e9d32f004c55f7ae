-- Which plan slices are never refused 8: twice the board's words for every plan, and twice the figure for a write's.
use Rattle.std.specs.Prelude.{Err}
use mathlib.Core.Path.{◌≡◌, refl, sym, ap, ◌∙◌}
use mathlib.Core.Logic.{◌≢◌, inl, inr}
use mathlib.Core.Bool.{Bool, true, false, cond}
use mathlib.Core.List.{List, [], ◌∷◌, ◌++◌}
use Prim.Native.Nat.{ℕ, ◌+◌, ◌-◌, ◌*◌, ◌≤◌, ◌<◌}
use native.Mathlib.Omega.{arith}
use native.Mathlib.Nat.{mul-le-mul_left, mul-le-mul_right}
use lib.ListN.{length, length-append}
use lib.Dec.{T, ltb, eqb}
use borrow.Author.Tests.{le-ltb, not-false}
use Rattle.model.specs.declared.Fault.{Fault}
use Rattle.model.specs.declared.Fault.TheVariants.{WordCount, Trailer, Damaged, FileNumber, End, FreeBlocks, PlanLength}
use Rattle.model.specs.Layout.{Kind}
use Rattle.model.specs.Layout.{House, Published}
use Rattle.model.specs.Lists.{tabulate, joined}
use Rattle.model.specs.Layout.{Layout, Fits, files, house, layout_of}
use Rattle.model.specs.Board.{greatest, leaf, size, file_blocks, live_blocks, free, block_count, accepted, word_count_sound}
use Rattle.model.specs.Store.{Store}
use Rattle.model.specs.Plan.{Step, Plan, plan, pairs}
use Rattle.model.specs.Change.{write_plan, length_plan}
use Rattle.model.specs.Format.{format_plan}
use Rattle.model.specs.Answers.{Faults, number, answered, Answer}
use Rattle.model.specs.Calls.{word_count_fault, board_faults, file_faults, planned, write_faults, write_from, set_length, format}
use Rattle.model.specs.Cut.{Change, writing, length_to, called_from}
use Rattle.model.proofs.Cases.{either}
use Rattle.model.proofs.Perform.{All, all_append, length_tabulate}
use Rattle.model.proofs.Addresses.{all_left}
use Rattle.model.proofs.Shown.{words_pos}
use Rattle.model.proofs.Accepting.{Counted, counted, facts}
use Rattle.model.proofs.Census.{census}
use Rattle.model.proofs.Epochs.{Passed}
use Rattle.model.proofs.Refusals.{not_refused}
use Rattle.model.proofs.Rules.{file_passed, write_passed}
use Rattle.model.proofs.Formatted.{format_pairs, fits}
use Rattle.bounds.specs.Bounds.{most_stores}
use Rattle.bounds.specs.Claims.{RoomRule, FormatRoomRule, WriteRoomRule}
use Rattle.bounds.proofs.Stores.{extra, Bounded, pairs_most, write_bounded, length_bounded}
use Rattle.bounds.proofs.Rules.{file_accepts, write_accepts, write_low, few_pairs}

-- ---- How many pairs there are

-- the inode pointer block and the leaves are live
live_least : (g : Layout) (b : List ℕ) → g.leaves + 1 ≤ length (live_blocks g b)
unfolding live_blocks
live_least g b = omega (arith, length-append (tabulate g.leaves (leaf g b)) (joined (files g) (file_blocks g b)), length_tabulate g.leaves (leaf g b))

-- figures with which the leaves, the inode pointer block, block 0 and the trailer have more words than a plan has pairs that go to no fresh block
record Roomy (g : Layout) : Type 0 where
  fit : Fits g
  wide : 5 ≤ g.words
  low : g.height ≤ g.leaves + 1

roomy : (k : Kind) → Roomy (layout_of k)
roomy House = record { fit = fits House; wide = omega arith; low = omega arith }
roomy Published = record { fit = fits Published; wide = omega arith; low = omega arith }

module _ (g : Layout) (r : Roomy g) (b : List ℕ) (ok : T (accepted g b)) where
  holds : (p : Plan) → Bounded g.words (extra g) p → p.taken ≤ length (free g b) → length (pairs p) ≤ length b
  unfolding extra
  holds p bounded room =
      let live : ℕ = length (live_blocks g b) in
      let all : live + length (free g b) + 2 ≡ block_count g b = census g r.fit b ok in
      let whole : length b ≡ g.words * (live + length (free g b) + 2) = (facts g r.fit b ok).sizes.whole ∙ ap (λ (x : ℕ). g.words * x) (sym all) in
      let least : g.words * (g.leaves + 1) ≤ g.words * live = mul-le-mul_left g.words (live_least g b) in
      let taken : g.words * p.taken ≤ g.words * length (free g b) = mul-le-mul_left g.words room in
      let levels : g.words * g.height ≤ g.words * (g.leaves + 1) = mul-le-mul_left g.words r.low in
      let fewer : (g.words - 1) * g.height ≤ g.words * g.height = mul-le-mul_right g.height (omega arith) in
      omega (arith, r.wide, bounded.all, pairs_most g.words (extra g) p bounded)

length_takes : (g : Layout) (b : List ℕ) (f n : ℕ) → (length_plan g b f n).taken ≡ 0
unfolding length_plan plan
length_takes g b f n = by _ (eqb n (size g b f))
  where
    by : (ps : List Step) (s : Bool) → (cond s (plan [] 0) (plan ps 0)).taken ≡ 0
    by ps true = refl
    by ps false = refl

-- ---- No refusal 8

same_fault : {y z : Fault} {r : Answer} → r ≡ Err y → r ≡ Err z → y ≡ z
same_fault e f = cc

-- of a list of faults the last is not the answer where its test fails once the others' have
not_last : (fs : Faults) (x : Fault) (test : Bool) (n : ℕ) → All (λ t. t.0 ≢ x) fs → (All Passed fs → test ≡ false) → answered (fs ++ ((x, test) ∷ [])) n ≢ Err x
unfolding All answered
not_last [] x test n others fails e = not_refused {v = n} (rw (fails tt)) e
not_last (y ∷ ts) x test n others fails e = elim (either y.1) [
  | inl s ↦ others.0 (same_fault refl (rw s at e))
  | inr s ↦ not_last ts x test n others.1 (λ h. fails (s, h)) (rw s at e)
]

other : (x : Fault) → number x < 8 → x ≢ PlanLength
unfolding number
other x lt e = omega (arith, ap number e)

-- so a call that plans does not refuse 8 where its slice holds m pairs and it has no more, once no other fault was found
holds_plan : (m : ℕ) (slice : List ℕ) (faults : Faults) (ss : List Store) → All (λ t. t.0 ≢ PlanLength) faults → 2 * m ≤ length slice → (All Passed faults → length ss ≤ m)
    → (planned faults ss slice).answer ≢ Err PlanLength
unfolding planned
holds_plan m slice faults ss others long le = not_last faults PlanLength (ltb (length slice) (2 * length ss)) (length ss) others (λ h. le-ltb (length slice) (2 * length ss) (omega (arith, le h)))

module _ (g : Layout) (b : List ℕ) (f : ℕ) where
  file_others : All (λ t. t.0 ≢ PlanLength) (file_faults g b f)
  unfolding file_faults board_faults word_count_fault number All
  file_others = (other WordCount (omega arith), (other Trailer (omega arith), (other Damaged (omega arith), (other FileNumber (omega arith), tt))))

  write_others : (o : ℕ) (new : List ℕ) (p : Plan) → All (λ t. t.0 ≢ PlanLength) (write_faults g b f o new p)
  unfolding write_faults number All
  write_others o new p = all_append (λ t. t.0 ≢ PlanLength) (file_faults g b f) _ file_others (other End (omega arith), (other FreeBlocks (omega arith), tt))

room_for : (g : Layout) → Roomy g → (b : List ℕ) (fresh : ℕ → ℕ) (c : Change) (slice : List ℕ) → 2 * length b ≤ length slice → (called_from g fresh b c slice).answer ≢ Err PlanLength
unfolding called_from write_from set_length number All
room_for g r b fresh (writing f o new) slice long =
    let p : Plan = write_plan g fresh b f o new.values in
    holds_plan (length b) slice (write_faults g b f o new.values p) (pairs p) (write_others g b f o new.values p) long (λ h.
    let ok : T (accepted g b) = write_accepts g b f o new.values p h in
    holds g r b ok p (write_bounded g r.fit fresh b f (write_low g r.fit b f o new.values p h) o new.values) (write_passed r.fit ok f o new p h).1)
room_for g r b fresh (length_to f n) slice long =
    let p : Plan = length_plan g b f n in
    let own : Faults = (End, ltb (greatest g) n) ∷ [] in
    holds_plan (length b) slice (file_faults g b f ++ own) (pairs p)
    (all_append (λ t. t.0 ≢ PlanLength) (file_faults g b f) own (file_others g b f) (other End (omega arith), tt)) long (λ h.
    let board : All Passed (file_faults g b f) = all_left Passed (file_faults g b f) own h in
    let ok : T (accepted g b) = file_accepts g b f board in
    holds g r b ok p (length_bounded g (words_pos g r.fit) b f ((facts g r.fit b ok).low f (file_passed g b f board)) n) (omega (arith, length_takes g b f n)))

pub room_rule : RoomRule
room_rule k b fresh c slice long = room_for (layout_of k) (roomy k) b fresh c slice (omega arith)

-- format stores to fewer blocks than the least board has
format_holds : (g : Layout) → Fits g → (b : List ℕ) → T (word_count_sound g b) → length (pairs (format_plan g b)) ≤ length b
format_holds g fit b ok =
    let sizes : Counted g b = counted g fit b ok in
    omega (arith, format_pairs g fit b, sizes.whole, mul-le-mul_left g.words sizes.blocks_least, mul-le-mul_left g.words fit.format_fits, fit.trailer_fits)

pub format_room_rule : FormatRoomRule
unfolding format word_count_fault number All
format_room_rule k b slice long =
    let g : Layout = layout_of k in
    holds_plan (length b) slice (word_count_fault g b) (pairs (format_plan g b)) (other WordCount (omega arith), tt) (omega arith) (λ h. format_holds g (fits k) b (rw (not-false (word_count_sound g b) h.0) tt))

pub write_room_rule : WriteRoomRule
unfolding write_from
write_room_rule b fresh f o new slice long =
    let p : Plan = write_plan house fresh b f o new.values in
    holds_plan (most_stores (length new.values)) slice (write_faults house b f o new.values p) (pairs p) (write_others house b f o new.values p) (omega arith)
    (few_pairs b fresh f o new.values)
