-- What a caller has who knows the contracts alone, of each kind of board. `r` is what the call answered and `slice'` the plan slice as it left it; both
-- stand in the contract of the call, PlanResult, and what perform does with them in PerformResult.
use Rattle.std.specs.Prelude.{◌≡◌, ◌≢◌, ◌⊎◌, Bool, true, false, cond, List, [], ◌∷◌, ℕ, zero, suc, ◌*◌, ◌≤◌, length, T, Ok, Err}
use Rattle.model.specs.declared.Fault.TheVariants.{Trailer, PlanLength}
use Rattle.model.specs.Words.{Bytes}
use Rattle.model.specs.Layout.{Kind}
use Rattle.model.specs.Layout.{Layout, house, layout_of}
use Rattle.model.specs.Board.{trailer, size, contents, accepted, word_count_sound}
use Rattle.model.specs.Store.{Store, is_barrier}
use Rattle.model.specs.Answers.{counted, Answer}
use Rattle.model.specs.Calls.{check_answer, write, set_length, format}
use Rattle.model.specs.Cut.{writing, length_to, plan_of, after, Cut, Names, standing, last_arrived}
use Rattle.model.specs.Claims.{CutSafe, Altered, Empty}
use Rattle.bounds.specs.Bounds.{most_stores, sharp_stores, store_count}
use Rattle.plans.specs.Laying.{PlanResult}
use Rattle.performing.specs.Results.{PerformResult}

-- *The plan is as many pairs as the answer counts*, read out of the slice
abbrev pub plan_left : Answer → List ℕ → List Store
plan_left r slice = plan_of (record { answer = r; slice = slice })

-- a cut one epoch later
unfoldable pub later : Cut → Cut
later x = record { epoch = suc x.epoch; arrived = x.arrived }

-- where one store more arrived before those of a cut: it is the first of epoch 0, or of an epoch before the cut's
unfoldable pub first_too : ℕ → (ℕ → Bool) → ℕ → Bool
first_too zero p zero = true
first_too zero p (suc i) = p i
first_too (suc e) p i = p i

-- the cut after the first k pairs: each store among them arrived, and no other
unfoldable pub cut_after : ℕ → List Store → Cut
cut_after zero ss = record { epoch = 0; arrived = λ i. false }
cut_after (suc k) [] = record { epoch = 0; arrived = λ i. false }
cut_after (suc k) (s ∷ ss) = cond (is_barrier s) (later (cut_after k ss)) (record { epoch = (cut_after k ss).epoch; arrived = first_too (cut_after k ss).epoch (cut_after k ss).arrived })

-- what is so of the plan that a call left for file f, which is to read `wanted`
pub record Kept (g : Layout) (b : List ℕ) (f : ℕ) (wanted : List ℕ) (r : Answer) (slice' : List ℕ) : Type 0 where
  -- cut anywhere, it obeys the power-cut rule
  pub cut : (x : Cut) → let ss : List Store = plan_left r slice' in Names ss x → CutSafe g b (standing ss x b) f wanted ss (last_arrived ss x)
  -- performed by `perform` up to any pair, it leaves the board of such a cut
  pub part : (k : ℕ) → k ≤ counted r → (q : Answer) (b' : List ℕ) → PerformResult g b slice' k q b'
      → let ss : List Store = plan_left r slice' in (q ≡ Ok k) × CutSafe g b b' f wanted ss (last_arrived ss (cut_after k ss))
  -- performed whole by `perform`, which does not refuse it, the file reads as after and no other file is changed
  pub whole : (q : Answer) (b' : List ℕ) → PerformResult g b slice' (counted r) q b' → (q ≡ Ok (counted r)) × Altered g b b' f wanted

-- `write`
abbrev pub WritePromise : Type 0
WritePromise = (k : Kind) → let g : Layout = layout_of k in (b : List ℕ) → T (accepted g b) → (f o : ℕ) (bytes : Bytes) (slice : List ℕ) (r : Answer) (slice' : List ℕ)
    → PlanResult (write g b f o bytes.values slice) r slice' → Kept g b f (after (writing f o bytes) r (contents g b f)) r slice'

-- `set_length`
abbrev pub SetLengthPromise : Type 0
SetLengthPromise = (k : Kind) → let g : Layout = layout_of k in (b : List ℕ) → T (accepted g b) → (f n : ℕ) (slice : List ℕ) (r : Answer) (slice' : List ℕ)
    → PlanResult (set_length g b f n slice) r slice' → Kept g b f (after (length_to f n) r (contents g b f)) r slice'

-- `format`, on any board whose word count is sound: cut anywhere it leaves the old board, or one that check refuses 2, or 32 empty files; performed whole, where it
-- was not refused, the last
pub record Formats (g : Layout) (b : List ℕ) (r : Answer) (slice' : List ℕ) : Type 0 where
  pub cut : (x : Cut) → let ss : List Store = plan_left r slice' in let b' : List ℕ = standing ss x b in
      Names ss x → (b' ≡ b) ⊎ (((trailer g b' 0 ≡ 0) × (check_answer g b' ≡ Err Trailer)) ⊎ Empty g b')
  pub whole : (n : ℕ) → r ≡ Ok n → (q : Answer) (b' : List ℕ) → PerformResult g b slice' n q b' → (q ≡ Ok n) × Empty g b'

abbrev pub FormatPromise : Type 0
FormatPromise = (k : Kind) → let g : Layout = layout_of k in (b : List ℕ) → T (word_count_sound g b) → (slice : List ℕ) (r : Answer) (slice' : List ℕ)
    → PlanResult (format g b slice) r slice' → Formats g b r slice'

-- `write`, N12 of document 02: the plan that it left has at most so many stores; so many pairs too; 30 fewer stores where the offset is not past the size; and
-- with two words for each of those pairs it was not refused 8
abbrev pub StoresPromise : Type 0
StoresPromise = (b : List ℕ) (f o : ℕ) (bytes : Bytes) (slice : List ℕ) (r : Answer) (slice' : List ℕ) → PlanResult (write house b f o bytes.values slice) r slice'
    → let l : ℕ = length bytes.values in
    (store_count (plan_left r slice') ≤ most_stores l) × (length (plan_left r slice') ≤ most_stores l) × (o ≤ size house b f → store_count (plan_left r slice') ≤ sharp_stores l)
    × (2 * most_stores l ≤ length slice → r ≢ Err PlanLength)

-- with a plan slice of twice the board's words no call that plans was refused 8: write and length change, and format
abbrev pub RoomPromise : Type 0
RoomPromise = (k : Kind) → let g : Layout = layout_of k in (b slice : List ℕ) → 2 * length b ≤ length slice → (r : Answer) (slice' : List ℕ)
    → ((f o : ℕ) (bytes : Bytes) → PlanResult (write g b f o bytes.values slice) r slice' → r ≢ Err PlanLength)
    × ((f n : ℕ) → PlanResult (set_length g b f n slice) r slice' → r ≢ Err PlanLength)
    × (PlanResult (format g b slice) r slice' → r ≢ Err PlanLength)
