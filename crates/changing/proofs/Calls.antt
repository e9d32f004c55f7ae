-- The ways out of the calls that change a file.
use Rattle.std.specs.Prelude.{Ok, Err}
use mathlib.Core.Path.{◌≡◌, refl, sym, ap, ◌∙◌}
use mathlib.Core.List.{List, [], ◌∷◌, ◌++◌}
use Prim.Native.Nat.{ℕ, ◌+◌, ◌/◌, ◌≤◌, ◌<◌}
use native.Mathlib.Omega.{arith}
use lib.ListN.{length}
use lib.Dec.{ltb}
use borrow.Author.Tests.{lt-ltb, le-ltb}
use Rattle.model.specs.declared.Fault.{Fault}
use Rattle.model.specs.declared.Fault.TheVariants.{End, FreeBlocks, PlanLength}
use Rattle.model.specs.Layout.{Kind}
use Rattle.model.specs.Layout.{Layout, layout_of}
use Rattle.model.specs.Board.{greatest, free}
use Rattle.model.specs.Store.{Store, fenced, laid}
use Rattle.model.specs.Plan.{Plan, plan, pairs, plan_epochs}
use Rattle.model.specs.Change.{write_plan, length_plan}
use Rattle.model.specs.Answers.{Faults, answered, Answer}
use Rattle.model.specs.Calls.{Planned, file_faults, check_answer, planned, lowest, write_faults, write_from, write, set_length}
use Rattle.model.proofs.Refusals.{first_refused, first_done, checked, check_accepts}
use Rattle.plans.specs.Laying.{Laid, PlanResult, PlanLaid}
use Rattle.plans.proofs.Laying.{laid_none}
use Rattle.plans.proofs.Refusing.{turned, too_short, long_enough}
use Rattle.surveying.proofs.FileNumbers.{file_there, file_found}
use Rattle.kinds.proofs.Figures.{files_32}
use Rattle.plans.specs.Onto.{taking}
use Rattle.plans.specs.declared.Count.{Count}
use Rattle.planning.specs.Asked.{File}
use Rattle.changing.specs.Stock.{Stocked}

-- ---- A plan is first worked out on an empty part of the slice, which leaves the slice as it was

no_part : (none slice : List ℕ) → length none ≡ 0 → none ++ slice ≡ slice
no_part [] slice e = refl
no_part (x ∷ none) slice e = absurd (omega arith)

pub unlaid : {p : Planned} {r : Answer} (none : List ℕ) {slice : List ℕ} → length none ≡ 0 → PlanResult p r slice → PlanResult p r (none ++ slice)
unlaid none {slice} e k = rw (no_part none slice e) k

module _ (kind : Kind) where
  abbrev g : Layout
  g = layout_of kind

  -- ---- Accepted boards and their files

  pub there : {b : List ℕ} {f v : ℕ} {r : Answer} → r ≡ check_answer g b → r ≡ Ok v → f ≤ 31 → File kind b f
  there {b} {f} {v} e z l = record { board = check_accepts g b (sym e ∙ z); file = omega arith }

  -- none of refusals 1 to 4
  file_done : {b : List ℕ} {f : ℕ} → File kind b f → Ok 0 ≡ answered (file_faults g b f) 0
  file_done {b} {f} k = file_there g b f refl (checked g b k.board) (rw (files_32 kind) k.file)

  pub done_file : {b : List ℕ} {f v : ℕ} {r : Answer} → r ≡ answered (file_faults g b f) 0 → r ≡ Ok v → File kind b f
  done_file {b} {f} e z = let k = file_found g b f e z in record { board = k.0; file = rw (files_32 kind) at k.1 }

  -- ---- Write

  -- its plan, with the lowest free blocks
  abbrev lowest_plan : List ℕ → ℕ → ℕ → List ℕ → Plan
  lowest_plan b f o new = write_plan g (lowest g b) b f o new

  -- refusals 6 and 7, and all up to 7
  abbrev own_faults : List ℕ → ℕ → ℕ → List ℕ → Faults
  own_faults b f o new =
      (End, ltb (greatest g) (o + length new)) ∷ (FreeBlocks, ltb (length (free g b)) (lowest_plan b f o new).taken) ∷ []

  abbrev all_faults : List ℕ → ℕ → ℕ → List ℕ → Faults
  all_faults b f o new = write_faults g b f o new (lowest_plan b f o new)

  -- a write that none of them turns away
  write_done : (b : List ℕ) (f o : ℕ) (new : List ℕ) → File kind b f → o + length new ≤ greatest g → (lowest_plan b f o new).taken ≤ length (free g b)
      → Ok 0 ≡ answered (all_faults b f o new) 0
  unfolding write_faults answered
  write_done b f o new k end room = sym (first_done (file_faults g b f) (own_faults b f o new) 0 0 (file_done k) refl
      ∙ rw (le-ltb (greatest g) (o + length new) end, le-ltb (length (free g b)) (lowest_plan b f o new).taken room))

  module _ (b : List ℕ) (f o : ℕ) (new slice : List ℕ) where
    -- the definition's answer and slice
    write_gives_law : {r : Answer} {slice' : List ℕ} → PlanResult (planned (all_faults b f o new) (pairs (lowest_plan b f o new)) slice) r slice' → PlanResult (write g b f o new slice) r slice'
    unfolding write write_from
    write_gives_law k = record { answer = k.answer; plan = k.plan }

    -- a refusal up to 7
    first_turned : {r : Answer} {x : Fault} → r ≡ answered (all_faults b f o new) 0 → r ≡ Err x → PlanResult (write g b f o new slice) r slice
    first_turned e z = write_gives_law (turned (all_faults b f o new) (pairs (lowest_plan b f o new)) slice 0 e z)

    -- one of 1 to 4
    pub write_turned : {r : Answer} {x : Fault} → r ≡ answered (file_faults g b f) 0 → r ≡ Err x → PlanResult (write g b f o new slice) r slice
    unfolding write_faults
    write_turned e z = first_turned (sym (first_refused (file_faults g b f) (own_faults b f o new) 0 0 e z)) z

    module _ (k : File kind b f) where
      -- 6 or 7
      own_turned : {x : Fault} → answered (own_faults b f o new) 0 ≡ Err x → PlanResult (write g b f o new slice) (Err x) slice
      unfolding write_faults
      own_turned z = first_turned (sym (first_done (file_faults g b f) (own_faults b f o new) 0 0 (file_done k) refl ∙ z)) refl

      pub write_past_end : greatest g < o + length new → PlanResult (write g b f o new slice) (Err End) slice
      unfolding answered
      write_past_end l = own_turned (rw (lt-ltb (greatest g) (o + length new) l))

      module _ (end : o + length new ≤ greatest g) where
        no_blocks : length (free g b) < (lowest_plan b f o new).taken → PlanResult (write g b f o new slice) (Err FreeBlocks) slice
        unfolding answered
        no_blocks l = own_turned (rw (le-ltb (greatest g) (o + length new) end, lt-ltb (length (free g b)) (lowest_plan b f o new).taken l))

        module _ (room : (lowest_plan b f o new).taken ≤ length (free g b)) {n : ℕ} (en : n ≡ 0 + length (pairs (lowest_plan b f o new))) where
          short_slice : length slice / 2 < n → PlanResult (write g b f o new slice) (Err PlanLength) slice
          short_slice l = write_gives_law (too_short (all_faults b f o new) (pairs (lowest_plan b f o new)) slice 0 (write_done b f o new k end room) refl en l)

          whole : n ≤ length slice / 2 → {slice' : List ℕ} → slice' ≡ laid slice 0 (pairs (lowest_plan b f o new)) → PlanResult (write g b f o new slice) (Ok n) slice'
          whole l es = write_gives_law (long_enough (all_faults b f o new) (pairs (lowest_plan b f o new)) slice 0 (write_done b f o new k end room) refl en l es)

  -- nothing to write
  pub write_nothing : (b : List ℕ) (f o : ℕ) (new slice : List ℕ) → File kind b f → o ≤ greatest g → length new ≡ 0 → PlanResult (write g b f o new slice) (Ok 0) slice
  unfolding write_plan plan pairs plan_epochs fenced
  write_nothing b f o [] slice k within e = whole b f o [] slice k (omega arith) (omega arith) refl (omega arith) (sym (laid_none slice 0))
  write_nothing b f o (x ∷ new) slice k within e = absurd (omega arith)

  -- a write of some bytes, planned with the table's blocks, which are the lowest free ones
  module _ {b : List ℕ} {f o : ℕ} {new table : List ℕ} {count : ℕ} (s : Stocked kind b f o new table count) where
    abbrev table_plan : Plan
    table_plan = write_plan g (taking table) b f o new

    same_plan : table_plan ≡ lowest_plan b f o new
    same_plan = let same : taking table ≡ lowest g b = λ i x. s.lists x i in ap (λ (fresh : ℕ → ℕ). write_plan g fresh b f o new) same

    module _ {slice : List ℕ} where
      lacks : count < table_plan.taken → PlanResult (write g b f o new slice) (Err FreeBlocks) slice
      lacks l = no_blocks b f o new slice s.asked.of s.asked.end (rw (← same_plan) (omega (arith, s.all)))

    module _ {plan₀ plan₁ : List ℕ} {r : Count} (q : PlanLaid plan₀ 0 table_plan plan₁ r) where
      enough : r.taken ≤ count → (lowest_plan b f o new).taken ≤ length (free g b)
      enough room = rw (← same_plan) (omega (arith, q.taken, s.all))

      counted : r.pairs ≡ 0 + length (pairs (lowest_plan b f o new))
      counted = rw same_plan at q.count

      module _ {slice : List ℕ} where
        pub plan_lacks : count < r.taken → PlanResult (write g b f o new slice) (Err FreeBlocks) slice
        plan_lacks l = lacks (omega (arith, q.taken))

        pub plan_short : r.taken ≤ count → length slice / 2 < r.pairs → PlanResult (write g b f o new slice) (Err PlanLength) slice
        plan_short room l = short_slice b f o new slice s.asked.of s.asked.end (enough room) counted l

      pub plan_laid : (none slice : List ℕ) {slice' : List ℕ} {r' : Count} → r.taken ≤ count → r.pairs ≤ length slice / 2 → length none ≡ 0
          → PlanLaid (none ++ slice) 0 table_plan slice' r' → PlanResult (write g b f o new slice) (Ok r.pairs) slice'
      plan_laid none slice room l e q' =
          whole b f o new slice s.asked.of s.asked.end (enough room) counted l (rw (same_plan, no_part none slice e) at q'.is)

  -- ---- Length change

  abbrev length_pairs : List ℕ → ℕ → ℕ → List Store
  length_pairs b f n = pairs (length_plan g b f n)

  -- refusals 1 to 4, and 6
  abbrev length_faults : List ℕ → ℕ → ℕ → Faults
  length_faults b f n = file_faults g b f ++ ((End, ltb (greatest g) n) ∷ [])

  -- a length change that none of them turns away
  length_done : (b : List ℕ) (f n : ℕ) {r : Answer} {v : ℕ} → r ≡ answered (file_faults g b f) 0 → r ≡ Ok v → n ≤ greatest g → Ok 0 ≡ answered (length_faults b f n) 0
  unfolding answered
  length_done b f n e z end = sym (first_done (file_faults g b f) ((End, ltb (greatest g) n) ∷ []) 0 0 e z ∙ rw (le-ltb (greatest g) n end))

  module _ (b : List ℕ) (f n : ℕ) (slice : List ℕ) where
    -- the definition's answer and slice
    length_gives_law : {r : Answer} {slice' : List ℕ} → PlanResult (planned (length_faults b f n) (length_pairs b f n) slice) r slice' → PlanResult (set_length g b f n slice) r slice'
    unfolding set_length
    length_gives_law k = record { answer = k.answer; plan = k.plan }

    module _ {r : Answer} (e : r ≡ answered (file_faults g b f) 0) where
      pub length_turned : {x : Fault} → r ≡ Err x → PlanResult (set_length g b f n slice) r slice
      length_turned z = length_gives_law (turned (length_faults b f n) (length_pairs b f n) slice 0
          (sym (first_refused (file_faults g b f) ((End, ltb (greatest g) n) ∷ []) 0 0 e z)) z)

      module _ {v : ℕ} (z : r ≡ Ok v) where
        pub length_past_end : greatest g < n → PlanResult (set_length g b f n slice) (Err End) slice
        unfolding answered
        length_past_end l = length_gives_law (turned (length_faults b f n) (length_pairs b f n) slice 0
            (sym (first_done (file_faults g b f) ((End, ltb (greatest g) n) ∷ []) 0 0 e z ∙ rw (lt-ltb (greatest g) n l))) refl)

        module _ (end : n ≤ greatest g) {plan₀ plan₁ : List ℕ} {c : ℕ} (q : Laid plan₀ 0 (length_pairs b f n) plan₁ c) where
          pub length_short : length slice / 2 < c → PlanResult (set_length g b f n slice) (Err PlanLength) slice
          length_short l = length_gives_law (too_short (length_faults b f n) (length_pairs b f n) slice 0 (length_done b f n e z end) refl q.next l)

          pub length_laid : (none : List ℕ) {slice' : List ℕ} {c' : ℕ} → c ≤ length slice / 2 → length none ≡ 0 → Laid (none ++ slice) 0 (length_pairs b f n) slice' c'
              → PlanResult (set_length g b f n slice) (Ok c) slice'
          length_laid none l e₀ q' = length_gives_law (long_enough (length_faults b f n) (length_pairs b f n) slice 0 (length_done b f n e z end) refl q.next l (rw (no_part none slice e₀) at q'.is))
