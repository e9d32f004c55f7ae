-- Answers as C gets them, and that none is too great for a signed number.
use Rattle.std.specs.Prelude.{Err}
use mathlib.Core.Path.{◌≡◌, ap, ◌∙◌}
use mathlib.Core.Logic.{inl, inr}
use mathlib.Core.Bool.{Bool, true, false, not, cond, ◌||◌}
use mathlib.Core.List.{List, [], ◌∷◌, ◌++◌}
use Prim.Native.Nat.{ℕ, ◌*◌, ◌^◌, ◌≤◌, ◌<◌}
use native.Mathlib.Omega.{arith}
use lib.ListN.{length, take}
use lib.Dec.{ltb}
use lib.IntN.{ℤ}
use mir.Facts.{to_z-of_z}
use mir.Syntax.{w64}
use mir.Val.{SFits, to_z, of_z}
use borrow.Author.Tests.{lt-ltb}
use Rattle.model.specs.declared.Fault.{Fault}
use Rattle.model.specs.declared.Fault.TheVariants.{End, PlanLength, PairCount, Address}
use Rattle.model.specs.Lists.{all}
use Rattle.model.specs.Layout.{Layout}
use Rattle.model.specs.Board.{greatest}
use Rattle.model.specs.Store.{Store, is_barrier, paired}
use Rattle.model.specs.Plan.{Plan, pairs}
use Rattle.model.specs.Change.{write_plan, length_plan}
use Rattle.model.specs.Format.{format_plan}
use Rattle.model.specs.Answers.{Faults, answered, counted, signed, Answer}
use Rattle.model.specs.Calls.{word_count_fault, file_faults, Planned, planned, lowest, write_faults, write_from, write, set_length, format, perform_faults, perform_answer}
use Rattle.model.proofs.Cases.{split}
use Rattle.plans.specs.Laying.{PlanResult}
use Rattle.reading.proofs.Bounds.{counted_most}
use Rattle.performing.specs.Results.{PerformResult}
use Rattle.forms.specs.Results.{WordsPlan}

-- the number is the answer's
pub as_signed : {r a : Answer} {s : ℤ} → SFits w64 s → s ≡ signed r → r ≡ a → to_z w64 (of_z w64 s) ≡ signed a
as_signed fits e ea = to_z-of_z fits ∙ e ∙ ap signed ea

-- a fault that is found leaves nothing to count
found_none : (fs gs : Faults) (x : Fault) (n : ℕ) → counted (answered (fs ++ ((x, true) ∷ gs)) n) ≤ 0
unfolding answered counted
found_none [] gs x n = omega arith
found_none (t ∷ ts) gs x n = by t.1 (found_none ts gs x n)
  where
    by : (s : Bool) → counted (answered (ts ++ ((x, true) ∷ gs)) n) ≤ 0 → counted (cond s (Err t.0) (answered (ts ++ ((x, true) ∷ gs)) n)) ≤ 0
    by true h = omega arith
    by false h = h

-- where one of the faults is that n pairs are too many for the slice
pairs_fit : (fs gs : Faults) (x : Fault) (slice : List ℕ) (n : ℕ) → length slice < 2 ^ 64 → counted (answered (fs ++ ((x, ltb (length slice) (2 * n)) ∷ gs)) n) < 2 ^ 63
pairs_fit fs gs x slice n l = elim (split (2 * n) (length slice)) [
  | inl h ↦ omega (arith, counted_most (fs ++ ((x, ltb (length slice) (2 * n)) ∷ gs)) n)
  | inr h ↦ rw (lt-ltb (length slice) (2 * n) h) (omega (arith, found_none fs gs x n))
]

-- ---- Calls that plan

plan_small : (faults : Faults) (ss : List Store) (slice : List ℕ) → length slice < 2 ^ 64 → counted (planned faults ss slice).answer < 2 ^ 63
unfolding planned
plan_small faults ss slice l = pairs_fit faults [] PlanLength slice (length ss) l

module _ (g : Layout) (b slice : List ℕ) {r : Answer} {slice' : List ℕ} (l : length slice < 2 ^ 64) where
  pub format_small : PlanResult (format g b slice) r slice' → counted r < 2 ^ 63
  unfolding format
  format_small e = rw e.answer (plan_small (word_count_fault g b) (pairs (format_plan g b)) slice l)

  pub write_small : (f o : ℕ) (new : List ℕ) → PlanResult (write g b f o new slice) r slice' → counted r < 2 ^ 63
  unfolding write write_from
  write_small f o new e = let p : Plan = write_plan g (lowest g b) b f o new in rw e.answer (plan_small (write_faults g b f o new p) (pairs p) slice l)

  pub length_small : (f n : ℕ) → PlanResult (set_length g b f n slice) r slice' → counted r < 2 ^ 63
  unfolding set_length
  length_small f n e = rw e.answer (plan_small (file_faults g b f ++ ((End, ltb (greatest g) n) ∷ [])) (pairs (length_plan g b f n)) slice l)

pub plan_signed : {p : Planned} {r : Answer} {s : ℤ} {slice' : List ℕ} → SFits w64 s → s ≡ signed r → PlanResult p r slice' → WordsPlan p (to_z w64 (of_z w64 s)) slice'
plan_signed fits e k = record { answer = as_signed fits e k.answer; plan = k.plan }

-- ---- Perform

pub perform_small : (g : Layout) {b slice b' : List ℕ} {k : ℕ} {r : Answer} → length slice < 2 ^ 64 → PerformResult g b slice k r b' → counted r < 2 ^ 63
unfolding perform_answer perform_faults
perform_small g {b} {slice} {k = k} l e = rw e.answer (pairs_fit (word_count_fault g b)
    ((Address, not (all (λ s. ltb s.at (length b) || is_barrier s) (take k (paired slice)))) ∷ []) PairCount slice k l)
