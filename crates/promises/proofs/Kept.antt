-- The promises, from the contracts and the laws.
use Rattle.std.specs.Prelude.{Ok}
use mathlib.Core.Path.{◌≡◌, sym, ap, ◌∙◌}
use mathlib.Core.Logic.{inl, inr}
use mathlib.Core.Bool.{Bool, ◌&&◌, ◌||◌}
use mathlib.Core.List.{List, [], ◌∷◌}
use Prim.Native.Nat.{ℕ, ◌*◌, ◌/◌, ◌≤◌, ◌<◌}
use native.Mathlib.Omega.{arith}
use lib.ListN.{length, take, length-take}
use lib.Seq.{take-take}
use lib.Dec.{T, ltb}
use borrow.Author.Tests.{le-ltb, lt-ltb}
use Rattle.model.specs.Lists.{all, cons_if, filter}
use Rattle.model.specs.Layout.{Layout, Fits, layout_of}
use Rattle.model.specs.Board.{in_range, accepted, word_count_sound, contents}
use Rattle.model.specs.Store.{Store, is_barrier, stores, performed, paired}
use Rattle.model.specs.Plan.{pairs}
use Rattle.model.specs.Format.{format_plan}
use Rattle.model.specs.Answers.{answered, unless_refused, counted, Answer}
use Rattle.model.specs.Calls.{Planned, word_count_fault, lowest, write, perform_faults, perform_answer, perform_board, format}
use Rattle.model.specs.Cut.{Change, writing, length_to, file_of, called_from, called, plan_from, plan_of, after, last_arrived}
use Rattle.model.specs.Claims.{CutSafe, Empty}
use Rattle.model.proofs.Cases.{either, is_true, and_left, and_right, and_both, or_left, or_right}
use Rattle.model.proofs.Addresses.{all_map, all_holds, holds_all}
use Rattle.model.proofs.Refusals.{not_refused}
use Rattle.model.proofs.Epochs.{planned_either}
use Rattle.model.proofs.Accepting.{ranged, accepted_parts, facts, address_on_board}
use Rattle.model.proofs.Formatted.{fits, format_on, format_empties}
use Rattle.model.proofs.Supplied.{lowest_rule}
use Rattle.model.proofs.Rules.{call_either, power_cut_rule, accuracy_rule, plan_rule}
use Rattle.model.proofs.FormatCut.{format_rule}
use Rattle.plans.specs.Laying.{PlanResult}
use Rattle.performing.proofs.Pairs.{length_paired}
use Rattle.performing.specs.Results.{PerformResult}
use Rattle.promises.specs.Promises.{cut_after, Kept, WritePromise, SetLengthPromise, FormatPromise}
use Rattle.promises.proofs.Parts.{part_stands, part_named, part_all}

-- ---- Perform, on pairs that are all there and go to the board

-- what is so of each store is so of each pair that is no barrier
pairs_all : (p : Store → Bool) (ss : List Store) → T (all p (stores ss)) → T (all (λ s. p s || is_barrier s) ss)
unfolding all stores filter cons_if
pairs_all p [] t = tt
pairs_all p (s ∷ ss) t = elim (either (is_barrier s)) [
  | inl e ↦ and_both (p s || is_barrier s) _ (or_right (p s) (is_barrier s) (rw e tt)) (pairs_all p ss (rw e at t))
  | inr e ↦
      let u : T (p s && all p (stores ss)) = rw e at t in
      and_both (p s || is_barrier s) _ (or_left (p s) (is_barrier s) (and_left (p s) (all p (stores ss)) u)) (pairs_all p ss (and_right (p s) (all p (stores ss)) u))
]

module _ (g : Layout) (b slice : List ℕ) (k : ℕ) (counts : T (word_count_sound g b)) (there : k ≤ length (paired slice))
    (on : T (all (λ s. ltb s.at (length b)) (stores (take k (paired slice))))) where
  performs : perform_answer g b slice k ≡ Ok k
  unfolding perform_answer perform_faults word_count_fault answered
  performs =
      let room : 2 * k ≤ length slice = omega (arith, length_paired slice) in
      rw (is_true (word_count_sound g b) counts, le-ltb (length slice) (2 * k) room, is_true (all (λ s. ltb s.at (length b) || is_barrier s) (take k (paired slice))) (pairs_all (λ s. ltb s.at (length b)) (take k (paired slice)) on))

  pub performed_whole : (q : Answer) (b' : List ℕ) → PerformResult g b slice k q b' → (q ≡ Ok k) × (b' ≡ performed b (stores (take k (paired slice))))
  unfolding perform_board unless_refused
  performed_whole q b' w = (w.answer ∙ performs, w.board ∙ rw performs)

-- a plan that is read out of a slice whole: as many pairs as it has are there
plan_there : (slice : List ℕ) (ss : List Store) → take (length ss) (paired slice) ≡ ss → length ss ≤ length (paired slice)
plan_there slice ss e = omega (arith, ap length e, length-take (length ss) (paired slice))

-- ---- Write and length change

module _ (g : Layout) (fit : Fits g) (b : List ℕ) (t : T (accepted g b)) (c : Change) (slice : List ℕ) where
  abbrev p : Planned
  p = called g b c slice

  stores_on : T (all (λ s. ltb s.at (length b)) (stores (plan_of p)))
  stores_on = all_holds (λ s. ltb s.at (length b)) (stores (plan_of p)) (all_map {A = Store} (λ s. T (in_range g b (s.at / g.words))) (λ s. T (ltb s.at (length b)))
      (λ s h. rw (lt-ltb s.at (length b) (address_on_board g fit b (facts g fit b t).sizes s.at (omega (arith, (ranged g b (s.at / g.words) h).1)))) tt)
      (stores (plan_of p)) (holds_all (λ s. in_range g b (s.at / g.words)) (stores (plan_of p)) (plan_rule g fit b t c slice).1))

  pairs_there : counted p.answer ≤ length (paired p.slice)
  unfolding plan_of counted called
  pairs_there = elim (call_either g fit b t (lowest g b) (lowest_rule g b) c slice) [
    | inl d ↦ rw d.answers (plan_there p.slice (pairs (plan_from g (lowest g b) b c)) (rw d.answers at d.plans))
    | inr r ↦ rw r.answers (omega arith)
  ]

  -- the first k pairs of the plan are those of the slice
  first_pairs : (k : ℕ) → k ≤ counted p.answer → take k (paired p.slice) ≡ take k (plan_of p)
  unfolding plan_of
  first_pairs k l = sym (take-take k (counted p.answer) (paired p.slice) l)

  performed_part : (k : ℕ) → k ≤ counted p.answer → (q : Answer) (b' : List ℕ) → PerformResult g b p.slice k q b'
      → (q ≡ Ok k) × CutSafe g b b' (file_of c) (after c p.answer (contents g b (file_of c))) (plan_of p) (last_arrived (plan_of p) (cut_after k (plan_of p)))
  performed_part k l q b' w =
      let on = part_all (λ s. ltb s.at (length b)) k (plan_of p) stores_on in
      let done = performed_whole g b p.slice k (accepted_parts g b t).words (omega (arith, pairs_there)) (rw (first_pairs k l) on) q b' w in (
        done.0,
        rw (done.1, first_pairs k l, ← part_stands k (plan_of p) b)
            (power_cut_rule g fit b t c slice (cut_after k (plan_of p)) (part_named k (plan_of p) (plan_rule g fit b t c slice).0.last)),
      )

  pub kept : (r : Answer) (slice' : List ℕ) → PlanResult p r slice' → Kept g b (file_of c) (after c r (contents g b (file_of c))) r slice'
  unfolding plan_of
  kept r slice' e = record {
    cut = rw (e.answer, e.plan) (power_cut_rule g fit b t c slice);
    part = rw (e.answer, e.plan) (λ k l q b' w. performed_part k l q b' w);
    whole = rw (e.answer, e.plan) (λ q b' w.
        let done = performed_whole g b p.slice (counted p.answer) (accepted_parts g b t).words pairs_there stores_on q b' w in
        (done.0, rw done.1 (accuracy_rule g fit b t c slice)));
  }

pub write_kept : WritePromise
unfolding called called_from write file_of
write_kept k b t f o bytes slice r slice' e = kept (layout_of k) (fits k) b t (writing f o bytes) slice r slice' e

pub set_length_kept : SetLengthPromise
unfolding called called_from file_of
set_length_kept k b t f n slice r slice' e = kept (layout_of k) (fits k) b t (length_to f n) slice r slice' e

-- ---- Format

module _ (g : Layout) (fit : Fits g) (b : List ℕ) (ok : T (word_count_sound g b)) (slice : List ℕ) where
  abbrev f : Planned
  f = format g b slice

  -- where it is not refused, its plan performed whole leaves 32 empty files
  format_whole : (n : ℕ) → f.answer ≡ Ok n → (q : Answer) (b' : List ℕ) → PerformResult g b f.slice n q b' → (q ≡ Ok n) × Empty g b'
  unfolding format plan_of counted
  format_whole n e q b' w = elim (planned_either (word_count_fault g b) (pairs (format_plan g b)) slice) [
    | inl d ↦
        let ss : List Store = pairs (format_plan g b) in
        let is : n ≡ length ss = ap counted (sym e ∙ d.answers) in
        let there : take n (paired f.slice) ≡ ss = ap (λ (m : ℕ). take m (paired f.slice)) (ap counted (sym e)) ∙ d.plans in
        let done = performed_whole g b f.slice n ok (rw is (plan_there f.slice ss (rw is at there)))
        (rw there (all_holds (λ s. ltb s.at (length b)) (stores ss) (all_map {A = Store} (λ s. s.at < length b) (λ s. T (ltb s.at (length b))) (λ s l. rw (lt-ltb s.at (length b) l) tt) (stores ss) (format_on g fit b ok))))
        q b' w in
        (done.0, rw (done.1, there) (format_empties g fit b ok))
    | inr r ↦ absurd (not_refused e r.answers)
  ]

pub format_kept : FormatPromise
unfolding plan_of
format_kept k b ok slice r slice' e = record {
  cut = rw (e.answer, e.plan) (format_rule (layout_of k) (fits k) b ok slice);
  whole = λ n u q b' w. format_whole (layout_of k) (fits k) b ok slice n (sym e.answer ∙ u) q b' (rw e.plan at w);
}
