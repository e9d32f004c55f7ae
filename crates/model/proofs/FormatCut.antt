-- Format's plan is shaped as plans must be and stores nothing to block 0; a cut inside it leaves the lent board, a board whose trailer word 0 is 0,
-- or empty files.
use Rattle.std.specs.Prelude.{Err}
use mathlib.Core.Path.{◌≡◌, refl, sym, ◌∙◌}
use mathlib.Core.Logic.{◌≢◌, ◌⊎◌, inl, inr}
use mathlib.Core.Bool.{Bool, true, false}
use mathlib.Core.List.{List, [], ◌∷◌, ◌++◌, append-nil}
use Prim.Native.Nat.{ℕ, zero, suc, ◌+◌, ◌-◌, ◌*◌, ◌/◌, ◌≤◌, ◌<◌}
use native.Mathlib.Omega.{arith}
use native.Mathlib.Nat.{mul-le-mul_left, zero-mod}
use lib.ListN.{length, get_or, set, take, length-set}
use lib.Seq.{get_or-set_same}
use lib.Dec.{T, leb, le→leb}
use Rattle.model.specs.declared.Fault.TheVariants.{Trailer}
use Rattle.model.specs.Lists.{all, member, distinct, concat, cons_if, filter, occ}
use Rattle.model.specs.Layout.{Layout, Fits}
use Rattle.model.specs.Tree.{cell}
use Rattle.model.specs.Board.{block_count, trailer, word_count_sound, trailer_sound}
use Rattle.model.specs.Store.{Store, store, performed, stores, epochs}
use Rattle.model.specs.Plan.{pairs}
use Rattle.model.specs.Format.{format_pages, trailer_address, trailer_stores, format_plan}
use Rattle.model.specs.Answers.{answered}
use Rattle.model.specs.Calls.{word_count_fault, board_faults, check_answer, format}
use Rattle.model.specs.Cut.{chosen}
use Rattle.model.specs.Claims.{Shaped, FormatPlanRule, FormatRule, Empty}
use Rattle.model.proofs.Cases.{decide, either, is_true}
use Rattle.model.proofs.Counting.{occ_distinct, sum_once}
use Rattle.model.proofs.Perform.{All, all_append, all_tabulate, length_performed, performed_append, performed_away, blocks_differ, stored_blocks, block_away}
use Rattle.model.proofs.Addresses.{addresses, addresses_away, occ_addresses_append, occ_addresses_tabulate, used_once, stored_once, all_holds}
use Rattle.model.proofs.Epochs.{Full, epochs_fenced, shaped, shaped_none, planned_either, all_chosen, standing_epochs, standing_none}
use Rattle.model.proofs.Shown.{count_kept}
use Rattle.model.proofs.Accepting.{Counted, counted}
use Rattle.model.proofs.Formatted.{clears, trailer_store, commits, pages, filling, format_epochs, length_pages, filling_some, format_epochs_law, filling_goes, trailer_on, format_plain, format_stores, format_empties}

module _ (g : Layout) (fit : Fits g) (b : List ℕ) (ok : T (word_count_sound g b)) where
  -- ---- The plan

  n : Counted g b
  n = counted g fit b ok

  -- none of the first blocks is the trailer
  no_trailer : (k : ℕ) → k < 15 → k ≢ block_count g b - 1
  no_trailer k l = omega (arith, n.blocks_least)

  -- no page goes to the trailer
  pages_away : (q : ℕ) → q / g.words ≡ block_count g b - 1 → All (λ s. q ≢ s.at) (pages g)
  unfolding pages
  pages_away q e = stored_blocks g.words (λ c. c) (λ x. q ≢ x) (format_pages g) 1
      (λ k j u v l. block_away g.words k j q l (λ z. no_trailer k (omega (arith, length_pages g, fit.format_fits)) (sym z ∙ e)))

  trailer_away : (q : ℕ) → q / g.words ≢ block_count g b - 1 → All (λ s. q ≢ s.at) (trailer_stores g b)
  unfolding trailer_stores store trailer_address
  trailer_away q d = all_tabulate (λ s. q ≢ s.at) (g.words - 1) (trailer_store g b) (λ j l. block_away g.words (block_count g b - 1) (suc j) q (omega arith) d)

  -- so no address is in the middle epoch twice
  filling_occ : (q : ℕ) → occ q (addresses (filling g b)) ≤ 1
  unfolding filling pages trailer_stores store trailer_address
  filling_occ q = elim (decide (q / g.words) (block_count g b - 1)) [
    | inl e ↦ omega (
      arith,
      occ_addresses_append q (pages g) (trailer_stores g b),
      addresses_away q (pages g) (pages_away q e),
      occ_addresses_tabulate q (g.words - 1) (trailer_store g b),
      sum_once q (g.words - 1) (λ j. (trailer_store g b j).at) (λ i j u v. omega arith),
    )
    | inr d ↦ omega (
      arith,
      occ_addresses_append q (pages g) (trailer_stores g b),
      addresses_away q (trailer_stores g b) (trailer_away q d),
      stored_once g.words (λ c. c) (format_pages g) 1 q,
      used_once (λ c. c) (q / g.words) 1 (length (format_pages g)) (λ i j u v w. omega arith),
    )
  ]

  epochs_full : All Full (format_epochs g b)
  unfolding All
  epochs_full = (omega arith, (filling_some g fit b, (omega arith, tt)))

  plan_epochs_law : epochs (pairs (format_plan g b)) ≡ format_epochs g b
  unfolding pairs
  plan_epochs_law = rw (format_epochs_law g fit b) (epochs_fenced (format_epochs g b) epochs_full (format_plain g fit b ok))

  format_shaped : Shaped (pairs (format_plan g b))
  unfolding pairs All distinct member
  format_shaped = rw (format_epochs_law g fit b) (shaped (format_epochs g b) epochs_full (format_plain g fit b ok)
      (tt, (occ_distinct (addresses (filling g b)) filling_occ, (tt, tt))))

  above : (k j : ℕ) → 0 < k → T (leb g.words (g.words * k + j))
  above k j l = le→leb g.words (g.words * k + j) (omega (arith, mul-le-mul_left g.words l))

  -- no store goes to block 0
  format_above : T (all (λ s. leb g.words s.at) (stores (pairs (format_plan g b))))
  unfolding All store trailer_address
  format_above =
      let P : Store → Type 0 = λ s. T (leb g.words s.at) in
      let last : 0 < block_count g b - 1 = omega (arith, n.blocks_least) in
      rw (format_stores g fit b ok) (all_holds (λ s. leb g.words s.at) (clears g b ∷ (filling g b ++ (commits g b ∷ []))) (
        above (block_count g b - 1) 0 last,
        all_append P (filling g b) (commits g b ∷ [])
            (filling_goes g fit b (λ x. T (leb g.words x)) (λ k j u v l. above k j u) (λ j l. above (block_count g b - 1) (suc j) last))
            (above (block_count g b - 1) 0 last, tt),
      ))

  -- ---- Cuts

  -- a board of this length whose trailer word 0 is 0
  module _ (b' : List ℕ) (e : length b' ≡ length b) (z : get_or b' (trailer_address g b 0) 0 ≡ 0) where
    root_zero : trailer g b' 0 ≡ 0
    unfolding trailer cell trailer_address
    root_zero = rw (count_kept g b' b e) z

    trailer_unsound : trailer_sound g b' ≡ false
    unfolding trailer_sound
    trailer_unsound = rw (root_zero, zero-mod g.words)

    count_sound : word_count_sound g b' ≡ true
    unfolding word_count_sound
    count_sound = rw e (is_true (word_count_sound g b) ok)

    zero_refused : (trailer g b' 0 ≡ 0) × (check_answer g b' ≡ Err Trailer)
    unfolding check_answer board_faults word_count_fault answered
    zero_refused = (root_zero, rw (count_sound, trailer_unsound))

  -- what a cut may leave
  abbrev Outcome : List ℕ → Type 0
  Outcome b' = (b' ≡ b) ⊎ (((trailer g b' 0 ≡ 0) × (check_answer g b' ≡ Err Trailer)) ⊎ Empty g b')

  start : List ℕ
  start = set b (trailer_address g b 0) 0

  -- none of the middle epoch's stores goes to trailer word 0
  filling_away : All (λ s. trailer_address g b 0 ≢ s.at) (filling g b)
  unfolding trailer_address
  filling_away = filling_goes g fit b (λ x. trailer_address g b 0 ≢ x)
      (λ k j u v l. blocks_differ g.words (block_count g b - 1) k 0 j (omega (arith, fit.trailer_fits)) l (λ z. no_trailer k v (sym z)))
      (λ j l. omega arith)

  -- so once word 0 is cleared it stays 0
  stays_zero : (ss : List Store) → All (λ s. trailer_address g b 0 ≢ s.at) ss → Outcome (performed start ss)
  unfolding start
  stays_zero ss a = inr (inl (zero_refused (performed start ss)
      (length_performed start ss ∙ length-set b (trailer_address g b 0) 0)
      (performed_away start ss (trailer_address g b 0) a ∙ get_or-set_same b (trailer_address g b 0) 0 0 (trailer_on g fit b ok 0 (omega (arith, fit.trailer_fits))))))

  -- the commit
  commit_empties : Empty g (performed (performed start (filling g b)) (commits g b ∷ []))
  unfolding performed start store
  commit_empties = rw (format_stores g fit b ok, performed_append start (filling g b) (commits g b ∷ [])) at (format_empties g fit b ok)

  -- a cut in each of the three epochs
  cut_at : (e : ℕ) (p : ℕ → Bool) → e < 3 → Outcome (performed (performed b (concat (take e (format_epochs g b)))) (chosen p (get_or (format_epochs g b) e [])))
  unfolding All chosen cons_if performed concat store start
  cut_at zero p l = elim (either (p 0)) [
    | inl e ↦ rw e (stays_zero [] tt)
    | inr e ↦ inl (rw e)
  ]
  cut_at (suc zero) p l = stays_zero (chosen p (filling g b)) (all_chosen (λ s. trailer_address g b 0 ≢ s.at) p (filling g b) filling_away)
  cut_at (suc (suc zero)) p l = rw (append-nil (filling g b)) (elim (either (p 0)) [
    | inl e ↦ rw e (inr (inr commit_empties))
    | inr e ↦ rw e (stays_zero (filling g b) filling_away)
  ])
  cut_at (suc (suc (suc e))) p l = absurd (omega (arith, l))

pub format_plan_rule : FormatPlanRule
unfolding format all stores filter
format_plan_rule g fit b ok slice = elim (planned_either (word_count_fault g b) (pairs (format_plan g b)) slice) [
  | inl a ↦ rw a.plans (format_shaped g fit b ok, format_above g fit b ok)
  | inr r ↦ rw r.plans (shaped_none, tt)
]

pub format_rule : FormatRule
unfolding format epochs
format_rule g fit b ok slice x names = elim (planned_either (word_count_fault g b) (pairs (format_plan g b)) slice) [
  | inl a ↦
      let es : epochs (pairs (format_plan g b)) ≡ format_epochs g b = plan_epochs_law g fit b ok in
      let named : x.epoch < 3 = rw (a.plans, es) at names in
      rw (a.plans, standing_epochs (pairs (format_plan g b)) (format_epochs g b) x b es) (cut_at g fit b ok x.epoch x.arrived named)
  | inr r ↦ inl (rw r.plans (standing_none [] refl x b))
]
