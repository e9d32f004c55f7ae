-- What is promised of every write and length change, in any order of taking blocks, from the fact that its plan is made of good steps: the power-cut
-- rule, accuracy, the shape of plans, the blocks taken and given up.
use Rattle.std.specs.Prelude.{Ok, Err}
use mathlib.Core.Path.{◌≡◌, refl, ap, ◌∙◌}
use mathlib.Core.Logic.{◌≢◌, ◌⊎◌, inl, inr, ◌↔◌}
use mathlib.Core.Bool.{Bool}
use mathlib.Core.List.{List, [], ◌∷◌, ◌++◌, map}
use Prim.Native.Nat.{ℕ, ◌+◌, ◌-◌, ◌/◌, ◌^◌, ◌≤◌, ◌<◌}
use native.Mathlib.Omega.{arith}
use lib.ListN.{length, take}
use lib.Dec.{T, leb, ltb}
use borrow.Author.Tests.{leb-false, ltb-false, ne_eqb}
use Rattle.model.specs.declared.Fault.TheVariants.{FileNumber, End, FreeBlocks}
use Rattle.model.specs.declared.Fault.{Fault}
use Rattle.model.specs.Lists.{tabulate, all, filter, concat, member, distinct, occ}
use Rattle.model.specs.Layout.{Layout, Fits, files}
use Rattle.model.specs.Words.{Bytes}
use Rattle.model.specs.Board.{greatest, walk_to, contents, live_blocks, free, in_range, accepted}
use Rattle.model.specs.Store.{Store, performed, stores, epochs, fenced}
use Rattle.model.specs.Hidden.{hidden}
use Rattle.model.specs.Plan.{Step, step_epochs, plan_epochs, Plan, pairs}
use Rattle.model.specs.Change.{write_plan}
use Rattle.model.specs.Answers.{Faults, unless_refused, Answer}
use Rattle.model.specs.Calls.{board_faults, file_faults, check_answer, Planned, planned, lowest, write_faults, write_from, set_length}
use Rattle.model.specs.Cut.{Change, writing, length_to, file_of, called_from, called, plan_from, plan_for, given_up, plan_of, altered, after, Cut, Names, standing, last_arrived}
use Rattle.model.specs.Claims.{Shaped, CutSafe, Altered, PlanRule, FreshRule, PowerCutRule, AccuracyRule}
use Rattle.model.specs.Safe.{left, SafePlan}
use Rattle.model.specs.Orders.{Order, Promised, OrderRule}
use Rattle.model.proofs.Cases.{is_true}
use Rattle.model.proofs.Counting.{occ_distinct, member_occ}
use Rattle.model.proofs.Perform.{All, all_append, Plain, stores_fenced}
use Rattle.model.proofs.Addresses.{addresses, all_left, all_right, all_map, all_holds, all_concat}
use Rattle.model.proofs.Refusals.{not_refused, check_accepts}
use Rattle.model.proofs.Epochs.{Full, epochs_fenced, shaped, shaped_none, Passed, answered_passed, Refusing, planned_either, standing_none}
use Rattle.model.proofs.Splice.{bytes_small}
use Rattle.model.proofs.Built.{used, used_first}
use Rattle.model.proofs.Shown.{count_kept}
use Rattle.model.proofs.Accepting.{in_range_law, facts, address_on_board}
use Rattle.model.proofs.Census.{member_free}
use Rattle.model.proofs.Supplied.{supply_order, lowest_rule, lowest_first}
use Rattle.model.proofs.HiddenStores.{hidden_in_range}
use Rattle.model.proofs.Safety.{none_safe, Stays, OneTurn, Settled, settled_one, turn_safe}
use Rattle.model.proofs.Steps.{committed, length_committed, all_committed, Reads, SafeSteps, one_step, steps_stores, front, front_last, front_all, performed_steps, left_steps, safe_steps, steps_rule, steps_whole}
use Rattle.model.proofs.GoodSteps.{StepTo, InBlocks, the_file, only_file, only_file_law, only_others, step_safe, GoodSteps}
use Rattle.model.proofs.StepBlocks.{blocks_of}
use Rattle.model.proofs.Writing.{Writing}
use Rattle.model.proofs.Plans.{write_good, length_good, GoodPlan}

-- ---- Good steps are safe, and leave all files reading as wanted

module _ (g : Layout) (touched : ℕ → Bool) (wanted : ℕ → List ℕ) (Last : ℕ → Type 0) where
  pub good_safe_steps : (b : List ℕ) (ps : List Step) → GoodSteps g touched b ps wanted Last → SafeSteps g touched b ps
  unfolding GoodSteps SafeSteps
  good_safe_steps b [] s = tt
  good_safe_steps b (p ∷ []) s = one_step g touched b p (step_safe s)
  good_safe_steps b (p ∷ q ∷ ps) s = (step_safe s.0, λ l. s.0.reads, good_safe_steps (committed b p) (q ∷ ps) s.1)

  pub good_reads : (b : List ℕ) (ps : List Step) → GoodSteps g touched b ps wanted Last → Reads g (all_committed b ps) wanted
  unfolding GoodSteps all_committed
  good_reads b [] s = s
  good_reads b (p ∷ []) s = s.reads
  good_reads b (p ∷ q ∷ ps) s = good_reads (committed b p) (q ∷ ps) s.1

-- ---- Their epochs

-- the store goes to an address that At allows
abbrev Inside : (ℕ → Type 0) → Store → Type 0
Inside At s = At s.at

-- an epoch of such stores, no two of them to one word
record GoodEpoch (At : ℕ → Type 0) (e : List Store) : Type 0 where
  full : Full e
  once : T (distinct (addresses e))
  within : All (Inside At) e

-- where a plan may store to
pub record Allowed (g : Layout) (b : List ℕ) (Last : ℕ → Type 0) : Type 0 where
  pub blocks : (a : ℕ) → InBlocks g b a → Last a
  pub on_board : (a : ℕ) → Last a → a < length b

-- blocks 1 to B − 2
pub allowed_blocks : (g : Layout) → Fits g → (b : List ℕ) → T (accepted g b) → Allowed g b (InBlocks g b)
allowed_blocks g fit b t = record { blocks = λ a r. r; on_board = λ a r. address_on_board g fit b (facts g fit b t).sizes a (omega (arith, r.1)) }

module _ (Last : ℕ → Type 0) where
  one_store : (s : Store) → Inside Last s → GoodEpoch Last (s ∷ [])
  unfolding All distinct member
  one_store s r = record { full = omega arith; once = tt; within = (r, tt) }

  step_epochs_law : (ss : List Store) (s : Store) → ((x : ℕ) → occ x (addresses ss) ≤ 1) → All (Inside Last) ss → Inside Last s → All (GoodEpoch Last) (step_epochs ss s)
  unfolding All step_epochs
  step_epochs_law [] s once rs r = (one_store s r, tt)
  step_epochs_law (h ∷ ss) s once rs r = (record { full = omega arith; once = occ_distinct (addresses (h ∷ ss)) once; within = rs }, (one_store s r, tt))

-- c is a board along the way, as long as b, so what is in range on it is in range on b
in_blocks : (g : Layout) (b c : List ℕ) → length c ≡ length b → (a : ℕ) → InBlocks g c a → InBlocks g b a
in_blocks g b c e a r = rw (count_kept g c b e) at r

hidden_blocks : (g : Layout) → Fits g → (b c : List ℕ) → length c ≡ length b → T (accepted g c) → (ss : List Store) → All (λ s. T (hidden g c s)) ss → All (λ s. InBlocks g b s.at) ss
hidden_blocks g fit b c e t ss h = all_map (λ x. T (hidden g c x)) (λ x. InBlocks g b x.at) (λ x y. in_blocks g b c e x.at (hidden_in_range g fit c t x y)) ss h

module _ (g : Layout) (fit : Fits g) (b : List ℕ) (Last : ℕ → Type 0) (allowed : Allowed g b Last) where
  module _ (touched : ℕ → Bool) (wanted : ℕ → List ℕ) where
    good_step_epochs : (c : List ℕ) → length c ≡ length b → T (accepted g c) → (p : Step) (w : ℕ → List ℕ) (At : ℕ → Type 0) → ((a : ℕ) → At a → Last a) → StepTo g touched c p w At
        → All (GoodEpoch Last) (step_epochs p.hidden p.commit)
    good_step_epochs c e t p w At at s = step_epochs_law Last p.hidden p.commit s.once
        (all_map (λ x. InBlocks g b x.at) (Inside Last) (λ x r. allowed.blocks x.at r) p.hidden (hidden_blocks g fit b c e t p.hidden s.hides)) (at p.commit.at s.within)

    good_epochs : (c : List ℕ) → length c ≡ length b → T (accepted g c) → (ps : List Step) → GoodSteps g touched c ps wanted Last → All (GoodEpoch Last) (plan_epochs ps)
    unfolding GoodSteps plan_epochs All
    good_epochs c e t [] s = tt
    good_epochs c e t (p ∷ []) s = all_append (GoodEpoch Last) (step_epochs p.hidden p.commit) [] (good_step_epochs c e t p wanted Last (λ a r. r) s) tt
    good_epochs c e t (p ∷ q ∷ ps) s = all_append (GoodEpoch Last) (step_epochs p.hidden p.commit) (plan_epochs (q ∷ ps))
        (good_step_epochs c e t p (contents g c) (InBlocks g c) (λ a r. allowed.blocks a (in_blocks g b c e a r)) s.0)
        (good_epochs (committed c p) (length_committed c p ∙ e) s.0.board (q ∷ ps) s.1)

    -- all stores but the last go to blocks 1 to B − 2
    good_front : (c : List ℕ) → length c ≡ length b → T (accepted g c) → (ps : List Step) → GoodSteps g touched c ps wanted Last → All (λ s. InBlocks g b s.at) (front (concat (plan_epochs ps)))
    unfolding GoodSteps plan_epochs concat All front
    good_front c e t [] s = tt
    good_front c e t (p ∷ []) s = rw (steps_stores p [], front_last p.hidden p.commit) (hidden_blocks g fit b c e t p.hidden s.hides)
    good_front c e t (p ∷ q ∷ ps) s = rw (steps_stores p (q ∷ ps))
        (front_all (λ s. InBlocks g b s.at) p.hidden p.commit (concat (plan_epochs (q ∷ ps))) (hidden_blocks g fit b c e t p.hidden s.0.hides) (in_blocks g b c e p.commit.at s.0.within)
        (good_front (committed c p) (length_committed c p ∙ e) s.0.board (q ∷ ps) s.1))

-- ---- A plan of good steps

module _ (g : Layout) (fit : Fits g) (touched : ℕ → Bool) (b : List ℕ) (t : T (accepted g b)) (ps : List Step) (wanted : ℕ → List ℕ) (Last : ℕ → Type 0) (allowed : Allowed g b Last) (good : GoodSteps g touched b ps wanted Last) where
  all_good : All (GoodEpoch Last) (plan_epochs ps)
  all_good = good_epochs g fit b Last allowed touched wanted b refl t ps good

  all_full : All Full (plan_epochs ps)
  all_full = all_map (GoodEpoch Last) Full (λ e h. h.full) (plan_epochs ps) all_good

  -- the board is too short for a barrier's address
  no_barrier : (s : Store) → Inside Last s → s.at ≢ 2 ^ 64 - 1
  no_barrier s r = omega (arith, (facts g fit b t).sizes.below, allowed.on_board s.at r)

  all_plain : All Plain (plan_epochs ps)
  all_plain = all_map (GoodEpoch Last) Plain (λ e h. all_map (Inside Last) (λ s. s.at ≢ 2 ^ 64 - 1) no_barrier e h.within) (plan_epochs ps) all_good

  pub plan_epochs_law : epochs (fenced (plan_epochs ps)) ≡ plan_epochs ps
  plan_epochs_law = epochs_fenced (plan_epochs ps) all_full all_plain

  pub plan_stores : stores (fenced (plan_epochs ps)) ≡ concat (plan_epochs ps)
  plan_stores = stores_fenced (plan_epochs ps) all_plain

  pub plan_shaped : Shaped (fenced (plan_epochs ps))
  plan_shaped = shaped (plan_epochs ps) all_full all_plain (all_map (GoodEpoch Last) (λ e. T (distinct (addresses e))) (λ e h. h.once) (plan_epochs ps) all_good)

  pub plan_within : All (λ s. Last s.at) (stores (fenced (plan_epochs ps)))
  plan_within =
      let each : All (All (λ s. Last s.at)) (plan_epochs ps) = all_map (GoodEpoch Last) (All (λ s. Last s.at)) (λ e h. h.within) (plan_epochs ps) all_good in
      rw plan_stores (all_concat (λ s. Last s.at) (plan_epochs ps) each)

  pub plan_front : All (λ s. InBlocks g b s.at) (front (stores (fenced (plan_epochs ps))))
  plan_front = rw plan_stores (good_front g fit b Last allowed touched wanted b refl t ps good)

  -- performed whole, it leaves the board accepted, walks in files that are not touched as they are, and all files reading as wanted
  pub plan_reads : let b' : List ℕ = performed b (stores (fenced (plan_epochs ps))) in (T (accepted g b') × Stays g touched b b') × Reads g b' wanted
  plan_reads = rw (plan_stores, performed_steps b ps) (steps_whole g touched b t ps (good_safe_steps g touched wanted Last b ps good), good_reads g touched wanted Last b ps good)

  -- its last epoch is the one that changes what is read
  pub plan_turn : let ss : List Store = fenced (plan_epochs ps) in OneTurn g touched b (epochs ss) (length (epochs ss) - 1)
  plan_turn = rw plan_epochs_law (safe_steps g fit touched b t ps (good_safe_steps g touched wanted Last b ps good))

  pub plan_left_law : let ss : List Store = fenced (plan_epochs ps) in Reads g (left b (epochs ss) (length (epochs ss))) wanted
  plan_left_law = rw (plan_epochs_law, left_steps b ps) (good_reads g touched wanted Last b ps good)

  -- cut anywhere, it obeys the power-cut rule
  pub plan_cut : (x : Cut) → let ss : List Store = fenced (plan_epochs ps) in Names ss x → Settled g touched b (standing ss x b) wanted ss (last_arrived ss x)
  plan_cut = steps_rule g fit touched b t ps (good_safe_steps g touched wanted Last b ps good) wanted (good_reads g touched wanted Last b ps good) (fenced (plan_epochs ps)) plan_epochs_law

-- a plan of one file
module _ (g : Layout) (fit : Fits g) (b : List ℕ) (t : T (accepted g b)) (f : ℕ) (f_lt : f < files g) (wanted : List ℕ) (p : Plan)
    (good : GoodSteps g (the_file f) b p.steps (only_file f wanted (contents g b)) (InBlocks g b)) where
  abbrev now : ℕ → List ℕ
  now = only_file f wanted (contents g b)

  abbrev all_in : Allowed g b (InBlocks g b)
  all_in = allowed_blocks g fit b t

  pub one_altered : Altered g b (performed b (stores (pairs p))) f wanted
  unfolding pairs
  one_altered =
      let r = plan_reads g fit (the_file f) b t p.steps now (InBlocks g b) all_in good in
      record { board = r.0.0; file = r.1 f f_lt ∙ only_file_law f wanted (contents g b); others = λ e u n. r.1 e u ∙ only_others f wanted (contents g b) e n }

  pub one_cut : (x : Cut) → Names (pairs p) x → CutSafe g b (standing (pairs p) x b) f wanted (pairs p) (last_arrived (pairs p) x)
  unfolding pairs
  one_cut x u = rw (only_file_law f wanted (contents g b)) at (settled_one g (the_file f) b (standing (pairs p) x b) now (pairs p) (last_arrived (pairs p) x)
      (plan_cut g fit (the_file f) b t p.steps now (InBlocks g b) all_in good x u) f f_lt (λ e v n. only_others f wanted (contents g b) e n))

  -- it is a safe plan
  pub one_safe : SafePlan g b f (epochs (pairs p)) (length (epochs (pairs p)) - 1)
  unfolding pairs
  one_safe = turn_safe g fit (the_file f) b t (epochs (pairs p)) (length (epochs (pairs p)) - 1) (plan_turn g fit (the_file f) b t p.steps now (InBlocks g b) all_in good) f f_lt
      (λ e u n. plan_left_law g fit (the_file f) b t p.steps now (InBlocks g b) all_in good e u ∙ only_others f wanted (contents g b) e n)

  pub one_stays : (x : Cut) → Names (pairs p) x → (e : ℕ) → e < files g → e ≢ f → (i : ℕ) → walk_to g (standing (pairs p) x b) e i ≡ walk_to g b e i
  unfolding pairs
  one_stays x u e e-lt n = (plan_cut g fit (the_file f) b t p.steps now (InBlocks g b) all_in good x u).walks e e-lt (ne_eqb e f n)

  pub one_stores : stores (pairs p) ≡ concat (plan_epochs p.steps)
  unfolding pairs
  one_stores = plan_stores g fit (the_file f) b t p.steps now (InBlocks g b) all_in good

  pub one_shaped : Shaped (pairs p) × T (all (λ s. in_range g b (s.at / g.words)) (stores (pairs p)))
  unfolding pairs
  one_shaped = (
    plan_shaped g fit (the_file f) b t p.steps now (InBlocks g b) all_in good,
    all_holds (λ s. in_range g b (s.at / g.words)) (stores (pairs p)) (all_map (λ s. InBlocks g b s.at) (λ s. T (in_range g b (s.at / g.words))) (λ s r. in_range_law g b (s.at / g.words) r)
        (stores (pairs p)) (plan_within g fit (the_file f) b t p.steps now (InBlocks g b) all_in good)),
  )

-- ---- Calls

-- the call is done, and its plan alters its file as it asks
pub record Doing (g : Layout) (fresh : ℕ → ℕ) (b : List ℕ) (c : Change) (p : Planned) : Type 0 where
  pub file_in : file_of c < files g
  pub good : GoodPlan g b (file_of c) fresh (altered c (contents g b (file_of c))) (given_up g fresh b c) (plan_from g fresh b c)
  pub answers : p.answer ≡ Ok (length (pairs (plan_from g fresh b c)))
  pub plans : plan_of p ≡ pairs (plan_from g fresh b c)

-- so it is, or refused, where its plan is good once no fault was found
doing_either : (g : Layout) (fresh : ℕ → ℕ) (b : List ℕ) (c : Change) (faults : Faults) (slice : List ℕ)
    → (All Passed faults → (file_of c < files g) × GoodPlan g b (file_of c) fresh (altered c (contents g b (file_of c))) (given_up g fresh b c) (plan_from g fresh b c))
    → let p : Planned = planned faults (pairs (plan_from g fresh b c)) slice in
    Doing g fresh b c p ⊎ Refusing p
doing_either g fresh b c faults slice good = elim (planned_either faults (pairs (plan_from g fresh b c)) slice) [
  | inl d ↦ inl (record { file_in = (good d.passed).0; good = (good d.passed).1; answers = d.answers; plans = d.plans })
  | inr r ↦ inr r
]

pub file_passed : (g : Layout) (b : List ℕ) (f : ℕ) → All Passed (file_faults g b f) → f < files g
unfolding file_faults All
file_passed g b f h = leb-false (files g) f (all_right Passed (board_faults g b) ((FileNumber, leb (files g) f) ∷ []) h).0

-- past the faults of a file the board is accepted
pub file_accepts : (g : Layout) (b : List ℕ) (f : ℕ) → All Passed (file_faults g b f) → T (accepted g b)
unfolding file_faults check_answer
file_accepts g b f h = check_accepts g b (answered_passed (board_faults g b) 0 (all_left Passed (board_faults g b) ((FileNumber, leb (files g) f) ∷ []) h))

-- what holds of a write that no fault turns away
pub write_passed : {g : Layout} → Fits g → {b : List ℕ} → T (accepted g b) → (f o : ℕ) (new : Bytes) (p : Plan) → All Passed (write_faults g b f o new.values p)
    → Writing g b f o new.values × (p.taken ≤ length (free g b))
unfolding write_faults All
write_passed {g} fit {b} t f o new p h =
    let end : ℕ = o + length new.values in
    let own : Faults = (End, ltb (greatest g) end) ∷ (FreeBlocks, ltb (length (free g b)) p.taken) ∷ [] in
    let rest : All Passed own = all_right Passed (file_faults g b f) own h in (
      record {
        on = record { fit = fit; board = t; file = file_passed g b f (all_left Passed (file_faults g b f) own h) };
        small = bytes_small new.values new.small;
        most = ltb-false (greatest g) end rest.0;
      },
      ltb-false (length (free g b)) p.taken rest.1.0,
    )

after_done : (c : Change) (before : List ℕ) {a : Answer} {n : ℕ} → a ≡ Ok n → after c a before ≡ altered c before
unfolding after unless_refused
after_done c before e = rw e

after_refused : (c : Change) (before : List ℕ) {a : Answer} {f : Fault} → a ≡ Err f → after c a before ≡ before
unfolding after unless_refused
after_refused c before e = rw e

module _ (g : Layout) (fit : Fits g) (b : List ℕ) (t : T (accepted g b)) (fresh : ℕ → ℕ) (order : Order g b fresh) where
  -- every call is done by good steps or refused, and without a plan then
  pub call_either : (c : Change) (slice : List ℕ) → let p : Planned = called_from g fresh b c slice in Doing g fresh b c p ⊎ Refusing p
  unfolding called_from write_from set_length file_of altered plan_from given_up All
  call_either (writing f o new) slice =
      let q : Plan = write_plan g fresh b f o new.values in
      doing_either g fresh b (writing f o new) (write_faults g b f o new.values q) slice (λ h.
      let ok = write_passed fit t f o new q h in
      (ok.0.on.file, write_good ok.0 (supply_order g b fresh order) ok.1))
  call_either (length_to f n) slice =
      let own : Faults = (End, ltb (greatest g) n) ∷ [] in
      doing_either g fresh b (length_to f n) (file_faults g b f ++ own) slice (λ h.
      let file : f < files g = file_passed g b f (all_left Passed (file_faults g b f) own h) in
      (file, length_good (record { fit = fit; board = t; file = file }) n (ltb-false (greatest g) n (all_right Passed (file_faults g b f) own h).0) fresh))

  module _ (c : Change) where
    abbrev p : Plan
    p = plan_from g fresh b c

    abbrev before : List ℕ
    before = contents g b (file_of c)

    -- a call that is done
    module _ (slice : List ℕ) (d : Doing g fresh b c (called_from g fresh b c slice)) where
      stores_are : stores (pairs p) ≡ concat (plan_epochs p.steps)
      stores_are = one_stores g fit b t (file_of c) d.file_in (altered c before) p d.good.steps_good

      takes_are : (k : ℕ) → T (member k (free g b)) → T (member k (map (λ s. s.at / g.words) (stores (pairs p)))) ↔ T (member k (tabulate p.taken fresh))
      takes_are k m =
          let takes = d.good.takes k (member_free g b k (is_true (member k (free g b)) m)).2 in
          let stored-to : List ℕ = blocks_of g (concat (plan_epochs p.steps)) in
          let taken : List ℕ = tabulate p.taken fresh in
          let counted : occ k taken ≡ used fresh k 0 p.taken = used_first fresh k p.taken in
          rw stores_are (λ y. (member_occ k taken).1 (rw counted (takes.0 ((member_occ k stored-to).0 y))), λ y. (member_occ k stored-to).1 (takes.1 (rw (← counted) ((member_occ k taken).0 y))))

      lives_are : (q : ℕ) → occ q (live_blocks g (performed b (stores (pairs p)))) + occ q (given_up g fresh b c) ≡ occ q (live_blocks g b) + occ q (tabulate p.taken fresh)
      lives_are q = rw (stores_are, performed_steps b p.steps, used_first fresh q p.taken) (d.good.lives q)

      done_promised : Promised g fresh b c slice
      done_promised = record {
        shaped = rw d.plans (one_shaped g fit b t (file_of c) d.file_in (altered c before) p d.good.steps_good);
        takes = rw d.plans (λ some k m. takes_are k m);
        safe = rw d.plans (one_safe g fit b t (file_of c) d.file_in (altered c before) p d.good.steps_good);
        cuts = rw (after_done c before d.answers, d.plans) (one_cut g fit b t (file_of c) d.file_in (altered c before) p d.good.steps_good);
        stays = rw d.plans (one_stays g fit b t (file_of c) d.file_in (altered c before) p d.good.steps_good);
        alters = rw (after_done c before d.answers, d.plans) (one_altered g fit b t (file_of c) d.file_in (altered c before) p d.good.steps_good);
        lives = rw d.plans (λ n e. lives_are);
      }

    -- and one that is refused
    refused_promised : (slice : List ℕ) → Refusing (called_from g fresh b c slice) → Promised g fresh b c slice
    unfolding epochs performed stores filter all
    refused_promised slice r = record {
      shaped = rw r.plans (shaped_none, tt);
      takes = rw r.plans (λ some. absurd (omega arith));
      safe = rw r.plans (record { hides = λ i l. absurd (omega arith); accepts = λ i l. absurd (omega arith); keeps = λ i l. absurd (omega arith); others = λ i l. absurd (omega arith) });
      cuts = rw (after_refused c before r.answers, r.plans) (λ x l. none_safe [] refl b g t (file_of c) x (last_arrived [] x));
      stays = rw r.plans (λ x l e u n i. ap (λ (c : List ℕ). walk_to g c e i) (standing_none [] refl x b));
      alters = rw (after_refused c before r.answers, r.plans) record { board = t; file = refl; others = λ e l n. refl };
      lives = λ n e. absurd (not_refused e r.answers);
    }

pub order_rule : OrderRule
order_rule g fit b t fresh order c slice = elim (call_either g fit b t fresh order c slice) [
  | inl d ↦ done_promised g fit b t fresh order c slice d
  | inr r ↦ refused_promised g fit b t fresh order c slice r
]

-- ---- With the lowest blocks

lowest_promised : (g : Layout) → Fits g → (b : List ℕ) → T (accepted g b) → (c : Change) (slice : List ℕ) → Promised g (lowest g b) b c slice
lowest_promised g fit b t c slice = order_rule g fit b t (lowest g b) (lowest_rule g b) c slice

pub power_cut_rule : PowerCutRule
unfolding called
power_cut_rule g fit b t c slice = (lowest_promised g fit b t c slice).cuts

pub accuracy_rule : AccuracyRule
unfolding called
accuracy_rule g fit b t c slice = (lowest_promised g fit b t c slice).alters

pub plan_rule : PlanRule
unfolding called
plan_rule g fit b t c slice = (lowest_promised g fit b t c slice).shaped

-- its free blocks taken are the first of them
pub fresh_rule : FreshRule
unfolding called plan_for
fresh_rule g fit b t c slice some k m =
    let n : ℕ = (plan_for g b c).taken in
    let same : occ k (tabulate n (lowest g b)) ≡ occ k (take n (free g b)) = lowest_first g b k n (member_free g b k (is_true (member k (free g b)) m)).0 in
    let takes = (lowest_promised g fit b t c slice).takes some k m in (
      λ y. (member_occ k (take n (free g b))).1 (rw (← same) ((member_occ k (tabulate n (lowest g b))).0 (takes.0 y))),
      λ y. takes.1 ((member_occ k (tabulate n (lowest g b))).1 (rw same ((member_occ k (take n (free g b))).0 y))),
    )
