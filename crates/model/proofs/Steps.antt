-- From steps to safe plans: what has to be known of each step, and that the plan of such steps obeys the power-cut rule and leaves the board with all
-- steps committed.
use mathlib.Core.Path.{◌≡◌, refl, sym, ap, ◌∙◌}
use mathlib.Core.Logic.{◌≢◌, inl, inr}
use mathlib.Core.Bool.{Bool, false}
use mathlib.Core.List.{List, [], ◌∷◌, ◌++◌}
use Prim.Native.Nat.{ℕ, zero, suc, ◌-◌, ◌<◌}
use native.Mathlib.Omega.{arith}
use lib.ListN.{length, get_or, set, length-set}
use lib.Seq.{take-length}
use lib.Dec.{T}
use borrow.Author.Tests.{eq-eqb, ne_eqb}
use Rattle.model.specs.Lists.{all, concat}
use Rattle.model.specs.Layout.{Layout, Fits, files}
use Rattle.model.specs.Board.{contents, accepted}
use Rattle.model.specs.Store.{Store, performed, epochs}
use Rattle.model.specs.Hidden.{hidden}
use Rattle.model.specs.Plan.{Step, step_epochs, plan_epochs}
use Rattle.model.specs.Cut.{Cut, Names, standing, last_arrived}
use Rattle.model.specs.Safe.{left, decided}
use Rattle.model.specs.Claims.{Shows}
use Rattle.model.proofs.Cases.{decide}
use Rattle.model.proofs.Perform.{All, length_performed, performed_append}
use Rattle.model.proofs.Safety.{left_zero, left_cons, decided_early, decided_same, hidden_shows, Stays, OneTurn, Settled, none_settled, turn_rule}

suc_sub_one : (n : ℕ) → suc n - 1 ≡ n
suc_sub_one n = omega arith

-- ---- Steps on a board

-- the board with a step's stores performed
unfoldable pub committed : List ℕ → Step → List ℕ
committed b p = set (performed b p.hidden) p.commit.at p.commit.value

pub length_committed : (b : List ℕ) (p : Step) → length (committed b p) ≡ length b
unfolding committed
length_committed b p = length-set (performed b p.hidden) p.commit.at p.commit.value ∙ length_performed b p.hidden

-- with those of several steps
unfoldable pub all_committed : List ℕ → List Step → List ℕ
all_committed b [] = b
all_committed b (p ∷ ps) = all_committed (committed b p) ps

-- every file reads as `wanted` says
abbrev pub Reads : Layout → List ℕ → (ℕ → List ℕ) → Type 0
Reads g b wanted = (e : ℕ) → e < files g → contents g b e ≡ wanted e

-- a step whose stores but the last show nothing, and which leaves the board accepted and walks in files that are not touched as they are
pub record SafeStep (g : Layout) (touched : ℕ → Bool) (b : List ℕ) (p : Step) : Type 0 where
  pub hides : T (all (hidden g b) p.hidden)
  pub accepts : T (accepted g (committed b p))
  pub walks : Stays g touched b (committed b p)

-- each of several is one on the board that those before it leave, and all but the last leave every file as it reads
unfoldable pub SafeSteps : Layout → (ℕ → Bool) → List ℕ → List Step → Type 0
SafeSteps g touched b [] = Unit
SafeSteps g touched b (p ∷ ps) = SafeStep g touched b p × (0 < length ps → Reads g (committed b p) (contents g b)) × SafeSteps g touched (committed b p) ps

pub one_step : (g : Layout) (touched : ℕ → Bool) (b : List ℕ) (p : Step) → SafeStep g touched b p → SafeSteps g touched b (p ∷ [])
unfolding SafeSteps
one_step g touched b p s = (s, λ l. absurd (omega arith), tt)

-- ---- The board that they leave

-- the stores of a step, and of those after it
pub steps_stores : (p : Step) (ps : List Step) → concat (plan_epochs (p ∷ ps)) ≡ p.hidden ++ (p.commit ∷ concat (plan_epochs ps))
unfolding plan_epochs step_epochs concat
steps_stores p ps = by p.hidden p.commit
  where
    by : (ss : List Store) (c : Store) → concat (step_epochs ss c ++ plan_epochs ps) ≡ ss ++ (c ∷ concat (plan_epochs ps))
    by [] c = refl
    by (s ∷ ss) c = refl

-- all but the last of a list
unfoldable pub front : {A : Type 0} → List A → List A
front [] = []
front (x ∷ []) = []
front (x ∷ y ∷ xs) = x ∷ front (y ∷ xs)

pub front_last : {A : Type 0} (xs : List A) (x : A) → front (xs ++ (x ∷ [])) ≡ xs
unfolding front
front_last [] x = refl
front_last (y ∷ []) x = refl
front_last (y ∷ z ∷ xs) x = ap (λ (l : List _). y ∷ l) (front_last (z ∷ xs) x)

pub front_all : {A : Type 0} (P : A → Type 0) (xs : List A) (x : A) (ys : List A) → All P xs → P x → All P (front ys) → All P (front (xs ++ (x ∷ ys)))
unfolding front All
front_all P [] x [] a p r = tt
front_all P [] x (y ∷ ys) a p r = (p, r)
front_all P (z ∷ []) x ys a p r = (a.0, front_all P [] x ys tt p r)
front_all P (z ∷ w ∷ xs) x ys a p r = (a.0, front_all P (w ∷ xs) x ys a.1 p r)

pub performed_steps : (b : List ℕ) (ps : List Step) → performed b (concat (plan_epochs ps)) ≡ all_committed b ps
unfolding performed concat plan_epochs committed all_committed
performed_steps b [] = refl
performed_steps b (p ∷ ps) = rw (steps_stores p ps) (performed_append b p.hidden (p.commit ∷ concat (plan_epochs ps)) ∙ performed_steps (committed b p) ps)

pub left_steps : (b : List ℕ) (ps : List Step) → left b (plan_epochs ps) (length (plan_epochs ps)) ≡ all_committed b ps
unfolding left
left_steps b ps = rw (take-length (plan_epochs ps)) (performed_steps b ps)

-- ---- Their last epoch

-- the last epoch is one store
abbrev pub EndsInOne : List (List Store) → Type 0
EndsInOne es = (d : ℕ) → suc d ≡ length es → length (get_or es d []) ≡ 1

ends_step : (ss : List Store) (c : Store) (es : List (List Store)) → EndsInOne es → EndsInOne (step_epochs ss c ++ es)
unfolding step_epochs
ends_step [] c es h zero e = refl
ends_step [] c es h (suc d) e = h d (omega arith)
ends_step (s ∷ ss) c es h zero e = absurd (omega arith)
ends_step (s ∷ ss) c es h (suc zero) e = refl
ends_step (s ∷ ss) c es h (suc (suc d)) e = h d (omega arith)

pub ends_in_one : (ps : List Step) → EndsInOne (plan_epochs ps)
unfolding plan_epochs
ends_in_one [] d e = absurd (omega arith)
ends_in_one (p ∷ ps) d e = ends_step p.hidden p.commit (plan_epochs ps) (ends_in_one ps) d e

pub step_some : (ss : List Store) (c : Store) (es : List (List Store)) → 0 < length (step_epochs ss c ++ es)
unfolding step_epochs
step_some [] c es = omega arith
step_some (s ∷ ss) c es = omega arith

steps_some : (ps : List Step) → 0 < length (plan_epochs ps) → 0 < length ps
unfolding plan_epochs
steps_some [] l = l
steps_some (p ∷ ps) l = omega arith

-- where the last epoch is one store, the last planned store is the store of that epoch
pub decided_last : (ss : List Store) → 0 < length (epochs ss) → EndsInOne (epochs ss) → (x : Cut) → Names ss x → decided (length (epochs ss) - 1) x ≡ last_arrived ss x
unfolding last_arrived
decided_last ss l one x x_lt = elim (decide (suc x.epoch) (length (epochs ss))) [
  | inl e ↦ decided_same (length (epochs ss) - 1) x (omega arith) ∙ sym (last e)
  | inr n ↦ decided_early (length (epochs ss) - 1) x (omega arith) ∙ sym (earlier n)
]
  where
    last : suc x.epoch ≡ length (epochs ss) → last_arrived ss x ≡ x.arrived 0
    last e = rw (eq-eqb (suc x.epoch) (length (epochs ss)) e, one x.epoch e)

    earlier : suc x.epoch ≢ length (epochs ss) → last_arrived ss x ≡ false
    earlier n = rw (ne_eqb (suc x.epoch) (length (epochs ss)) n)

-- ---- Safe plans, one epoch at a time

-- what is asked of an epoch e that makes c of b; where `keeping` holds it must not change any file
record SafeEpoch (g : Layout) (touched : ℕ → Bool) (b c : List ℕ) (e : List Store) (keeping : Type 0) : Type 0 where
  hides : 1 < length e → T (all (hidden g b) e)
  accepts : length e ≡ 1 → T (accepted g c)
  keeps : length e ≡ 1 → keeping → Reads g c (contents g b)
  walks : length e ≡ 1 → Stays g touched b c

module _ (g : Layout) (touched : ℕ → Bool) where
  safe_each : (b : List ℕ) (es : List (List Store)) (d : ℕ) → ((i : ℕ) → i < length es → SafeEpoch g touched (left b es i) (left b es (suc i)) (get_or es i []) (i ≢ d)) → OneTurn g touched b es d
  safe_each b es d s = record { hides = λ i l. (s i l).hides; accepts = λ i l. (s i l).accepts; keeps = λ i l. (s i l).keeps; walks = λ i l. (s i l).walks }

  -- one more epoch in front of a plan in which the last epoch decides
  safe_cons : (b : List ℕ) (e : List Store) (es : List (List Store)) → SafeEpoch g touched b (performed b e) e (0 < length es)
      → OneTurn g touched (performed b e) es (length es - 1) → OneTurn g touched b (e ∷ es) (length es)
  safe_cons b e es s t = safe_each b (e ∷ es) (length es) each
    where
      each : (i : ℕ) → i < suc (length es) → SafeEpoch g touched (left b (e ∷ es) i) (left b (e ∷ es) (suc i)) (get_or (e ∷ es) i []) (i ≢ length es)
      each zero l = rw (left_zero b (e ∷ es), left_cons b e es 0, left_zero (performed b e) es)
          record { hides = s.hides; accepts = s.accepts; keeps = λ one n. s.keeps one (omega arith); walks = s.walks }
      each (suc i) l =
          let m : i < length es = omega arith in
          rw (left_cons b e es i, left_cons b e es (suc i))
          record { hides = t.hides i m; accepts = t.accepts i m; keeps = λ one n. t.keeps i m one (omega arith); walks = t.walks i m }

module _ (g : Layout) (fit : Fits g) (touched : ℕ → Bool) where
  module _ (b : List ℕ) (ok : T (accepted g b)) where
    hidden_epoch : (ss : List Store) → T (all (hidden g b) ss) → (keeping : Type 0) → SafeEpoch g touched b (performed b ss) ss keeping
    hidden_epoch ss h keeping =
        let s : Shows g b (performed b ss) = hidden_shows g fit b ok ss h in
        record { hides = λ l. h; accepts = λ one. rw s.boards ok; keeps = λ one t. s.reads; walks = λ one e u z. s.walks e u }

    commit_epoch : (p : Step) → SafeStep g touched b p → (keeping : Type 0) → (keeping → Reads g (committed b p) (contents g b))
        → SafeEpoch g touched (performed b p.hidden) (committed b p) (p.commit ∷ []) keeping
    commit_epoch p safe keeping kept =
        let s : Shows g b (performed b p.hidden) = hidden_shows g fit b ok p.hidden safe.hides in
        record {
          hides = λ l. absurd (omega arith);
          accepts = λ one. safe.accepts;
          keeps = λ one t e u. kept t e u ∙ sym (s.reads e u);
          walks = λ one e u z n. safe.walks e u z n ∙ sym (s.walks e u n);
        }

    -- the epoch of hidden stores in front of a commit, if there are any
    safe_hidden : (ss : List Store) → T (all (hidden g b) ss) → (c : Store) (es : List (List Store)) → OneTurn g touched (performed b ss) ((c ∷ []) ∷ es) (length es)
        → OneTurn g touched b (step_epochs ss c ++ es) (length (step_epochs ss c ++ es) - 1)
    unfolding step_epochs performed
    safe_hidden [] h c es t = rw (suc_sub_one (length es)) t
    safe_hidden (s ∷ ss) h c es t = rw (suc_sub_one (suc (length es))) (safe_cons g touched b (s ∷ ss) ((c ∷ []) ∷ es) (hidden_epoch (s ∷ ss) h (0 < suc (length es))) (rw (suc_sub_one (length es)) t))

    safe_step : (p : Step) → SafeStep g touched b p → (es : List (List Store)) → (0 < length es → Reads g (committed b p) (contents g b))
        → OneTurn g touched (committed b p) es (length es - 1) → OneTurn g touched b (step_epochs p.hidden p.commit ++ es) (length (step_epochs p.hidden p.commit ++ es) - 1)
    unfolding committed performed
    safe_step p safe es kept t = safe_hidden p.hidden safe.hides p.commit es
        (safe_cons g touched (performed b p.hidden) (p.commit ∷ []) es (commit_epoch p safe (0 < length es) kept) t)

  pub safe_steps : (b : List ℕ) → T (accepted g b) → (ps : List Step) → SafeSteps g touched b ps → OneTurn g touched b (plan_epochs ps) (length (plan_epochs ps) - 1)
  unfolding plan_epochs SafeSteps
  safe_steps b ok [] s = safe_each g touched b [] (0 - 1) (λ i l. absurd (omega arith))
  safe_steps b ok (p ∷ ps) s = safe_step b ok p s.0 (plan_epochs ps) (λ l. s.1 (steps_some ps l)) (safe_steps (committed b p) s.0.accepts ps s.2)

  -- what is wanted, said in another way
  pub settled_as : (b b' : List ℕ) (v w : ℕ → List ℕ) (ss : List Store) (arrived : Bool) → ((e : ℕ) → e < files g → v e ≡ w e) → Settled g touched b b' v ss arrived → Settled g touched b b' w ss arrived
  settled_as b b' v w ss arrived same s = record {
    board = s.board;
    walks = s.walks;
    reads = λ e u. rw (← (same e u)) (s.reads e u);
    planned = λ e u n. s.planned e u (λ z. n (z ∙ same e u));
  }

  -- a plan of such steps obeys the power-cut rule
  pub steps_rule : (b : List ℕ) → T (accepted g b) → (ps : List Step) → SafeSteps g touched b ps → (wanted : ℕ → List ℕ) → Reads g (all_committed b ps) wanted
      → (ss : List Store) → epochs ss ≡ plan_epochs ps → (x : Cut) → Names ss x → Settled g touched b (standing ss x b) wanted ss (last_arrived ss x)
  unfolding plan_epochs all_committed
  steps_rule b ok [] s wanted reads ss e x x_lt = settled_as b (standing ss x b) (contents g b) wanted ss (last_arrived ss x) reads (none_settled ss e b g touched ok x (last_arrived ss x))
  steps_rule b ok (p ∷ ps) s wanted reads ss e x x_lt =
      let safe : OneTurn g touched b (epochs ss) (length (epochs ss) - 1) = rw e (safe_steps b ok (p ∷ ps) s) in
      let some : 0 < length (epochs ss) = rw e (step_some p.hidden p.commit (plan_epochs ps)) in
      let ends : EndsInOne (epochs ss) = rw e (ends_in_one (p ∷ ps)) in
      let whole : left b (epochs ss) (length (epochs ss)) ≡ all_committed b (p ∷ ps) = rw e (left_steps b (p ∷ ps)) in
      settled_as b (standing ss x b) (contents g (all_committed b (p ∷ ps))) wanted ss (last_arrived ss x) reads
      (rw (whole, decided_last ss some ends x x_lt) at (turn_rule g fit touched b ok ss (length (epochs ss) - 1) safe x x_lt))

-- performed whole, it leaves the board accepted, and those walks as they are
pub steps_whole : (g : Layout) (touched : ℕ → Bool) (b : List ℕ) → T (accepted g b) → (ps : List Step) → SafeSteps g touched b ps → T (accepted g (all_committed b ps)) × Stays g touched b (all_committed b ps)
unfolding all_committed SafeSteps
steps_whole g touched b ok [] s = (ok, λ e u z n. refl)
steps_whole g touched b ok (p ∷ ps) s =
    let w = steps_whole g touched (committed b p) s.0.accepts ps s.2 in
    (w.0, λ e u z n. w.1 e u z n ∙ s.0.walks e u z n)
