-- A step of a plan that is as it must be: its hidden stores are hidden and go to different words, its commit leaves the board accepted, the file
-- reading as wanted and the others as before.
use mathlib.Core.Path.{◌≡◌, refl, sym, ◌∙◌}
use mathlib.Core.Logic.{◌≢◌, inl, inr}
use mathlib.Core.Bool.{Bool, cond, false≢true}
use mathlib.Core.List.{List, [], ◌∷◌}
use Prim.Native.Nat.{ℕ, ◌+◌, ◌/◌, ◌≤◌, ◌<◌}
use native.Mathlib.Omega.{arith}
use lib.ListN.{length, set}
use lib.Dec.{T, eqb}
use borrow.Author.Tests.{eq-eqb, ne_eqb}
use Rattle.model.specs.Lists.{occ}
use Rattle.model.specs.Layout.{Layout, Fits}
use Rattle.model.specs.Board.{contents, accepted, live_blocks}
use Rattle.model.specs.Store.{Store, performed}
use Rattle.model.specs.Hidden.{hidden}
use Rattle.model.specs.Plan.{Step}
use Rattle.model.specs.Fresh.{Page, stored}
use Rattle.model.proofs.Cases.{decide}
use Rattle.model.proofs.Perform.{All}
use Rattle.model.proofs.Addresses.{addresses, Stands, all_map, all_holds, performed_holds, stands_set, held_of_all}
use Rattle.model.proofs.Built.{held}
use Rattle.model.proofs.Shown.{Same}
use Rattle.model.proofs.Accepting.{Ranged, facts, address_on_board}
use Rattle.model.proofs.Commits.{Outcome}
use Rattle.model.proofs.HiddenStores.{hidden_in_range, hidden_all_same}
use Rattle.model.proofs.Supplied.{Supply, stored_hidden, stored_apart, stored_not_live}
use Rattle.model.proofs.Safety.{Stays}
use Rattle.model.proofs.Steps.{committed, Reads, SafeStep}

pub record GoodStep (g : Layout) (b : List ℕ) (f : ℕ) (p : Step) (wanted : List ℕ) : Type 0 where
  pub hides : All (λ s. T (hidden g b s)) p.hidden
  pub once : (x : ℕ) → occ x (addresses p.hidden) ≤ 1
  pub within : Ranged g b (p.commit.at / g.words)
  pub outcome : Outcome g b (committed b p) f wanted

-- so it is, and the live blocks are those before and the extra ones, less those that are gone
pub record GoodTurn (g : Layout) (b : List ℕ) (f : ℕ) (p : Step) (wanted : List ℕ) (extra gone : ℕ → ℕ) : Type 0 where
  pub good : GoodStep g b f p wanted
  pub lives : (q : ℕ) → occ q (live_blocks g (committed b p)) + gone q ≡ occ q (live_blocks g b) + extra q

-- ---- All files at once

-- file f reads w, the others as before
unfoldable pub only_file : ℕ → List ℕ → (ℕ → List ℕ) → ℕ → List ℕ
only_file f w before e = cond (eqb e f) w (before e)

pub only_file_law : (f : ℕ) (w : List ℕ) (before : ℕ → List ℕ) → only_file f w before f ≡ w
unfolding only_file
only_file_law f w before = rw (eq-eqb f f refl)

pub only_others : (f : ℕ) (w : List ℕ) (before : ℕ → List ℕ) (e : ℕ) → e ≢ f → only_file f w before e ≡ before e
unfolding only_file
only_others f w before e n = rw (ne_eqb e f n)

-- an address in one of blocks 1 to B − 2
abbrev pub InBlocks : Layout → List ℕ → ℕ → Type 0
InBlocks g b a = Ranged g b (a / g.words)

-- a step that makes each file read as `wanted` says and leaves walks in files that are not touched as they are, with its commit at an address that At allows
pub record StepTo (g : Layout) (touched : ℕ → Bool) (b : List ℕ) (p : Step) (wanted : ℕ → List ℕ) (At : ℕ → Type 0) : Type 0 where
  pub hides : All (λ s. T (hidden g b s)) p.hidden
  pub once : (x : ℕ) → occ x (addresses p.hidden) ≤ 1
  pub within : At p.commit.at
  pub board : T (accepted g (committed b p))
  pub walks : Stays g touched b (committed b p)
  pub reads : Reads g (committed b p) wanted

-- a good step touches one file
abbrev pub the_file : ℕ → ℕ → Bool
the_file f e = eqb e f

module _ {g : Layout} {b : List ℕ} {f : ℕ} {p : Step} {wanted : List ℕ} (s : GoodStep g b f p wanted) where
  good_walks : Stays g (the_file f) b (committed b p)
  good_walks e u z = (s.outcome.kept e u (λ same. false≢true (sym z ∙ eq-eqb e f same))).walks

  pub step_one : StepTo g (the_file f) b p (only_file f wanted (contents g b)) (InBlocks g b)
  step_one = record {
    hides = s.hides;
    once = s.once;
    within = s.within;
    board = s.outcome.board;
    walks = good_walks;
    reads = λ e u. elim (decide e f) [
      | inl z ↦ rw (z, only_file_law f wanted (contents g b)) s.outcome.reads
      | inr n ↦ rw (only_others f wanted (contents g b) e n) (s.outcome.kept e u n).reads
    ];
  }

  -- and may leave every file as it reads
  pub step_quiet : wanted ≡ contents g b f → StepTo g (the_file f) b p (contents g b) (InBlocks g b)
  step_quiet quiet = record {
    hides = s.hides;
    once = s.once;
    within = s.within;
    board = s.outcome.board;
    walks = good_walks;
    reads = λ e u. elim (decide e f) [ inl z ↦ rw z (s.outcome.reads ∙ quiet) | inr n ↦ (s.outcome.kept e u n).reads ];
  }

pub step_safe : {g : Layout} {touched : ℕ → Bool} {b : List ℕ} {p : Step} {wanted : ℕ → List ℕ} {At : ℕ → Type 0} → StepTo g touched b p wanted At → SafeStep g touched b p
step_safe {g} {b = b} {p} s = record { hides = all_holds (hidden g b) p.hidden s.hides; accepts = s.board; walks = s.walks }

-- Steps each good on the board that those before it leave, the last making each file read as wanted, those before leaving all as they read. The last may
-- be committed where Last allows it, those before in blocks 1 to B − 2
unfoldable pub GoodSteps : (g : Layout) (touched : ℕ → Bool) (b : List ℕ) (ps : List Step) (wanted : ℕ → List ℕ) (Last : ℕ → Type 0) → Type 0
GoodSteps g touched b [] wanted Last = Reads g b wanted
GoodSteps g touched b (p ∷ []) wanted Last = StepTo g touched b p wanted Last
GoodSteps g touched b (p ∷ q ∷ ps) wanted Last = StepTo g touched b p (contents g b) (InBlocks g b) × GoodSteps g touched (committed b p) (q ∷ ps) wanted Last

-- ---- An epoch of hidden stores, performed

module _ (g : Layout) (fit : Fits g) (b : List ℕ) (t : T (accepted g b)) (ss : List Store) (hides : All (λ s. T (hidden g b s)) ss) where
  pub epoch_same : Same g b (performed b ss)
  epoch_same = hidden_all_same g fit b t ss (all_holds (hidden g b) ss hides)

  pub epoch_stands : ((x : ℕ) → occ x (addresses ss) ≤ 1) → Stands (performed b ss) ss
  epoch_stands once = performed_holds b ss once (all_map (λ s. T (hidden g b s)) (λ s. s.at < length b)
      (λ s h. address_on_board g fit b (facts g fit b t).sizes s.at (omega (arith, (hidden_in_range g fit b t s h).1))) ss hides)

-- of pages stored to fresh blocks
module _ {g : Layout} (fit : Fits g) {b : List ℕ} (t : T (accepted g b)) {fresh : ℕ → ℕ} {c lim : ℕ} (supply : Supply g b fresh c lim) (ps : List Page) (room : c + length ps ≤ lim) where
  pub pages_hidden : All (λ s. T (hidden g b s)) (stored g.words fresh ps c)
  pages_hidden = stored_hidden supply fit ps room

  pub pages_once : (x : ℕ) → occ x (addresses (stored g.words fresh ps c)) ≤ 1
  pages_once = stored_apart supply ps room

  pub pages_same : Same g b (performed b (stored g.words fresh ps c))
  pages_same = epoch_same g fit b t (stored g.words fresh ps c) pages_hidden

  -- the board holds them, also after a store to a live block
  pub pages_held : (a v : ℕ) → 0 < occ (a / g.words) (live_blocks g b) → held g.words fresh (set (performed b (stored g.words fresh ps c)) a v) ps c
  pages_held a v live =
      let ss : List Store = stored g.words fresh ps c in
      held_of_all g.words fresh (set (performed b ss) a v) ps c
      (stands_set (performed b ss) ss a v (stored_not_live supply ps room a live) (epoch_stands g fit b t ss pages_hidden pages_once))
