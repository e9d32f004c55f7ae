-- A check and a file number: the ways out.
use Rattle.std.specs.Prelude.{Ok, Err}
use mathlib.Core.Path.{◌≡◌, refl, sym, ◌∙◌}
use mathlib.Core.Logic.{inl, inr}
use mathlib.Core.List.{List, [], ◌∷◌}
use Prim.Native.Nat.{ℕ, ◌≤◌, ◌<◌}
use lib.Dec.{T, leb}
use borrow.Author.Tests.{le-leb, lt-leb}
use Rattle.model.specs.declared.Fault.{Fault}
use Rattle.model.specs.declared.Fault.TheVariants.{FileNumber}
use Rattle.model.specs.Layout.{Layout, files}
use Rattle.model.specs.Board.{accepted}
use Rattle.model.specs.Answers.{answered, Answer}
use Rattle.model.specs.Calls.{board_faults, file_faults, check_answer}
use Rattle.model.proofs.Cases.{split}
use Rattle.model.proofs.Refusals.{not_refused, first_refused, first_done, check_accepts}

-- the check of a board and a file number
module _ (g : Layout) (b : List ℕ) (f : ℕ) {r : Answer} (e : r ≡ check_answer g b) where
  pub file_refused : {x : Fault} → r ≡ Err x → r ≡ answered (file_faults g b f) 0
  unfolding file_faults check_answer
  file_refused z = sym (first_refused (board_faults g b) ((FileNumber, leb (files g) f) ∷ []) 0 0 e z)

  module _ {v : ℕ} (z : r ≡ Ok v) where
    pub file_none : files g ≤ f → Err FileNumber ≡ answered (file_faults g b f) 0
    unfolding file_faults check_answer answered
    file_none l = sym (first_done (board_faults g b) ((FileNumber, leb (files g) f) ∷ []) 0 0 e z ∙ rw (le-leb (files g) f l))

    pub file_there : f < files g → Ok 0 ≡ answered (file_faults g b f) 0
    unfolding file_faults check_answer answered
    file_there l = sym (first_done (board_faults g b) ((FileNumber, leb (files g) f) ∷ []) 0 0 e z ∙ rw (lt-leb (files g) f l))

-- it answers a number only where the board is accepted and has the file
pub file_found : (g : Layout) (b : List ℕ) (f : ℕ) {r : Answer} {v : ℕ} → r ≡ answered (file_faults g b f) 0 → r ≡ Ok v → T (accepted g b) × (f < files g)
file_found g b f e z = by (check_answer g b) refl
  where
    by : (a : Answer) → check_answer g b ≡ a → T (accepted g b) × (f < files g)
    by (Err x) c = absurd (not_refused z (e ∙ sym (file_refused g b f refl c) ∙ c))
    by (Ok u) c = elim (split (files g) f) [
      | inl l ↦ absurd (not_refused z (e ∙ sym (file_none g b f refl c l)))
      | inr l ↦ (check_accepts g b c, l)
    ]
