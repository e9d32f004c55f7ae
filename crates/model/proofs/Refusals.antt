-- What a call answers whose list of faults begins with another's: the other's answer where that is a refusal, else that of the rest. So a call may
-- ask the other first.
use Rattle.std.specs.Prelude.{Ok, Err}
use mathlib.Core.Path.{◌≡◌, refl, ◌∙◌}
use mathlib.Core.Logic.{◌≢◌}
use mathlib.Core.Bool.{Bool, true, false, not, cond, ◌&&◌}
use mathlib.Core.List.{List, [], ◌∷◌, ◌++◌, append-nil}
use Prim.Native.Nat.{ℕ}
use native.Mathlib.Omega.{arith}
use lib.Dec.{T}
use Rattle.model.specs.declared.Fault.{Fault}
use Rattle.model.specs.declared.Fault.TheVariants.{WordCount, Trailer, Damaged, FileNumber, End, FreeBlocks, PlanLength, PairCount, Address}
use Rattle.model.specs.Layout.{Layout}
use Rattle.model.specs.Board.{word_count_sound, trailer_sound, trees_sound, accepted}
use Rattle.model.specs.Answers.{Faults, number, answered, unless_refused, Answer}
use Rattle.model.specs.Calls.{word_count_fault, board_faults, check_answer}
use Rattle.model.specs.Claims.{CheckRule}

asked_first : (fs more : Faults) (v n : ℕ) → answered (fs ++ more) n ≡ unless_refused (answered fs v) (answered more n) (answered fs v)
unfolding answered unless_refused
asked_first [] more v n = refl
asked_first (t ∷ ts) more v n = by t.1 (asked_first ts more v n)
  where
    by : (s : Bool) → answered (ts ++ more) n ≡ unless_refused (answered ts v) (answered more n) (answered ts v) →
        cond s (Err t.0) (answered (ts ++ more) n)
        ≡ unless_refused (cond s (Err t.0) (answered ts v)) (answered more n) (cond s (Err t.0) (answered ts v))
    by true ih = refl
    by false ih = ih

-- an answer is not a refusal
pub not_refused : {r : Answer} {v : ℕ} {x : Fault} → r ≡ Ok v → r ≡ Err x → ⊥
not_refused e z = let n : ◌≡◌ {A = ℕ} 0 1 = cc in omega arith

module _ (fs more : Faults) (v n : ℕ) {r : Answer} (e : r ≡ answered fs v) where
  pub first_refused : {f : Fault} → r ≡ Err f → answered (fs ++ more) n ≡ r
  unfolding unless_refused
  first_refused z = asked_first fs more v n ∙ rw (← e, z)

  pub first_done : {w : ℕ} → r ≡ Ok w → answered (fs ++ more) n ≡ answered more n
  unfolding unless_refused
  first_done z = asked_first fs more v n ∙ rw (← e, z)

-- the same faults with another number to answer
module _ (fs : Faults) (v n : ℕ) {r : Answer} (e : r ≡ answered fs v) where
  pub same_refused : {f : Fault} → r ≡ Err f → answered fs n ≡ r
  same_refused z = rw append-nil at (first_refused fs [] v n e z)

  pub same_done : {w : ℕ} → r ≡ Ok w → answered fs n ≡ Ok n
  unfolding answered
  same_done z = rw append-nil at (first_done fs [] v n e z)

-- check answers 0 on an accepted board, and what is no refusal only there
module _ (g : Layout) (b : List ℕ) where
  abbrev verdict : Bool → Bool → Bool → Answer
  verdict w l s = answered ((WordCount, not w) ∷ (Trailer, not l) ∷ (Damaged, not s) ∷ []) 0

  pub checked : T (accepted g b) → check_answer g b ≡ Ok 0
  unfolding accepted check_answer board_faults word_count_fault answered
  checked t = by (word_count_sound g b) (trailer_sound g b) (trees_sound g b) t
    where
      by : (w l s : Bool) → T (w && l && s) → verdict w l s ≡ Ok 0
      by true true true t = refl
      by true true false t = absurd t
      by true false s t = absurd t
      by false l s t = absurd t

  pub check_accepts : {v : ℕ} → check_answer g b ≡ Ok v → T (accepted g b)
  unfolding accepted check_answer board_faults word_count_fault answered
  check_accepts {v} e = by (word_count_sound g b) (trailer_sound g b) (trees_sound g b) e
    where
      by : (w l s : Bool) → verdict w l s ≡ Ok v → T (w && l && s)
      by true true true e = tt
      by true true false e = absurd (not_refused e refl)
      by true false s e = absurd (not_refused e refl)
      by false l s e = absurd (not_refused e refl)

pub check_rule : CheckRule
check_rule g b = (check_accepts g b, checked g b)

-- *5 never occurs*
pub never_five : (f : Fault) → number f ≢ 5
unfolding number
never_five WordCount e = absurd (omega arith)
never_five Trailer e = absurd (omega arith)
never_five Damaged e = absurd (omega arith)
never_five FileNumber e = absurd (omega arith)
never_five End e = absurd (omega arith)
never_five FreeBlocks e = absurd (omega arith)
never_five PlanLength e = absurd (omega arith)
never_five PairCount e = absurd (omega arith)
never_five Address e = absurd (omega arith)
