-- An answer as a signed number of 64 bits.
use Rattle.std.specs.Prelude.{Ok, Err}
use mathlib.Core.Path.{◌≡◌, sym, ap, ◌∙◌}
use Prim.Native.Nat.{ℕ, zero, suc, ◌<◌, ◌^◌}
use native.Mathlib.Omega.{arith}
use lib.IntN.{pos, neg_ℤ}
use mir.Syntax.{w64}
use mir.Val.{SFits, to_z}
use mir.Facts.{to_z_pos}
use Rattle.model.specs.declared.Fault.{Fault}
use Rattle.model.specs.declared.Fault.TheVariants.{WordCount, Trailer, Damaged, FileNumber, End, FreeBlocks, PlanLength, PairCount, Address}
use Rattle.model.specs.Answers.{number, signed, counted, Answer}

number_small : (f : Fault) → number f < 2 ^ 63
unfolding number
number_small WordCount = omega arith
number_small Trailer = omega arith
number_small Damaged = omega arith
number_small FileNumber = omega arith
number_small End = omega arith
number_small FreeBlocks = omega arith
number_small PlanLength = omega arith
number_small PairCount = omega arith
number_small Address = omega arith

pub negated_fits : (n : ℕ) → n < 2 ^ 63 → SFits w64 (neg_ℤ (pos n))
negated_fits zero h = record { sfits = omega arith }
negated_fits (suc n) h = record { sfits = omega arith }

-- an answer that is done
module _ {answer : Answer} {n : ℕ} (small : counted answer < 2 ^ 63) (e : answer ≡ Ok n) where
  pub done_fits : SFits w64 (pos n)
  unfolding counted
  done_fits = record { sfits = rw e at small }

  pub done_signed : to_z w64 n ≡ signed answer
  unfolding signed
  done_signed = to_z_pos w64 done_fits.sfits ∙ sym (ap signed e)

-- and one that is a refusal
module _ {n : ℕ} (f : Fault) (is : n ≡ number f) where
  pub refused_small : n < 2 ^ 63
  refused_small = rw is (number_small f)

  pub refused_signed : {answer : Answer} → answer ≡ Err f → neg_ℤ (pos n) ≡ signed answer
  unfolding signed
  refused_signed e = ap (λ (m : ℕ). neg_ℤ (pos m)) is ∙ sym (ap signed e)
