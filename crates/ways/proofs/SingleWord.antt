-- A write to a single word, as it is laid into a slice.
use mathlib.Core.Path.{◌≡◌, refl}
use mathlib.Core.List.{List, [], ◌∷◌}
use Prim.Native.Nat.{ℕ, ◌+◌, ◌*◌, ◌/◌, ◌%◌}
use lib.ListN.{get_or}
use Rattle.model.specs.Words.{word_of}
use Rattle.model.specs.Layout.{Layout}
use Rattle.model.specs.Tree.{seen, span}
use Rattle.model.specs.Store.{store, laid}
use Rattle.model.specs.Change.{spliced_word, single_word}
use Rattle.plans.specs.Laying.{closing, PlanLaid}
use Rattle.plans.proofs.Laying as Laying
use Rattle.plans.proofs.OneStep.{one_step}
use Rattle.taking.specs.Taking.{spliced_byte}

-- all eight bytes of the word are visible
whole_word : (o : ℕ) (new : List ℕ) (x : ℕ) → word_of 8 (spliced_byte x 8 o new 0) ≡ spliced_word o new x
unfolding word_of spliced_byte seen spliced_word
whole_word o new x = refl

-- it has no hidden stores
pub single_laid : (g : Layout) (b new : List ℕ) (k o : ℕ) {slice slice' : List ℕ} {a x w : ℕ} → a ≡ g.words * k + o % (8 * g.words) / 8 → x ≡ get_or b a 0 → w ≡ word_of 8 (spliced_byte x 8 (o % 8) new 0)
    → slice' ≡ laid slice 0 (store a w ∷ []) → PlanLaid slice 0 (single_word g b k o new) slice' (record { pairs = 1; taken = 0 })
unfolding single_word span closing
single_laid g b new k o {a = a} {x} {w} ea ex ew e =
    rw (← ea, ← ex, ← (whole_word (o % 8) new x), ← ew) (one_step a w 0 Laying.none (Laying.one e) refl)
