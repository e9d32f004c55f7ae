-- How many blocks a write at the end of a tree takes, child by child.
use mathlib.Core.Path.{◌≡◌, refl, ◌∙◌}
use mathlib.Core.Logic.{◌≢◌}
use mathlib.Core.List.{List, ◌++◌}
use Prim.Native.Nat.{ℕ, zero, suc, ◌+◌, ◌-◌, ◌*◌, ◌≤◌, ◌<◌}
use native.Mathlib.Omega.{arith}
use native.Mathlib.Numerals.{add-one, sub-one}
use lib.ListN.{length}
use Rattle.model.specs.Lists.{joined, sum}
use Rattle.model.specs.Tree.{span}
use Rattle.model.specs.Fresh.{part, part_length, need}
use Rattle.model.specs.InPlace.{tail_need, tail_before}
use Rattle.model.proofs.Sums.{sum_mono, sum_zero}
use Rattle.model.proofs.Splice.{length_part, part_nothing}
use Rattle.model.proofs.Paths.{need_none}
use Rattle.model.proofs.Tailed.{tail_need_dead}

pub joined_next : {A : Type 0} (j : ℕ) (f : ℕ → List A) → joined (j + 1) f ≡ joined j f ++ f j
unfolding joined
joined_next j f = rw (add-one j)

-- no part of no bytes
pub part_none : (s j o : ℕ) (new : List ℕ) → length new ≡ 0 → length (part s j o new) ≡ 0
part_none s j o new e = length_part s j o new ∙ part_nothing s j o (length new) e

-- under a pointer that isn't live, a whole fresh tree is taken
pub need_dead : (W h n l : ℕ) → n ≡ 0 → tail_need W h n l ≡ need W h 0 l
need_dead W h n l dead = rw dead (tail_need_dead W h l)

-- above height 0, what is taken is what is taken under the children
pub need_tree : (W h n l : ℕ) → h ≢ 0 → n ≢ 0 → tail_need W h n l ≡ tail_before W (h - 1) n l W
unfolding tail_need tail_before
need_tree W zero n l high live = absurd (high refl)
need_tree W (suc h) zero l high live = absurd (live refl)
need_tree W (suc h) (suc n) l high live = rw sub-one

-- under a live data block nothing is taken
pub need_data : (W h n l : ℕ) → h ≡ 0 → n ≢ 0 → tail_need W h n l ≡ 0
unfolding tail_need
need_data W h zero l low live = absurd (live refl)
need_data W zero (suc n) l low live = refl
need_data W (suc h) (suc n) l low live = absurd (omega arith)

-- nor where no byte is written
pub need_empty : (W h n l : ℕ) → l ≡ 0 → tail_need W h n l ≡ 0
unfolding tail_need part_length
need_empty W zero zero l e = rw e (need_none W zero 0)
need_empty W zero (suc n) l e = refl
need_empty W (suc h) zero l e = rw e (need_none W (suc h) 0)
need_empty W (suc h) (suc n) l e = sum_zero W _ (λ j u. need_empty W h (suc n - j * span W h) (part_length (span W h) j (suc n) l) (omega arith))

-- ---- How many are taken under the children before j

module _ (W h n l : ℕ) where
  pub before_start : 0 ≡ tail_before W h n l 0
  unfolding tail_before sum
  before_start = refl

  pub before_more : (j : ℕ) {s left own m : ℕ} → s ≡ span W h → left ≡ n - j * s → own ≡ part_length s j n l → m ≡ tail_need W h left own → tail_before W h n l j + m ≡ tail_before W h n l (j + 1)
  unfolding tail_before sum
  before_more j es el eo em = rw (add-one j, em, eo, el, es)

  -- a child that gets no byte takes none
  pub before_skip : (j : ℕ) {s : ℕ} → s ≡ span W h → part_length s j n l ≡ 0 → tail_before W h n l j ≡ tail_before W h n l (j + 1)
  before_skip j {s} es e = omega (arith, before_more j es refl refl refl, need_empty W h (n - j * s) (part_length s j n l) e)

  pub before_within : (j : ℕ) → j < W → tail_before W h n l (j + 1) ≤ tail_before W h n l W
  unfolding tail_before
  before_within j less = sum_mono (λ i. tail_need W h (n - i * span W h) (part_length (span W h) i n l)) (j + 1) W (omega arith)

pub before_next : (W h n l j : ℕ) → j < W → tail_before W h n l j + tail_need W h (n - j * span W h) (part_length (span W h) j n l) ≤ tail_before W h n l W
before_next W h n l j less = omega (arith, before_more W h n l j refl refl refl refl, before_within W h n l j less)
