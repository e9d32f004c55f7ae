-- How many fresh blocks a tree takes at most, so that the places of their pairs are words.
use mathlib.Core.Path.{refl}
use mathlib.Core.Logic.{inl, inr}
use mathlib.Core.List.{List, []}
use Prim.Native.Nat.{ℕ, zero, suc, ◌-◌, ◌*◌, ◌/◌, ◌≤◌}
use native.Mathlib.Omega.{arith}
use Rattle.model.specs.Lists.{sum}
use Rattle.model.specs.Tree.{span, link}
use Rattle.model.specs.Fresh.{part_length, touched, fresh_need, fresh_before, need}
use Rattle.model.proofs.Cases.{either}
use Rattle.model.proofs.Sums.{sum_le}
use Rattle.model.proofs.Paths.{kid_need, fresh_none, fresh_data, fresh_node}
use Rattle.taking.specs.Taking.{whole}
use Rattle.taking.proofs.WholeTrees.{sum_same}

-- terms that are at most m
pub terms : (W : ℕ) (f : ℕ → ℕ) (m : ℕ) → ((j : ℕ) → f j ≤ m) → sum W f ≤ W * m
terms W f m e = omega (arith, sum_le W f (λ j. m) (λ j u. e j), sum_same W (λ j. m) m (λ j u. refl))

kids_most : (W : ℕ) (b : List ℕ) (h k n o l : ℕ) → ((k n o l : ℕ) → fresh_need W b h k n o l ≤ whole W h) → fresh_before W b h k n o l W ≤ W * whole W h
unfolding fresh_before
kids_most W b h k n o l each = terms W (kid_need W b h k n o l) (whole W h) (λ j. each (link W b k j / W) (n - j * span W h) (o - j * span W h) (part_length (span W h) j o l))

pub fresh_most : (W : ℕ) (b : List ℕ) (h k n o l : ℕ) → fresh_need W b h k n o l ≤ whole W h
unfolding whole
fresh_most W b zero k n o l = elim (either (touched W zero k n o l)) [
  | inl e ↦ omega (arith, fresh_data W b k n o l e)
  | inr e ↦ omega (arith, fresh_none W b zero k n o l e)
]
fresh_most W b (suc h) k n o l = elim (either (touched W (suc h) k n o l)) [
  | inl e ↦ omega (arith, fresh_node W b h k n o l e, kids_most W b h k n o l (fresh_most W b h))
  | inr e ↦ omega (arith, fresh_none W b (suc h) k n o l e)
]

pub need_most : (W h o l : ℕ) → need W h o l ≤ whole W h
unfolding need
need_most W h o l = fresh_most W [] h 0 0 o l
