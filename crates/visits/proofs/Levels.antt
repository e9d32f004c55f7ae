-- What a walk visits, one level at a time: under a pointer that isn't live and under a null one nothing; at a live block, the block and what lies
-- beneath it. How many there are where it ends at a block, and where it ends in a hole.
use Rattle.std.specs.Prelude.{Some, None}
use mathlib.Core.Path.{◌≡◌, refl, sym, ◌∙◌}
use mathlib.Core.Logic.{◌≢◌}
use mathlib.Core.Bool.{Bool, true, false, cond}
use mathlib.Core.List.{List}
use Prim.Native.Nat.{ℕ, zero, suc, ◌-◌, ◌*◌, ◌/◌, ◌%◌, ◌≤◌}
use native.Mathlib.Omega.{arith}
use native.Mathlib.Nat.{zero-sub, zero-div}
use native.Mathlib.Numerals.{sub-one}
use lib.Dec.{ltb}
use Rattle.model.specs.Tree.{ending, visit, span, cell, link, walk, visits}
use Rattle.model.specs.Board.{root_visits}
use Rattle.model.proofs.Trees.{walk_dead, walk_null}
use Rattle.model.proofs.Descent.{hole≢block}

module _ (W : ℕ) (b : List ℕ) where
  -- not live
  pub visits_dead : (h k i : ℕ) → visits W b h k 0 i ≡ 0
  unfolding visits visit
  visits_dead zero zero i = refl
  visits_dead zero (suc k) i = refl
  visits_dead (suc h) zero i = rw zero-sub (omega (arith, visits_dead h (link W b zero (i / span W h) / W) (i % span W h)))
  visits_dead (suc h) (suc k) i = rw zero-sub (omega (arith, visits_dead h (link W b (suc k) (i / span W h) / W) (i % span W h)))

  -- null
  pub visits_null : (h n i : ℕ) → visits W b h 0 n i ≡ 0
  unfolding visits visit link
  visits_null zero n i = refl
  visits_null (suc h) n i = rw (zero-div W) (omega (arith, visits_null h (n - i / span W h * span W h) (i % span W h)))

  -- a live block
  pub visits_here : (k n i : ℕ) → n ≢ 0 → k ≢ 0 → visits W b 0 k n i ≡ 1
  unfolding visits visit
  visits_here zero n i live there = absurd (there refl)
  visits_here (suc k) zero i live there = absurd (live refl)
  visits_here (suc k) (suc n) i live there = refl

  pub visits_down : (h k n i : ℕ) → h ≢ 0 → n ≢ 0 → k ≢ 0 → let s = span W (h - 1) in
      visits W b h k n i ≡ suc (visits W b (h - 1) (cell W b k (i / s) / W) (n - i / s * s) (i % s))
  unfolding visits visit link
  visits_down zero k n i high live there = absurd (high refl)
  visits_down (suc h) zero n i high live there = absurd (there refl)
  visits_down (suc h) (suc k) zero i high live there = absurd (live refl)
  visits_down (suc h) (suc k) (suc n) i high live there = rw sub-one (omega arith)

  -- at most one on each level
  visit_most : (k n : ℕ) → visit k n ≤ 1
  unfolding visit
  visit_most zero n = omega arith
  visit_most (suc k) zero = omega arith
  visit_most (suc k) (suc n) = omega arith

  pub visits_most : (h k n i : ℕ) → visits W b h k n i ≤ suc h
  unfolding visits
  visits_most zero k n i = omega (arith, visit_most k n)
  visits_most (suc h) k n i = omega (arith, visit_most k n, visits_most h (link W b k (i / span W h) / W) (n - i / span W h * span W h) (i % span W h))

  -- one on each level where the walk ends at a block
  pub visits_arrives : (h k n i q : ℕ) → walk W b h k n i ≡ Some q → visits W b h k n i ≡ suc h
  unfolding walk visits ending visit
  visits_arrives zero zero n i q e = absurd (hole≢block q e)
  visits_arrives zero (suc k) zero i q e = absurd (hole≢block q e)
  visits_arrives zero (suc k) (suc n) i q e = refl
  visits_arrives (suc h) zero n i q e = absurd (hole≢block q (sym (walk_null W b (suc h) n i) ∙ e))
  visits_arrives (suc h) (suc k) zero i q e = absurd (hole≢block q (sym (walk_dead W b (suc h) (suc k) i) ∙ e))
  visits_arrives (suc h) (suc k) (suc n) i q e = let j : ℕ = i / span W h in
      omega (arith, visits_arrives h (link W b (suc k) j / W) (suc n - j * span W h) (i % span W h) q e)

  -- and fewer where it ends in a hole
  pub visits_misses : (h k n i : ℕ) → walk W b h k n i ≡ None → visits W b h k n i ≤ h
  unfolding walk visits ending visit
  visits_misses zero zero n i e = omega arith
  visits_misses zero (suc k) zero i e = omega arith
  visits_misses zero (suc k) (suc n) i e = absurd (hole≢block (suc k) (sym e))
  visits_misses (suc h) k n i e = let j : ℕ = i / span W h in
      omega (arith, visit_most k n, visits_misses h (link W b k j / W) (n - j * span W h) (i % span W h) e)

  -- from a root word
  pub root_most : (r n i c : ℕ) → visits W b (r % W) (r / W) n i ≤ c → root_visits W b r n i ≤ c
  unfolding root_visits
  root_most r n i c l = by (ltb i (span W (r % W)))
    where
      by : (t : Bool) → cond t (visits W b (r % W) (r / W) n i) 0 ≤ c
      by true = l
      by false = omega arith

  pub root_visits_most : (r n i : ℕ) → root_visits W b r n i ≤ suc (r % W)
  root_visits_most r n i = root_most r n i (suc (r % W)) (visits_most (r % W) (r / W) n i)
