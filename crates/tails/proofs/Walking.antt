-- The walk along live pointers to the first byte past the visible ones: where it ends, and one pointer followed.
use mathlib.Core.Path.{◌≡◌, refl, sym, ◌∙◌}
use mathlib.Core.Logic.{◌≢◌}
use mathlib.Core.List.{List}
use Prim.Native.Nat.{ℕ, zero, suc, ◌-◌, ◌/◌, ◌%◌}
use native.Mathlib.Omega.{arith}
use native.Mathlib.Numerals.{sub-one}
use Rattle.model.specs.Tree.{ending, span, link}
use Rattle.model.specs.InPlace.{walk_live}
use Rattle.model.proofs.Splice.{choose_zero, choose_pos}

module _ (W : ℕ) (b : List ℕ) where
  pub walk_data : (h k n : ℕ) → h ≡ 0 → ending k n ≡ walk_live W b h k n
  unfolding walk_live
  walk_data zero k n e = refl
  walk_data (suc h) k n e = absurd (omega arith)

  -- byte n is the first of a child
  pub walk_first : (h k n s : ℕ) → h ≢ 0 → s ≡ span W (h - 1) → n % s ≡ 0 → ending k n ≡ walk_live W b h k n
  unfolding walk_live
  walk_first zero k n s high es z = absurd (high refl)
  walk_first (suc h) k n s high es z =
      let e : s ≡ span W h = es ∙ rw sub-one in
      sym (choose_zero (n % span W h) _ _ (rw e at z))

  pub walk_follow : (h k n s x d : ℕ) → h ≢ 0 → s ≡ span W (h - 1) → n % s ≢ 0 → x ≡ link W b k (n / s) → d ≡ x / W → walk_live W b (h - 1) d (n % s) ≡ walk_live W b h k n
  unfolding walk_live
  walk_follow zero k n s x d high es z ex ed = absurd (high refl)
  walk_follow (suc h) k n s x d high es z ex ed =
      let e : s ≡ span W h = es ∙ rw sub-one in
      let p : n % span W h ≢ 0 = rw e at z in
      rw (sub-one, ed, ex, e) (sym (choose_pos (n % span W h) _ _ (omega arith)))
