-- A walk goes by blocks: two bytes of one block are found in one place. So a file's contents can be read block by block.
use mathlib.Core.Path.{◌≡◌, refl, sym, ◌∙◌}
use mathlib.Core.Bool.{Bool, true, false}
use mathlib.Core.List.{List, ◌++◌}
use Prim.Native.Nat.{ℕ, zero, suc, ◌+◌, ◌-◌, ◌*◌, ◌/◌, ◌%◌, ◌^◌, ◌≤◌, ◌<◌}
use native.Mathlib.Omega.{arith}
use native.Mathlib.Nat.{div-div-eq-div-mul, mul_comm, mul_assoc, pow-succ', one-le-pow, mod-lt, div-lt_iff_lt-mul, div-add-mod'}
use lib.ListN.{take, drop}
use lib.Seq.{take_at, drop_at}
use lib.Arith.{mod-mul, digits_div}
use lib.Dec.{ltb}
use borrow.Author.Tests.{ltb-true, ltb-false, lt-ltb}
use Rattle.model.specs.Lists.{tabulate}
use Rattle.model.specs.Tree.{span, link, walk}
use Rattle.model.specs.Board.{root_walk}
use Rattle.model.proofs.Cases.{tabulate_add}
use Rattle.model.proofs.Spans.{span_power}
use Rattle.model.proofs.Perform.{length_tabulate}

module _ (W : ℕ) (pos : 0 < W) where
  -- a tree of height h spans W ^ h data blocks
  pub spanned_pos : (h : ℕ) → 0 < W ^ h
  spanned_pos h = one-le-pow h W pos

  pub block_pos : 0 < 8 * W
  block_pos = omega arith

  pub span_blocks : (h : ℕ) → span W h ≡ W ^ h * (8 * W)
  span_blocks h = rw (span_power W h, pow-succ' W h, ← mul_assoc 8 W (W ^ h)) (mul_comm (8 * W) (W ^ h))

  -- two bytes of one block
  module _ (i i' : ℕ) (e : i / (8 * W) ≡ i' / (8 * W)) where
    -- are under one pointer, and stay in one block there
    pub div_same : (h : ℕ) → i / span W h ≡ i' / span W h
    div_same h =
        rw (span_blocks h, mul_comm (W ^ h) (8 * W), ← div-div-eq-div-mul i (8 * W) (W ^ h), ← div-div-eq-div-mul i' (8 * W) (W ^ h), e)

    pub mod_same : (h : ℕ) → i % span W h / (8 * W) ≡ i' % span W h / (8 * W)
    mod_same h = rw (
      span_blocks h,
      mod-mul i (spanned_pos h) block_pos,
      mod-mul i' (spanned_pos h) block_pos,
      digits_div (i / (8 * W) % W ^ h) (mod-lt i block_pos),
      digits_div (i' / (8 * W) % W ^ h) (mod-lt i' block_pos),
      e,
    )

  -- which block a byte is in, by the child that it is in and its block there
  pub block_by_child : (h i : ℕ) → i / (8 * W) ≡ i / span W h * W ^ h + i % span W h / (8 * W)
  block_by_child h i = rw (
    span_blocks h,
    mod-mul i (spanned_pos h) block_pos,
    digits_div (i / (8 * W) % W ^ h) (mod-lt i block_pos),
    mul_comm (W ^ h) (8 * W),
    ← div-div-eq-div-mul i (8 * W) (W ^ h),
  ) (sym (div-add-mod' (i / (8 * W)) (W ^ h)))

  less_same : (i i' h : ℕ) → i / (8 * W) ≡ i' / (8 * W) → i < span W h → i' < span W h
  less_same i i' h e l =
      rw (span_blocks h) ((div-lt_iff_lt-mul block_pos).0 (rw (← e) ((div-lt_iff_lt-mul block_pos).1 (rw (span_blocks h) at l))))

  pub within_same : (i i' h : ℕ) → i / (8 * W) ≡ i' / (8 * W) → ltb i (span W h) ≡ ltb i' (span W h)
  within_same i i' h e = by (ltb i (span W h)) refl (ltb i' (span W h)) refl
    where
      by : (t : Bool) → ltb i (span W h) ≡ t → (t' : Bool) → ltb i' (span W h) ≡ t' → ltb i (span W h) ≡ ltb i' (span W h)
      by true z t' z' = z ∙ sym (lt-ltb i' (span W h) (less_same i i' h e (ltb-true i (span W h) z)))
      by false z true z' = absurd (omega (arith, ltb-false i (span W h) z, less_same i' i h (sym e) (ltb-true i' (span W h) z')))
      by false z false z' = z ∙ sym z'

  walk_same : (b : List ℕ) (h k n i i' : ℕ) → i / (8 * W) ≡ i' / (8 * W) → walk W b h k n i ≡ walk W b h k n i'
  unfolding walk
  walk_same b zero k n i i' e = refl
  walk_same b (suc h) k n i i' e =
      let s : ℕ = span W h in
      rw (div_same i i' e h, walk_same b h (link W b k (i' / s) / W) (n - i' / s * s) (i % s) (i' % s) (mod_same i i' e h))

  pub root_walk_same : (b : List ℕ) (r n i i' : ℕ) → i / (8 * W) ≡ i' / (8 * W) → root_walk W b r n i ≡ root_walk W b r n i'
  unfolding root_walk
  root_walk_same b r n i i' e = rw (within_same i i' (r % W) e, walk_same b (r % W) (r / W) n i i' e)

-- a part of a list that is given by its elements
part_of : (c o r : ℕ) (f : ℕ → ℕ) → take c (drop o (tabulate (o + (c + r)) f)) ≡ tabulate c (λ j. f (o + j))
part_of c o r f =
    let rest : List ℕ = tabulate r (λ j. f (o + (c + j))) in
    rw (tabulate_add o (c + r) f, tabulate_add c r (λ j. f (o + j)), drop_at (tabulate o f) (tabulate c (λ j. f (o + j)) ++ rest) o (length_tabulate o f))
    (take_at (tabulate c (λ j. f (o + j))) rest c (length_tabulate c (λ j. f (o + j))))

pub tabulate_part : (c o n : ℕ) (f : ℕ → ℕ) → o + c ≤ n → take c (drop o (tabulate n f)) ≡ tabulate c (λ j. f (o + j))
tabulate_part c o n f l = let e : o + (c + (n - (o + c))) ≡ n = omega arith in rw e at (part_of c o (n - (o + c)) f)
