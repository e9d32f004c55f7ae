-- Counting the live blocks of a tree, one level at a time.
use mathlib.Core.Path.{◌≡◌, refl, ◌∙◌}
use mathlib.Core.Logic.{◌≢◌}
use mathlib.Core.List.{List}
use Prim.Native.Nat.{ℕ, zero, suc, ◌+◌, ◌-◌, ◌*◌, ◌/◌, ◌≤◌, ◌<◌}
use native.Mathlib.Numerals.{add-one, sub-one}
use native.Mathlib.Omega.{arith}
use lib.ListN.{length, length-append}
use Rattle.model.specs.Lists.{joined}
use Rattle.model.specs.Tree.{span, cell}
use Rattle.model.proofs.Spans.{span_pos}
use Rattle.model.proofs.Trees.{child_blocks, blocks_dead, blocks_null, blocks_here, blocks_children}
use Rattle.trees.specs.Trees.{Counted}

-- a block and its first j children, with s the span of each, have `count` blocks
pub record Below (W : ℕ) (b : List ℕ) (h k n s j count : ℕ) : Type 0 where
  pub is : count ≡ 1 + length (joined j (child_blocks W b h k n))
  -- each child has less than s
  pub most : count + j ≤ 1 + j * s

span_down : (W h : ℕ) → h ≢ 0 → span W h ≡ W * span W (h - 1)
unfolding span
span_down W zero high = absurd (high refl)
span_down W (suc h) high = rw sub-one

module _ {W : ℕ} {b : List ℕ} {h k n : ℕ} (two : 1 < W) where
  pub dead : n ≡ 0 → Counted W b h k n 0
  dead e = record { is = rw (e, blocks_dead W b h k); most = span_pos W (omega arith) h }

  pub null : k ≡ 0 → Counted W b h k n 0
  null e = record { is = rw (e, blocks_null W b h n); most = span_pos W (omega arith) h }

  module _ (live : n ≢ 0) (there : k ≢ 0) where
    pub leaf : h ≡ 0 → Counted W b h k n 1
    unfolding span
    leaf e = record { is = rw (blocks_here W b h k n live there, e); most = rw e (omega arith) }

    pub node : {s r : ℕ} → h ≢ 0 → s ≡ span W (h - 1) → Below W b (h - 1) k n s W r → Counted W b h k n r
    node {s} {r} high es c = record {
      is = rw (blocks_here W b h k n live there, blocks_children W b k n h high) (omega (arith, c.is));
      most = rw (span_down W h high, ← es) (omega (arith, c.most));
    }

-- the block alone
pub alone : {W : ℕ} {b : List ℕ} {h k n s : ℕ} → Below W b h k n s 0 1
unfolding joined
alone = record { is = refl; most = omega arith }

-- child j added
module _ (W : ℕ) (b : List ℕ) (h k n j : ℕ) {s count : ℕ} (es : s ≡ span W h) (c : Below W b h k n s j count) where
  joined_more : length (joined (j + 1) (child_blocks W b h k n)) ≡ length (joined j (child_blocks W b h k n)) + length (child_blocks W b h k n j)
  unfolding joined
  joined_more = rw (add-one j) (length-append (joined j (child_blocks W b h k n)) (child_blocks W b h k n j))

  pub add : {p q r : ℕ} → p ≡ cell W b k j → q ≡ p / W → Counted W b h q (n - j * s) r → Below W b h k n s (j + 1) (count + r)
  add {p} {q} {r} ep eq a =
      let e : r ≡ length (child_blocks W b h k n j) = a.is ∙ rw (eq, ep, es) in
      record { is = omega (arith, joined_more, e, c.is); most = omega (arith, es, a.most, c.most) }

  -- or passed over, where it is not live
  pub skip : 1 < W → n ≤ j * s → Below W b h k n s (j + 1) count
  skip two l =
      let z : n - j * span W h ≡ 0 = rw (← es) (omega arith) in
      let none : length (child_blocks W b h k n j) ≡ 0 = rw (z, blocks_dead W b h (cell W b k j / W)) in
      record { is = omega (arith, joined_more, none, c.is); most = omega (arith, es, span_pos W (omega arith) h, c.most) }
