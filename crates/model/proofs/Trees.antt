-- A tree (h, k, n) one level at a time: under a pointer that isn't live and under a null one there is nothing; at a live block, the block and what
-- lies beneath it. Code that tests n, k and h in turn is proved from these laws.
use Rattle.std.specs.Prelude.{Some, None}
use mathlib.Core.Path.{◌≡◌, refl, sym}
use mathlib.Core.Logic.{◌≢◌}
use mathlib.Core.Bool.{Bool, true, false, ◌&&◌, and-true}
use mathlib.Core.List.{List, [], ◌∷◌}
use Prim.Native.Nat.{ℕ, zero, suc, ◌-◌, ◌*◌, ◌/◌, ◌%◌, ◌<◌}
use native.Mathlib.Omega.{arith}
use native.Mathlib.Nat.{zero-sub, zero-div}
use native.Mathlib.Numerals.{sub-one}
use lib.Dec.{ltb}
use Rattle.model.specs.Lists.{every, joined}
use Rattle.model.specs.Tree.{live, ending, span, aligned, cell, link, walk, blocks, sound}

pub live_some : (n : ℕ) → 0 < n → live n ≡ true
unfolding live
live_some zero l = absurd (omega arith)
live_some (suc n) l = refl

pub live_none : (n : ℕ) → n ≡ 0 → live n ≡ false
unfolding live
live_none zero e = refl
live_none (suc n) e = absurd (omega arith)

-- child j of block k, where children have height h
module _ (W : ℕ) (b : List ℕ) (h k n j : ℕ) where
  abbrev pub child_blocks : List ℕ
  child_blocks = blocks W b h (cell W b k j / W) (n - j * span W h)

  abbrev pub child_sound : ℕ → Bool
  child_sound top = aligned W (n - j * span W h) (cell W b k j) && sound W b top h (cell W b k j / W) (n - j * span W h)

-- what lies beneath block k, of height h
module _ (W : ℕ) (b : List ℕ) (k n : ℕ) where
  abbrev pub blocks_under : ℕ → List ℕ
  blocks_under zero = []
  blocks_under (suc h) = joined W (child_blocks W b h k n)

  abbrev pub sound_under : ℕ → ℕ → Bool
  sound_under top zero = true
  sound_under top (suc h) = every W (λ j. child_sound W b h k n j top)

  -- above height 0 these are its children
  pub blocks_children : (h : ℕ) → h ≢ 0 → blocks_under h ≡ joined W (child_blocks W b (h - 1) k n)
  blocks_children zero f = absurd (f refl)
  blocks_children (suc h) f = rw sub-one

  pub sound_children : (top h : ℕ) → h ≢ 0 → sound_under top h ≡ every W (λ j. child_sound W b (h - 1) k n j top)
  sound_children top zero f = absurd (f refl)
  sound_children top (suc h) f = rw sub-one

module _ (W : ℕ) (b : List ℕ) where
  -- not live
  pub walk_dead : (h k i : ℕ) → walk W b h k 0 i ≡ None
  unfolding walk ending
  walk_dead zero zero i = refl
  walk_dead zero (suc k) i = refl
  walk_dead (suc h) k i = rw zero-sub (walk_dead h (link W b k (i / span W h) / W) (i % span W h))

  pub blocks_dead : (h k : ℕ) → blocks W b h k 0 ≡ []
  unfolding blocks
  blocks_dead zero zero = refl
  blocks_dead zero (suc k) = refl
  blocks_dead (suc h) zero = refl
  blocks_dead (suc h) (suc k) = refl

  pub sound_dead : (top h k : ℕ) → sound W b top h k 0 ≡ true
  unfolding sound
  sound_dead top zero zero = refl
  sound_dead top zero (suc k) = refl
  sound_dead top (suc h) zero = refl
  sound_dead top (suc h) (suc k) = refl

  -- null
  pub walk_null : (h n i : ℕ) → walk W b h 0 n i ≡ None
  unfolding walk ending link
  walk_null zero n i = refl
  walk_null (suc h) n i = rw (zero-div W) (walk_null h (n - i / span W h * span W h) (i % span W h))

  pub blocks_null : (h n : ℕ) → blocks W b h 0 n ≡ []
  unfolding blocks
  blocks_null zero n = refl
  blocks_null (suc h) n = refl

  pub sound_null : (top h n : ℕ) → sound W b top h 0 n ≡ true
  unfolding sound
  sound_null top zero n = refl
  sound_null top (suc h) n = refl

  -- a live block
  pub walk_here : (k n i : ℕ) → n ≢ 0 → k ≢ 0 → walk W b 0 k n i ≡ Some k
  unfolding walk ending
  walk_here zero n i live there = absurd (there refl)
  walk_here (suc k) zero i live there = absurd (live refl)
  walk_here (suc k) (suc n) i live there = refl

  pub walk_down : (h k n i : ℕ) → h ≢ 0 → k ≢ 0 → let s = span W (h - 1) in
      walk W b h k n i ≡ walk W b (h - 1) (cell W b k (i / s) / W) (n - i / s * s) (i % s)
  unfolding walk link
  walk_down zero k n i high there = absurd (high refl)
  walk_down (suc h) zero n i high there = absurd (there refl)
  walk_down (suc h) (suc k) n i high there = rw sub-one

  pub blocks_here : (h k n : ℕ) → n ≢ 0 → k ≢ 0 → blocks W b h k n ≡ k ∷ blocks_under W b k n h
  unfolding blocks
  blocks_here h k zero live there = absurd (live refl)
  blocks_here h zero (suc n) live there = absurd (there refl)
  blocks_here zero (suc k) (suc n) live there = refl
  blocks_here (suc h) (suc k) (suc n) live there = refl

  pub sound_here : (top h k n : ℕ) → n ≢ 0 → k ≢ 0 → sound W b top h k n ≡ (ltb k top && sound_under W b k n top h)
  unfolding sound
  sound_here top h k zero live there = absurd (live refl)
  sound_here top h zero (suc n) live there = absurd (there refl)
  sound_here top zero (suc k) (suc n) live there = sym (and-true (ltb (suc k) top))
  sound_here top (suc h) (suc k) (suc n) live there = refl
