-- Span facts, with the words per block, W, as a parameter.
use mathlib.Core.Path.{◌≡◌, refl}
use mathlib.Core.Logic.{inl, inr}
use mathlib.Core.List.{List, [], ◌∷◌, map}
use Prim.Native.Nat.{ℕ, zero, suc, ◌+◌, ◌-◌, ◌*◌, ◌/◌, ◌%◌, ◌^◌, ◌≤◌, ◌<◌}
use native.Mathlib.Omega.{arith}
use native.Mathlib.Nat.{pow-zero, pow-succ', mul-one, mul_left_comm, mul-pos, mul-le-mul_right, mod-lt, div-lt_iff_lt-mul, div-add-mod'}
use lib.Arith.{le-zero, digits_lt, digits_div, digits_mod}
use borrow.Author.Tests.{le-leb, lt-leb}
use Rattle.model.specs.Layout.{house}
use Rattle.model.specs.Tree.{span, least, link, walk}
use Rattle.model.specs.Board.{greatest}
use Rattle.model.proofs.Cases.{split}

-- the span of height h: 8 bytes to a word, W words to a block, W children to a pointer block
pub span_power : (W h : ℕ) → span W h ≡ 8 * W ^ suc h
unfolding span
span_power W zero = rw (pow-succ' W 0, pow-zero W, mul-one W)
span_power W (suc h) = rw (span_power W h, mul_left_comm W 8 (W ^ suc h), pow-succ' W (suc h))

-- document 01's figures, and the greatest size
pub house_spans : (span 8 0 ≡ 64) × (span 8 1 ≡ 512) × (span 8 2 ≡ 4096) × (span 8 3 ≡ 32768) × (greatest house ≡ 32768)
unfolding span greatest
house_spans = (refl, refl, refl, refl, refl)

-- and the least sufficient heights on either side of each
pub house_heights : map (least 8 3) (0 ∷ 64 ∷ 65 ∷ 512 ∷ 513 ∷ 4096 ∷ 4097 ∷ 32768 ∷ []) ≡ 0 ∷ 0 ∷ 1 ∷ 1 ∷ 2 ∷ 2 ∷ 3 ∷ 3 ∷ []
unfolding span least
house_heights = refl

-- where byte i of a tree of height h + 1 lies: child `which`, its byte `inside`
pub record Child (W h i : ℕ) : Type 0 where
  pub which : i / span W h < W
  pub inside : i % span W h < span W h
  pub there : i / span W h * span W h + i % span W h ≡ i

module _ (W : ℕ) (pos : 0 < W) where
  pub span_pos : (h : ℕ) → 0 < span W h
  unfolding span
  span_pos zero = omega arith
  span_pos (suc h) = mul-pos pos (span_pos h)

  -- a higher tree spans no less
  pub span_mono : (h h' : ℕ) → h ≤ h' → span W h ≤ span W h'
  unfolding span
  span_mono h zero le = rw (le-zero le) (omega arith)
  span_mono h (suc h') le = elim (split h h') [
    | inl l ↦ omega (arith, span_mono h h' l, mul-le-mul_right (span W h') pos)
    | inr l ↦ let e : h ≡ suc h' = omega arith in rw e (omega arith)
  ]

  -- *child spans*: W children side by side fill a tree's span
  pub child : (h i : ℕ) → i < span W (suc h) → Child W h i
  unfolding span
  child h i l = record {
    which = (div-lt_iff_lt-mul (span_pos h)).1 l;
    inside = mod-lt i (span_pos h);
    there = div-add-mod' i (span W h);
  }

  -- and no other child has the byte
  pub child_only : (h j r : ℕ) → j < W → r < span W h → (j * span W h + r < span W (suc h)) × ((j * span W h + r) / span W h ≡ j) × ((j * span W h + r) % span W h ≡ r)
  unfolding span
  child_only h j r u l = (digits_lt u l, digits_div j l, digits_mod j l)

  -- the walk goes to that child, which has n - j * span of the n bytes below the size
  pub walk_child : (b : List ℕ) (h k n j r : ℕ) → j < W → r < span W h → walk W b (suc h) k n (j * span W h + r) ≡ walk W b h (link W b k j / W) (n - j * span W h) r
  unfolding walk
  walk_child b h k n j r u l = let c = child_only h j r u l in rw (c.1, c.2)

  -- *the least sufficient height*: it is sufficient where any up to the greatest is, it is none above that, and no lower one is sufficient
  pub least_reaches : (h e : ℕ) → e ≤ span W h → e ≤ span W (least W h e)
  unfolding least
  least_reaches zero e l = l
  least_reaches (suc h) e l = elim (split e (span W h)) [
    | inl u ↦ rw (le-leb e (span W h) u) (least_reaches h e u)
    | inr u ↦ rw (lt-leb e (span W h) u) l
  ]

  pub least_within : (h e : ℕ) → least W h e ≤ h
  unfolding least
  least_within zero e = omega arith
  least_within (suc h) e = elim (split e (span W h)) [
    | inl u ↦ rw (le-leb e (span W h) u) (omega (arith, least_within h e))
    | inr u ↦ rw (lt-leb e (span W h) u) (omega arith)
  ]

  pub least_least : (h e x : ℕ) → x < least W h e → span W x < e
  unfolding least
  least_least zero e x l = absurd (omega arith)
  least_least (suc h) e x l = elim (split e (span W h)) [
    | inl u ↦ least_least h e x (rw (le-leb e (span W h) u) at l)
    | inr u ↦ let l' : x < suc h = rw (lt-leb e (span W h) u) at l in omega (arith, span_mono x h (omega arith))
  ]

  -- so a height that is not sufficient is no higher
  pub least_above : (h e x : ℕ) → e ≤ span W h → span W x < e → x ≤ least W h e
  least_above h e x reach more = elim (split x (least W h e)) [
    | inl l ↦ l
    | inr l ↦ absurd (omega (arith, least_reaches h e reach, span_mono (least W h e) x (omega arith)))
  ]
