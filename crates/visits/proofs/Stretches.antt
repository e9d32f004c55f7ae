-- The stretches of m bytes that some bytes meet, piece by piece, and the walks to them.
use mathlib.Core.Path.{◌≡◌, refl, sym, ◌∙◌}
use mathlib.Core.Logic.{◌≢◌}
use mathlib.Core.List.{List}
use Prim.Native.Nat.{ℕ, zero, suc, ◌+◌, ◌-◌, ◌*◌, ◌/◌, ◌%◌, ◌≤◌, ◌<◌}
use native.Mathlib.Nat.{div-add-mod', mul-div_cancel, add-zero}
use native.Mathlib.Numerals.{sub-one}
use native.Mathlib.Omega.{arith}
use lib.Arith.{digits_div, digits_mod}
use Rattle.model.specs.Tree.{span}
use Rattle.model.specs.Board.{root_visits}
use Rattle.model.specs.Calls.{stretch_count}
use Rattle.model.proofs.Walks.{block_pos}
use Rattle.visits.proofs.Same.{root_visits_same}

-- two bytes of one stretch
pub near : (m x j : ℕ) → x % m + j < m → ((x + j) / m ≡ x / m) × ((x + j) % m ≡ x % m + j)
near m x j l = let e : x + j ≡ x / m * m + (x % m + j) = omega (arith, div-add-mod' x m) in (rw e (digits_div (x / m) l), rw e (digits_mod (x / m) l))

module _ (m o : ℕ) where
  -- those from the first byte's to the last byte's
  pub stretch_some : (l : ℕ) → l ≢ 0 → stretch_count m o l ≡ (o + (l - 1)) / m - o / m + 1
  unfolding stretch_count
  stretch_some zero some = absurd (some refl)
  stretch_some (suc l) some = rw sub-one (omega arith)

  -- the stretch that follows the d bytes from o on is the one after those that they meet
  abbrev pub Next : ℕ → Type 0
  Next d = o / m + stretch_count m o d ≡ (o + d) / m

  pub next_first : Next 0
  unfolding stretch_count
  next_first = rw (add-zero (o / m), add-zero o)

  -- l bytes more, of one stretch, are one stretch more
  module _ (d l : ℕ) (some : 0 < l) (inside : (o + d) % m + l ≤ m) (next : Next d) where
    pub stretch_more : stretch_count m o (d + l) ≡ suc (stretch_count m o d)
    stretch_more = let e : o + (d + l - 1) ≡ o + d + (l - 1) = omega arith in
        stretch_some (d + l) (omega arith) ∙ rw (e, (near m (o + d) (l - 1) (omega arith)).0) (omega (arith, next))

    -- and where they end it, the next one follows
    pub next_more : (o + d) % m + l ≡ m → Next (d + l)
    next_more full =
        let e : o + (d + l) ≡ suc ((o + d) / m) * m + 0 = omega (arith, div-add-mod' (o + d) m) in
        rw (stretch_more, e, digits_div (suc ((o + d) / m)) {m = m} {r = 0} (omega arith)) (omega (arith, next))

-- ---- The blocks visited

-- the walk to the byte after d others is the one that the sum has next
pub next_visits : (W : ℕ) → 0 < W → (b : List ℕ) (root n o d : ℕ) → Next (span W 0) o d
    → root_visits W b root n (o + d) ≡ root_visits W b root n ((o / span W 0 + stretch_count (span W 0) o d) * span W 0)
unfolding span
next_visits W pos b root n o d next = root_visits_same W pos b root n (o + d) ((o / (8 * W) + stretch_count (8 * W) o d) * (8 * W))
    (sym (rw next (mul-div_cancel ((o + d) / (8 * W)) (block_pos W pos))))
