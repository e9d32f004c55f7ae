-- A descent, pointer by pointer.
use mathlib.Core.Path.{◌≡◌, refl, ◌∙◌}
use mathlib.Core.Logic.{◌≢◌}
use mathlib.Core.List.{List}
use Prim.Native.Nat.{ℕ, zero, suc, ◌+◌, ◌-◌, ◌*◌, ◌/◌, ◌%◌, ◌≤◌, ◌<◌}
use native.Mathlib.Omega.{arith}
use native.Mathlib.Numerals.{sub-one}
use lib.ListN.{length}
use Rattle.model.specs.Tree.{span, cell}
use Rattle.model.specs.Fresh.{build}
use Rattle.model.specs.Change.{descend}
use Rattle.model.proofs.Spans.{Child, child}
use Rattle.model.proofs.Descent.{descend_on, descend_stop}
use Rattle.trees.specs.declared.Tree.{Tree}
use Rattle.shadows.specs.declared.Spot.{Spot}
use Rattle.shadows.specs.Planning.{Descended}

-- ---- One tree

module _ (W : ℕ) (fresh : ℕ → ℕ) (c new : List ℕ) (t : ℕ) where
  -- where its block is data or is null, or the written bytes lie under several of its pointers, the tree is built anew
  data_stop : (h k n o a : ℕ) → h ≡ 0 → descend W fresh c h k n o new t a ≡ record { at = a; pages = build W fresh c h k n o new t }
  unfolding descend
  data_stop h k n o a e = rw e

  null_stop : (h k n o a : ℕ) → k ≡ 0 → descend W fresh c h k n o new t a ≡ record { at = a; pages = build W fresh c h k n o new t }
  unfolding descend
  null_stop zero k n o a e = refl
  null_stop (suc h) k n o a e = rw e

  wide_stop : (h k n o a : ℕ) → h ≢ 0 → k ≢ 0 → span W (h - 1) < o % span W (h - 1) + length new
      → descend W fresh c h k n o new t a ≡ record { at = a; pages = build W fresh c h k n o new t }
  wide_stop zero k n o a f g l = absurd (f refl)
  wide_stop (suc h) zero n o a f g l = absurd (g refl)
  wide_stop (suc h) (suc k) n o a f g l = descend_stop W fresh c new t h k n o a (rw sub-one at l)

  -- else the descent goes on below it
  go_on : (h k n o a : ℕ) → h ≢ 0 → k ≢ 0 → let s = span W (h - 1) in o % s + length new ≤ s
      → descend W fresh c h k n o new t a ≡ descend W fresh c (h - 1) (cell W c k (o / s) / W) (n - o / s * s) (o % s) new t (W * k + o / s)
  go_on zero k n o a f g l = absurd (f refl)
  go_on (suc h) zero n o a f g l = absurd (g refl)
  go_on (suc h) (suc k) n o a f g l = rw sub-one (descend_on W fresh c new t h k n o a (rw sub-one at l))

-- where byte o of a tree lies that has pointers; m is the span of a child
pub lies : (W : ℕ) → 0 < W → {h o m : ℕ} → h ≢ 0 → m ≡ span W (h - 1) → o < span W h → (o / m < W) × (o % m < span W (h - 1))
lies W pos {h} {o} f em l = let u = under h o f l in (rw em u.which, rw em u.inside)
  where
    under : (h o : ℕ) → h ≢ 0 → o < span W h → Child W (h - 1) o
    under zero o f l = absurd (f refl)
    under (suc h) o f l = rw sub-one (child W pos h o l)

-- ---- Where a descent ends

module _ {W : ℕ} {c : List ℕ} {h k n o : ℕ} {new : List ℕ} {a : ℕ} where
  pub at_data : h ≡ 0 → Descended W c h k n o new a (record { tree = record { height = h; block = k; left = n }; offset = o; at = a })
  at_data e = record { is = λ fresh t. data_stop W fresh c new t h k n o a e; low = omega arith }

  pub at_null : k ≡ 0 → Descended W c h k n o new a (record { tree = record { height = h; block = k; left = n }; offset = o; at = a })
  at_null e = record { is = λ fresh t. null_stop W fresh c new t h k n o a e; low = omega arith }

  -- m is the span of a child
  module _ {m : ℕ} (f : h ≢ 0) (g : k ≢ 0) (em : m ≡ span W (h - 1)) where
    pub at_wide : m < o % m + length new → Descended W c h k n o new a (record { tree = record { height = h; block = k; left = n }; offset = o; at = a })
    at_wide l = record { is = λ fresh t. wide_stop W fresh c new t h k n o a f g (rw em at l); low = omega arith }

    -- one pointer p followed
    pub down : {p x : ℕ} {u : Tree} {r : Spot} → o % m + length new ≤ m → p ≡ cell W c k (o / m) → u ≡ record { height = h - 1; block = p / W; left = n - o / m * m } → x ≡ W * k + o / m
        → Descended W c u.height u.block u.left (o % m) new x r → Descended W c h k n o new a r
    down {p} {x} {u} {r} l ep eu ex d =
        let below : Descended W c (h - 1) (p / W) (n - o / m * m) (o % m) new x r = rw eu at d in
        record {
          is = λ fresh t. go_on W fresh c new t h k n o a f g (rw em at l) ∙ rw (ex, ep, em) at (below.is fresh t);
          low = omega (arith, below.low);
        }
