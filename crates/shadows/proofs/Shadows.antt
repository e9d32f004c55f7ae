-- Both shadows: the pairs laid are those of the plan.
use mathlib.Core.Path.{◌≡◌, refl}
use mathlib.Core.List.{List, [], ◌∷◌}
use Prim.Native.Nat.{ℕ, ◌+◌, ◌-◌, ◌*◌, ◌/◌, ◌%◌, max}
use lib.ListN.{length, get_or}
use Rattle.model.specs.declared.Inode.{Inode}
use Rattle.model.specs.Layout.{Layout}
use Rattle.model.specs.Store.{store}
use Rattle.model.specs.Fresh.{build}
use Rattle.model.specs.Change.{shadow_inside, leaf_page, shadow_with_length}
use Rattle.trees.specs.declared.Tree.{Tree}
use Rattle.plans.specs.Laying.{closing, Laid, PlanLaid}
use Rattle.plans.specs.Onto.{taking}
use Rattle.taking.specs.Taking.{Took}
use Rattle.taking.proofs.Taken as Taken
use Rattle.plans.proofs.OneStep.{one_step}
use Rattle.shadows.specs.declared.Spot.{Spot}
use Rattle.shadows.specs.Planning.{Descended}

-- g's words are W; p and q are the places before the fresh pages and behind them
module _ (g : Layout) {W : ℕ} (is : g.words ≡ W) (c : List ℕ) (n : Inode) {free plan plan₁ : List ℕ} {base t t' p q : ℕ} (ep : p ≡ base + W * t) (eq : q ≡ base + W * t') where
  module _ {u : Tree} (eu : u ≡ record { height = n.root % W; block = n.root / W; left = n.size }) where
    -- shadow inside; v is the pointer to the fresh tree, x the word that stood where it goes
    pub inside_laid : {new plan₂ : List ℕ} {o x low v r : ℕ} {spot : Spot} → Descended W c u.height u.block u.left o new n.at spot
        → Took W free plan base t (build W (taking free) c spot.tree.height spot.tree.block spot.tree.left spot.offset new t) plan₁ t'
        → x ≡ get_or c spot.at 0 → low ≡ x % W → v ≡ W * taking free (t' - 1) → Laid plan₁ q (closing (q - p) (store spot.at (v + low))) plan₂ r
        → PlanLaid plan (base + W * t) (shadow_inside g (taking free) c n o new t) plan₂ (record { pairs = r; taken = t' })
    unfolding shadow_inside
    inside_laid {new} {o = o} {low = low} {v} {spot = spot} d took ex el ev l =
        let down : Descended W c (n.root % W) (n.root / W) n.size o new n.at spot = rw eu at d in
        rw (is, down.is (taking free) t, ← took.next, ← ex, ← el, ← ev) (one_step spot.at (v + low) t' (Taken.laid_pages took) (rw (eq, ep) at l) refl)

  -- shadow with length; v is the pointer to the fresh tree, x that to the leaf, behind the first t₁ blocks
  pub with_length_laid : (o : ℕ) (new : List ℕ) {plan₂ plan₃ : List ℕ} {u : Tree} {m t₁ v x r : ℕ} → u ≡ record { height = n.root % W; block = n.root / W; left = n.size }
      → Took W free plan base t (build W (taking free) c u.height u.block u.left o new t) plan₁ t₁ → v ≡ W * taking free (t₁ - 1) → m ≡ max n.size (o + length new)
      → Took W free plan₁ base t₁ (leaf_page W c n.at (v + u.height) m ∷ []) plan₂ t' → x ≡ W * taking free t₁ → Laid plan₂ q (closing (q - p) (store n.pointer x)) plan₃ r
      → PlanLaid plan (base + W * t) (shadow_with_length g (taking free) c n o new t) plan₃ (record { pairs = r; taken = t' })
  unfolding shadow_with_length
  with_length_laid o new {t₁ = t₁} {x = x} eu took ev em copy ex l =
      let built = rw eu at took in
      rw (is, ← built.next, ← em, ← ev, ← ex) (one_step n.pointer x (t₁ + 1) (Taken.laid_pages (Taken.more built (rw eu at copy))) (rw (eq, ep) at l) copy.next)
