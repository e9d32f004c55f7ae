-- A walk's visits go by blocks: to two bytes of one block it visits as many.
use mathlib.Core.Path.{◌≡◌, refl}
use mathlib.Core.List.{List}
use Prim.Native.Nat.{ℕ, zero, suc, ◌-◌, ◌*◌, ◌/◌, ◌%◌, ◌<◌}
use Rattle.model.specs.Tree.{span, link, visits}
use Rattle.model.specs.Board.{root_visits}
use Rattle.model.proofs.Walks.{div_same, mod_same, within_same}

module _ (W : ℕ) (pos : 0 < W) where
  visits_same : (b : List ℕ) (h k n i i' : ℕ) → i / (8 * W) ≡ i' / (8 * W) → visits W b h k n i ≡ visits W b h k n i'
  unfolding visits
  visits_same b zero k n i i' e = refl
  visits_same b (suc h) k n i i' e =
      let s : ℕ = span W h in
      rw (div_same W pos i i' e h, visits_same b h (link W b k (i' / s) / W) (n - i' / s * s) (i % s) (i' % s) (mod_same W pos i i' e h))

  pub root_visits_same : (b : List ℕ) (r n i i' : ℕ) → i / (8 * W) ≡ i' / (8 * W) → root_visits W b r n i ≡ root_visits W b r n i'
  unfolding root_visits
  root_visits_same b r n i i' e = rw (within_same W pos i i' (r % W) e, visits_same b (r % W) (r / W) n i i' e)
