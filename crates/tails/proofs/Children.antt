-- A write at the end of a tree, child by child: the stores to words that exist.
use mathlib.Core.Path.{◌≡◌, refl, sym, ap, ◌∙◌}
use mathlib.Core.Logic.{◌≢◌}
use mathlib.Core.List.{List, [], ◌∷◌, append-nil}
use Prim.Native.Nat.{ℕ, zero, suc, ◌+◌, ◌-◌, ◌*◌, ◌/◌, ◌≤◌, ◌<◌}
use native.Mathlib.Omega.{arith}
use native.Mathlib.Numerals.{sub-one}
use lib.ListN.{length}
use Rattle.model.specs.Lists.{joined}
use Rattle.model.specs.Tree.{span, cell}
use Rattle.model.specs.Store.{Store, store, laid}
use Rattle.model.specs.Fresh.{part}
use Rattle.model.specs.InPlace.{tail_before, tail_words, hooked, in_place}
use Rattle.model.proofs.Cases.{length_joined}
use Rattle.model.proofs.Sums.{sum_next}
use Rattle.model.proofs.InPlaceStores.{empty_stores}
use Rattle.trees.specs.declared.Tree.{Tree}
use Rattle.plans.specs.Laying.{Laid}
use Rattle.plans.proofs.Laying as Laying
use Rattle.taking.proofs.Tails.{joined_next}
use Rattle.tails.specs.Stores.{word_stores}

module _ (W : ℕ) (b : List ℕ) (hook : ℕ → ℕ → ℕ → ℕ) where
  -- the stores under child j of block k, of height h
  abbrev pub kid_stores : ℕ → ℕ → ℕ → List ℕ → ℕ → ℕ → List Store
  kid_stores h k n new c j = in_place W b hook h (cell W b k j / W) (n - j * span W h) (part (span W h) j n new) (c + tail_before W h n (length new) j) (W * k + j)

  -- those under the children before j, laid from place p on
  pub record Placed (h k n : ℕ) (new : List ℕ) (c p j : ℕ) (plan plan' : List ℕ) (p' : ℕ) : Type 0 where
    pub laid : Laid plan p (joined j (kid_stores h k n new c)) plan' p'

  null_stores : (h k n : ℕ) (new : List ℕ) (c a : ℕ) → k ≡ 0 → n ≢ 0 → in_place W b hook h k n new c a ≡ []
  unfolding in_place
  null_stores h k zero new c a null live = absurd (live refl)
  null_stores h (suc k) (suc n) new c a null live = absurd (omega arith)
  null_stores zero zero (suc n) new c a null live = refl
  null_stores (suc h) zero (suc n) new c a null live = refl

  pub data_stores : (h k n : ℕ) (new : List ℕ) (c a : ℕ) → h ≡ 0 → k ≢ 0 → n ≢ 0 → in_place W b hook h k n new c a ≡ word_stores W b k n (length new) new
  unfolding in_place tail_words word_stores
  data_stores h k zero new c a low there live = absurd (live refl)
  data_stores h zero (suc n) new c a low there live = absurd (there refl)
  data_stores zero (suc k) (suc n) new c a low there live = refl
  data_stores (suc h) (suc k) (suc n) new c a low there live = absurd (omega arith)

  pub tree_stores : (h k n : ℕ) (new : List ℕ) (c a : ℕ) → h ≢ 0 → k ≢ 0 → n ≢ 0 → in_place W b hook h k n new c a ≡ joined W (kid_stores (h - 1) k n new c)
  unfolding in_place
  tree_stores h k zero new c a high there live = absurd (live refl)
  tree_stores h zero (suc n) new c a high there live = absurd (there refl)
  tree_stores zero (suc k) (suc n) new c a high there live = absurd (high refl)
  tree_stores (suc h) (suc k) (suc n) new c a high there live = rw sub-one

  -- a pointer that isn't live, over written bytes
  hook_stores : (h k n : ℕ) (new : List ℕ) (c a : ℕ) → n ≡ 0 → length new ≢ 0 → in_place W b hook h k n new c a ≡ store a (hook h (length new) c) ∷ []
  unfolding in_place hooked
  hook_stores h k (suc n) new c a dead some = absurd (omega arith)
  hook_stores h k zero [] c a dead some = absurd (some refl)
  hook_stores zero k zero (x ∷ new) c a dead some = refl
  hook_stores (suc h) k zero (x ∷ new) c a dead some = refl

module _ (W : ℕ) (b : List ℕ) (hook : ℕ → ℕ → ℕ → ℕ) (h k n : ℕ) (new : List ℕ) (c a : ℕ) {p : ℕ} {plan : List ℕ} where
  -- nothing is written
  pub laid_empty : length new ≡ 0 → Laid plan p (in_place W b hook h k n new c a) plan p
  laid_empty e = Laying.same_pairs (sym (empty_stores W b hook h k n new c a e)) Laying.none

  -- a live hole stays
  pub laid_null : k ≡ 0 → n ≢ 0 → Laid plan p (in_place W b hook h k n new c a) plan p
  laid_null null live = Laying.same_pairs (sym (null_stores W b hook h k n new c a null live)) Laying.none

  module _ {plan' : List ℕ} where
    -- a fresh tree is hooked
    pub laid_hook : {v : ℕ} → n ≡ 0 → length new ≢ 0 → v ≡ hook h (length new) c → plan' ≡ laid plan p (store a v ∷ [])
        → Laid plan p (in_place W b hook h k n new c a) plan' (p + 1)
    laid_hook dead some ev e = Laying.same_pairs (sym (hook_stores W b hook h k n new c a dead some)) (Laying.one (rw ev at e))

    -- all children
    pub laid_tree : {j p' : ℕ} → h ≢ 0 → k ≢ 0 → n ≢ 0 → j ≡ W → Placed W b hook (h - 1) k n new c p j plan plan' p'
        → Laid plan p (in_place W b hook h k n new c a) plan' p'
    laid_tree high there live e l =
        Laying.same_pairs (ap (λ (i : ℕ). joined i (kid_stores W b hook (h - 1) k n new c)) e ∙ sym (tree_stores W b hook h k n new c a high there live)) l.laid

module _ {W : ℕ} {b : List ℕ} {hook : ℕ → ℕ → ℕ → ℕ} {h k n : ℕ} {new : List ℕ} {c p : ℕ} {plan : List ℕ} where
  pub stores_start : Placed W b hook h k n new c p 0 plan plan p
  unfolding joined
  stores_start = record { laid = Laying.none }

  module _ {j q : ℕ} {plan' : List ℕ} (l : Placed W b hook h k n new c p j plan plan' q)
      {s : ℕ} {own : List ℕ} (es : s ≡ span W h) (ep : own ≡ part s j n new) where
    -- nothing is written under child j
    pub stores_skip : length own ≡ 0 → Placed W b hook h k n new c p (j + 1) plan plan' q
    stores_skip e =
        let kid : ℕ → List Store = kid_stores W b hook h k n new c in
        let none : kid j ≡ [] = empty_stores W b hook h _ _ (part (span W h) j n new) _ _ (rw (← es, ← ep) e) in
        record { laid = Laying.same_pairs (sym (joined_next j kid ∙ rw none (append-nil (joined j kid)))) l.laid }

    module _ {x taken a : ℕ} {u : Tree} (ex : x ≡ cell W b k j) (eu : u ≡ record { height = h; block = x / W; left = n - j * s })
        (ec : taken ≡ c + tail_before W h n (length new) j) (ea : a ≡ W * k + j) where
      same : in_place W b hook u.height u.block u.left own taken a ≡ kid_stores W b hook h k n new c j
      same = rw (eu, ea, ex, ep, ec, es)

      -- something is
      pub stores_step : {q' : ℕ} {plan'' : List ℕ} → Laid plan' q (in_place W b hook u.height u.block u.left own taken a) plan'' q'
          → Placed W b hook h k n new c p (j + 1) plan plan'' q'
      stores_step t = record { laid = Laying.same_pairs (sym (joined_next j (kid_stores W b hook h k n new c))) (Laying.more l.laid (Laying.same_pairs same t)) }

      -- the stores under child j are among all
      pub stores_room : j < W → q + length (in_place W b hook u.height u.block u.left own taken a) ≤ p + length (joined W (kid_stores W b hook h k n new c))
      stores_room less =
          let kid : ℕ → List Store = kid_stores W b hook h k n new c in
          rw same (omega (arith, l.laid.next, length_joined j kid, length_joined W kid, sum_next W (λ i. length (kid i)) j less))
