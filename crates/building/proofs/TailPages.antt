-- A write at the end of a tree, child by child: the pages of its fresh subtrees.
use mathlib.Core.Path.{◌≡◌, refl, sym, ap, ◌∙◌}
use mathlib.Core.Logic.{◌≢◌}
use mathlib.Core.List.{List, [], append-nil}
use Prim.Native.Nat.{ℕ, zero, suc, ◌+◌, ◌-◌, ◌*◌, ◌/◌, ◌≤◌, ◌<◌}
use native.Mathlib.Omega.{arith}
use native.Mathlib.Numerals.{sub-one}
use lib.ListN.{length}
use Rattle.model.specs.Lists.{joined}
use Rattle.model.specs.Tree.{span, link}
use Rattle.model.specs.Fresh.{Page, part, part_length, build}
use Rattle.model.specs.InPlace.{tail_need, tail_before, tail_pages}
use Rattle.model.proofs.Cases.{joined_none, length_joined}
use Rattle.model.proofs.Sums.{sum_cong}
use Rattle.model.proofs.Splice.{length_part}
use Rattle.model.proofs.Paths.{untouched_null}
use Rattle.model.proofs.Built.{build_none}
use Rattle.model.proofs.Tailed.{length_tail}
use Rattle.trees.specs.declared.Tree.{Tree}
use Rattle.plans.specs.Onto.{taking}
use Rattle.taking.specs.Taking.{Took}
use Rattle.taking.proofs.Taken as Taken
use Rattle.taking.proofs.Ends as Ends
use Rattle.taking.proofs.Ends.{Along}
use Rattle.taking.proofs.Tails.{joined_next, part_none, before_next}

module _ (W : ℕ) (b free : List ℕ) where
  -- the pages under child j of block k, of height h
  abbrev kid_pages : ℕ → ℕ → ℕ → List ℕ → ℕ → ℕ → List Page
  kid_pages h k n new c j = tail_pages W b (taking free) h (link W b k j / W) (n - j * span W h) (part (span W h) j n new) (c + tail_before W h n (length new) j)

  -- those under the children before j, laid for the blocks taken from the c-th on
  pub record Paged (h k n : ℕ) (new : List ℕ) (c base j : ℕ) (plan plan' : List ℕ) (c' : ℕ) : Type 0 where
    pub took : Took W free plan base c (joined j (kid_pages h k n new c)) plan' c'

  dead_pages : (h k n : ℕ) (new : List ℕ) (c : ℕ) → n ≡ 0 → tail_pages W b (taking free) h k n new c ≡ build W (taking free) b h 0 0 0 new c
  unfolding tail_pages
  dead_pages zero k zero new c dead = refl
  dead_pages zero k (suc n) new c dead = absurd (omega arith)
  dead_pages (suc h) k zero new c dead = refl
  dead_pages (suc h) k (suc n) new c dead = absurd (omega arith)

  leaf_pages : (h k n : ℕ) (new : List ℕ) (c : ℕ) → h ≡ 0 → n ≢ 0 → tail_pages W b (taking free) h k n new c ≡ []
  unfolding tail_pages
  leaf_pages h k zero new c low live = absurd (live refl)
  leaf_pages zero k (suc n) new c low live = refl
  leaf_pages (suc h) k (suc n) new c low live = absurd (omega arith)

  tree_pages_law : (h k n : ℕ) (new : List ℕ) (c : ℕ) → h ≢ 0 → n ≢ 0 → tail_pages W b (taking free) h k n new c ≡ joined W (kid_pages (h - 1) k n new c)
  unfolding tail_pages
  tree_pages_law zero k n new c high live = absurd (high refl)
  tree_pages_law (suc h) k zero new c high live = absurd (live refl)
  tree_pages_law (suc h) k (suc n) new c high live = rw sub-one

  -- no bytes, no pages
  empty_pages : 0 < W → (h k n : ℕ) (new : List ℕ) (c : ℕ) → length new ≡ 0 → tail_pages W b (taking free) h k n new c ≡ []
  unfolding tail_pages
  empty_pages pos zero k zero new c e = build_none W pos b (taking free) zero 0 0 0 new c (untouched_null W zero 0 0 0 (length new) e refl)
  empty_pages pos zero k (suc n) new c e = refl
  empty_pages pos (suc h) k zero new c e = build_none W pos b (taking free) (suc h) 0 0 0 new c (untouched_null W (suc h) 0 0 0 (length new) e refl)
  empty_pages pos (suc h) k (suc n) new c e = joined_none W _ (λ j l. empty_pages pos h (link W b k j / W) (suc n - j * span W h) (part (span W h) j (suc n) new)
      (c + tail_before W h (suc n) (length new) j) (part_none (span W h) j (suc n) new e))

  pages_lengths : 0 < W → (h k n : ℕ) (new : List ℕ) (c m : ℕ) → length (joined m (kid_pages h k n new c)) ≡ tail_before W h n (length new) m
  unfolding tail_before
  pages_lengths pos h k n new c m = length_joined m (kid_pages h k n new c)
      ∙ sum_cong m _ _ (λ j l. length_tail W pos b (taking free) h (link W b k j / W) (n - j * span W h) (part (span W h) j n new) _
      ∙ ap (tail_need W h (n - j * span W h)) (length_part (span W h) j n new))

module _ (W : ℕ) (b free : List ℕ) (h k n : ℕ) (new : List ℕ) {c base : ℕ} {plan : List ℕ} where
  -- a pointer that isn't live
  pub took_dead : {plan' : List ℕ} {c' : ℕ} → n ≡ 0 → Took W free plan base c (build W (taking free) b h 0 0 0 new c) plan' c'
      → Took W free plan base c (tail_pages W b (taking free) h k n new c) plan' c'
  took_dead e = Taken.same_pages (sym (dead_pages W b free h k n new c e))

  -- a live data block
  pub took_leaf : h ≡ 0 → n ≢ 0 → Took W free plan base c (tail_pages W b (taking free) h k n new c) plan c
  took_leaf low live = Taken.same_pages (sym (leaf_pages W b free h k n new c low live)) Taken.none

  -- all children
  pub took_tree : {j c' : ℕ} {plan' : List ℕ} → h ≢ 0 → n ≢ 0 → j ≡ W → Paged W b free (h - 1) k n new c base j plan plan' c'
      → Took W free plan base c (tail_pages W b (taking free) h k n new c) plan' c'
  took_tree high live e p = Taken.same_pages (ap (λ (i : ℕ). joined i (kid_pages W b free (h - 1) k n new c)) e ∙ sym (tree_pages_law W b free h k n new c high live)) p.took

module _ {W : ℕ} (pos : 0 < W) {b free : List ℕ} {h k n : ℕ} {new : List ℕ} {c base : ℕ} {plan : List ℕ} where
  pages_start : Paged W b free h k n new c base 0 plan plan c
  unfolding joined
  pages_start = record { took = Taken.none }

  module _ {j taken : ℕ} {plan' : List ℕ} (p : Paged W b free h k n new c base j plan plan' taken) where
    -- the count tells how many lie under the children before j
    pages_count : taken ≡ c + tail_before W h n (length new) j
    pages_count = p.took.next ∙ ap (λ (x : ℕ). c + x) (pages_lengths W b free pos h k n new c j)

    module _ {s : ℕ} {own : List ℕ} (es : s ≡ span W h) (ep : own ≡ part s j n new) where
      -- nothing is written under child j
      pages_skip : length own ≡ 0 → Paged W b free h k n new c base (j + 1) plan plan' taken
      pages_skip e =
          let kid : ℕ → List Page = kid_pages W b free h k n new c in
          let none : kid j ≡ [] = empty_pages W b free pos h _ _ (part (span W h) j n new) _ (rw (← es, ← ep) e) in
          record { took = Taken.same_pages (sym (joined_next j kid ∙ rw none (append-nil (joined j kid)))) p.took }

      -- something is
      pub pages_step : {x taken' : ℕ} {u : Tree} {plan'' : List ℕ} → x ≡ link W b k j → u ≡ record { height = h; block = x / W; left = n - j * s }
          → Took W free plan' base taken (tail_pages W b (taking free) u.height u.block u.left own taken) plan'' taken' → Paged W b free h k n new c base (j + 1) plan plan'' taken'
      pages_step {x} {taken'} {u} ex eu t =
          let kid : ℕ → List Page = kid_pages W b free h k n new c in
          let same : tail_pages W b (taking free) u.height u.block u.left own taken ≡ kid j = rw (eu, ex, ep, pages_count, es) in
          record { took = Taken.same_pages (sym (joined_next j kid)) (Taken.more p.took (Taken.same_pages same t)) }

      -- what child j takes is among what all take
      pub pages_room : {d : ℕ} {u : Tree} → j < W → u ≡ record { height = h; block = d; left = n - j * s } → taken + tail_need W u.height u.left (length own) ≤ c + tail_before W h n (length new) W
      pages_room less eu = rw (eu, ep, es, length_part (span W h) j n new) (omega (arith, pages_count, before_next W h n (length new) j less))

  module _ {s : ℕ} (es : s ≡ span W h) where
    skip : (taken : ℕ) (plan' : List ℕ) (j : ℕ) → part_length s j n (length new) ≡ 0 → Paged W b free h k n new c base j plan plan' taken → Paged W b free h k n new c base (j + 1) plan plan' taken
    skip taken plan' j e p = pages_skip p es refl (length_part s j n new ∙ e)

    -- before child n / s nothing is written
    pub pages_begin : (w : ℕ) → Along (λ j. Paged W b free h k n new c base j plan plan c) s n w (n / s)
    pages_begin w = Ends.begin (λ j. Paged W b free h k n new c base j plan plan c) (length new) (skip c plan) w pages_start

    -- nor is anything from child j on, if nothing is there
    pub pages_over : {w j taken : ℕ} {plan' own : List ℕ} → Along (λ j. Paged W b free h k n new c base j plan plan' taken) s n w j → 0 < s → j < w → own ≡ part s j n new → length own ≡ 0
        → Paged W b free h k n new c base w plan plan' taken
    pages_over {w} {j} {taken} {plan'} a pos less ep e = Ends.over a (length new) (skip taken plan') pos less (sym (length_part s j n new) ∙ (rw ep at e))
