-- A crawl, one level at a time. A record's parameters are found from the goal, so all but the facts are implicit.
use mathlib.Core.Path.{◌≡◌, refl, ◌∙◌}
use mathlib.Core.Logic.{◌≢◌}
use mathlib.Core.Bool.{Bool, true, false, ◌&&◌}
use mathlib.Core.List.{List, [], ◌∷◌, ◌++◌}
use Prim.Native.Nat.{ℕ, zero, suc, ◌-◌, ◌*◌, ◌/◌, ◌%◌, ◌≤◌, ◌<◌}
use native.Mathlib.Nat.{mul-le-mul_right}
use native.Mathlib.Omega.{arith}
use lib.Dec.{ltb, eqb}
use borrow.Author.Tests.{eq-eqb, ne_eqb}
use Rattle.model.specs.Lists.{every, joined}
use Rattle.model.specs.Tree.{span, aligned, cell}
use Rattle.model.proofs.Trees.{child_blocks, child_sound, blocks_under, sound_under, blocks_children, sound_children, blocks_dead, blocks_null, blocks_here, sound_dead, sound_null, sound_here}
use Rattle.trees.specs.Marks.{Marked}
use Rattle.trees.specs.Trees.{Crawled, Beneath}
use Rattle.trees.proofs.Marking

module _ (W top : ℕ) (b : List ℕ) (h k n : ℕ) where
  abbrev pub kid_sound : ℕ → Bool
  kid_sound j = child_sound W b h k n j top

module _ {W top : ℕ} {b m : List ℕ} {h k n : ℕ} where
  pub dead : n ≡ 0 → Crawled W top b h k n m true m
  dead e = record { crawled = Marking.nothing (rw e (sound_dead W b top h k)) (rw e (blocks_dead W b h k)) }

  pub null : k ≡ 0 → Crawled W top b h k n m true m
  null e = record { crawled = Marking.nothing (rw e (sound_null W b top h n)) (rw e (blocks_null W b h n)) }

  module _ (live : n ≢ 0) (there : k ≢ 0) where
    -- the block itself, and what lies beneath it
    here : {ok : Bool} {m' : List ℕ} → Marked (ltb k top && sound_under W b k n top h) ((k ∷ []) ++ blocks_under W b k n h) m ok m' → Crawled W top b h k n m ok m'
    here c = record { crawled = Marking.same (sound_here W b top h k n live there) (blocks_here W b h k n live there) c }

    module _ {ok : Bool} {m₀ : List ℕ} (c : Marked (ltb k top) (k ∷ []) m ok m₀) where
      pub refused : {m' : List ℕ} → ok ≡ false → Crawled W top b h k n m false m'
      refused z = here (Marking.fall (sound_under W b k n top h) (blocks_under W b k n h) c z)

      pub leaf : ok ≡ true → h ≡ 0 → Crawled W top b h k n m true m₀
      leaf z e = here (Marking.both c z (Marking.nothing (rw e) (rw e)))

      pub node : {ok' : Bool} {m' : List ℕ} → ok ≡ true → h ≢ 0 → Marked (every W (kid_sound W top b (h - 1) k n)) (joined W (child_blocks W b (h - 1) k n)) m₀ ok' m' → Crawled W top b h k n m ok' m'
      node z f d = here (Marking.both c z (Marking.same (sound_children W b k n top h f) (blocks_children W b k n h f) d))

      -- the same by a width that is W
      pub node_by : {w : ℕ} {ok' : Bool} {m' : List ℕ} → w ≡ W → ok ≡ true → h ≢ 0
          → Marked (every w (kid_sound W top b (h - 1) k n)) (joined w (child_blocks W b (h - 1) k n)) m₀ ok' m' → Crawled W top b h k n m ok' m'
      node_by e z f d = node z f (rw e at d)

      -- a block right above data
      pub low : {ok' : Bool} {m' : List ℕ} → ok ≡ true → h ≡ 1 → Beneath W top b 0 k n m₀ ok' m' → Crawled W top b h k n m ok' m'
      low z e d = let q : h - 1 ≡ 0 = omega arith in node z (λ f. omega arith) (rw q d.crawled)

-- a live pointer's low bits
aligned_live : (W n w : ℕ) → n ≢ 0 → aligned W n w ≡ eqb (w % W) 0
unfolding aligned
aligned_live W zero w live = absurd (live refl)
aligned_live W (suc n) w live = refl

-- child j, where s is the span of each
module _ (W top : ℕ) (b : List ℕ) (h k n j : ℕ) {s : ℕ} (es : s ≡ span W h) where
  pub kid_dead : {m : List ℕ} → n ≤ j * s → Marked (kid_sound W top b h k n j) (child_blocks W b h k n j) m true m
  unfolding aligned
  kid_dead q =
      let q' : n ≤ j * span W h = rw es at q in
      let e : n - j * span W h ≡ 0 = omega arith in
      Marking.nothing (rw e (sound_dead W b top h (cell W b k j / W))) (rw e (blocks_dead W b h (cell W b k j / W)))

  -- its pointer p has the low bits l
  module _ {p l : ℕ} (ep : p ≡ cell W b k j) (el : l ≡ p % W) (q : j * s < n) where
    aligned_kid : aligned W (n - j * span W h) (cell W b k j) ≡ eqb l 0
    aligned_kid = let q' : j * span W h < n = rw es at q in aligned_live W (n - j * span W h) (cell W b k j) (λ e. omega arith) ∙ rw (el, ep)

    pub kid_low : {m m' : List ℕ} → l ≢ 0 → Marked (kid_sound W top b h k n j) (child_blocks W b h k n j) m false m'
    kid_low f = Marking.fault (rw (aligned_kid, ne_eqb l 0 f))

    pub kid_live : {d : ℕ} {m m' : List ℕ} {ok : Bool} → d ≡ p / W → l ≡ 0 → Crawled W top b h d (n - j * s) m ok m' → Marked (kid_sound W top b h k n j) (child_blocks W b h k n j) m ok m'
    kid_live ed e c = Marking.same (rw (aligned_kid, eq-eqb l 0 e)) refl (rw (ed, ep, es) at c.crawled)

-- from child j on none is live: those below it are all there are
pub kids_dead : (W top : ℕ) (b : List ℕ) (h k n j : ℕ) {s N : ℕ} {m m' : List ℕ} → s ≡ span W h → Marking.Going (kid_sound W top b h k n) (child_blocks W b h k n) m j m' → n ≤ j * s → j ≤ N →
    Marked (every N (kid_sound W top b h k n)) (joined N (child_blocks W b h k n)) m true m'
kids_dead W top b h k n j {s} {N} es g q l = Marking.rest g (λ i u. kid_dead W top b h k n i es (omega (arith, mul-le-mul_right s u))) N l
