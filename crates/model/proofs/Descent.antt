-- A write inside the file that replaces one word on the way down a tree: a pointer, which commits fresh blocks, or a word of a data block.
-- All written bytes lie under one pointer of each block above that word, and nothing else in the tree's blocks is altered. So a change of the
-- tree under that pointer is a change of the whole tree.
use Rattle.std.specs.Prelude.{Option, Some, None}
use mathlib.Core.Path.{◌≡◌, refl, sym, ap, ◌∙◌, subst}
use mathlib.Core.Logic.{◌≢◌, ◌⊎◌, inl, inr}
use mathlib.Core.Bool.{false≢true}
use mathlib.Core.List.{List}
use Prim.Native.Nat.{ℕ, zero, suc, ◌+◌, ◌-◌, ◌*◌, ◌/◌, ◌%◌, ◌^◌, ◌≤◌, ◌<◌}
use native.Mathlib.Omega.{arith}
use native.Mathlib.Nat.{mod-lt, mod-eq_of_lt, div-add-mod', mod-mod_of_dvd, dvd-mul_right}
use lib.ListN.{length, get_or}
use lib.Dec.{T, eqb→eq}
use borrow.Author.Tests.{le-leb, lt-leb}
use Rattle.model.specs.Lists.{occ}
use Rattle.model.specs.Words.{byte_of}
use Rattle.model.specs.Tree.{ending, span, aligned, cell, link, walk, blocks, sound}
use Rattle.model.specs.Fresh.{splice, part, build}
use Rattle.model.specs.InPlace.{at_block}
use Rattle.model.specs.Change.{spliced_word, Shadow, descend}
use Rattle.model.proofs.Cases.{split, decide}
use Rattle.model.proofs.Sums.{sum_at, sum_two, only, only_same, only_other, sum_only_at}
use Rattle.model.proofs.Counting.{one_same}
use Rattle.model.proofs.Bytes.{byte_of_lt, byte_of_word_of}
use Rattle.model.proofs.Spans.{span_power, child}
use Rattle.model.proofs.Perform.{address_block}
use Rattle.model.proofs.Trees.{child_blocks, walk_null}
use Rattle.model.proofs.Agree.{byte_at, seen_live, frame, beneath, aligned_zero, sound_child, sound_root, occ_children, occ_root, occ_child}
use Rattle.model.proofs.Splice.{Small, length_part, splice_small, splice_part, splice_skip, part_whole, part_none}
use Rattle.model.specs.GivenUp.{path_blocks, inside_blocks}
use Rattle.model.proofs.Paths.{touched_new}
use Rattle.model.proofs.Changed.{Changed, recount, kept, node}
use Rattle.model.proofs.Built.{Between, held, used, length_build, build_changed}
use Rattle.model.proofs.Shown.{place_in_block}

-- the block of a word at A
block_of : (W q t A : ℕ) → t < W → W * q + t ≡ A → A / W ≡ q
block_of W q t A l e = ap (λ (x : ℕ). x / W) (sym e) ∙ address_block W q t l

-- ---- one word replaced

-- the tree (h, k, n) reaches no block twice, and on b₂ its blocks hold what they hold on b, but for the word at A
pub record Replaced (W : ℕ) (b b₂ : List ℕ) (A h k n : ℕ) : Type 0 where
  pub once : (q : ℕ) → occ q (blocks W b h k n) ≤ 1
  pub same : (q : ℕ) → 0 < occ q (blocks W b h k n) → (t : ℕ) → t < W → W * q + t ≢ A → cell W b q t ≡ cell W b₂ q t

module _ {W : ℕ} (pos : 0 < W) {b b₂ : List ℕ} {A h k n : ℕ} (live : 0 < n) (r : Replaced W b b₂ A (suc h) (suc k) n) where
  -- no child reaches the root again
  root_above : (i : ℕ) → i < W → occ (suc k) (child_blocks W b h (suc k) n i) ≡ 0
  root_above i l =
      omega (arith, occ_children W pos b h k n live (suc k), one_same (suc k), r.once (suc k), sum_at W (λ i. occ (suc k) (child_blocks W b h (suc k) n i)) i l)

  child_replaced : (i : ℕ) → i < W → Replaced W b b₂ A h (cell W b (suc k) i / W) (n - i * span W h)
  child_replaced i l = record {
    once = λ q. omega (arith, r.once q, occ_child W pos b h k n live q i l);
    same = λ q f. r.same q (omega (arith, occ_child W pos b h k n live q i l));
  }

  root_word : (i : ℕ) → i < W → W * suc k + i ≢ A → cell W b (suc k) i ≡ cell W b₂ (suc k) i
  root_word = r.same (suc k) (occ_root W pos b h k n live)

  -- a word in a child's block is none of the root's
  inner_word : (i j : ℕ) → i < W → j < W → 0 < occ (A / W) (child_blocks W b h (suc k) n j) → W * suc k + i ≢ A
  inner_word i j l l' f e = omega (arith, subst (λ (x : ℕ). 0 < occ x (child_blocks W b h (suc k) n j)) (block_of W (suc k) i A l e) f, root_above j l')

  -- the word is the pointer to child j, and the new one's low bits are 0, or it lies in a block of child j
  abbrev Under : ℕ → Type 0
  Under j = ((A ≡ W * suc k + j) × (get_or b₂ A 0 % W ≡ 0)) ⊎ (0 < occ (A / W) (child_blocks W b h (suc k) n j))

  module _ (j : ℕ) (j-lt : j < W) (spot : Under j) where
    -- so it is no other pointer, and in no block of another child
    other_word : (i : ℕ) → i < W → i ≢ j → W * suc k + i ≢ A
    other_word i l d e = elim spot [
      | inl p ↦ d (omega (arith, p.0))
      | inr f ↦ inner_word i j l j-lt f e
    ]

    other_block : (i : ℕ) → i < W → i ≢ j → (q : ℕ) → 0 < occ q (child_blocks W b h (suc k) n i) → (t : ℕ) → t < W → W * q + t ≢ A
    other_block i l d q f t u e = elim spot [
      | inl p ↦
          let z : q ≡ suc k = sym (block_of W q t A u e) ∙ block_of W (suc k) j A j-lt (sym p.0) in
          omega (arith, subst (λ (x : ℕ). 0 < occ x (child_blocks W b h (suc k) n i)) z f, root_above i l)
      | inr g ↦ omega (
        arith,
        subst (λ (x : ℕ). 0 < occ x (child_blocks W b h (suc k) n j)) (block_of W q t A u e) g,
        sum_two W (λ i. occ q (child_blocks W b h (suc k) n i)) i j l j-lt d,
        occ_children W pos b h k n live q,
        r.once q,
      )
    ]

    -- pointers keep their low bits
    low_bits : (i m : ℕ) → i < W → T (aligned W m (cell W b (suc k) i)) → T (aligned W m (cell W b₂ (suc k) i))
    unfolding cell
    low_bits i m l t = elim (decide (W * suc k + i) A) [
      | inr d ↦ subst (λ (w : ℕ). T (aligned W m w)) (root_word i l d) t
      | inl e ↦ elim spot [
        | inl p ↦ aligned_zero W pos m (cell W b₂ (suc k) i) (ap (λ (x : ℕ). get_or b₂ x 0 % W) e ∙ p.1)
        | inr f ↦ absurd (inner_word i j l j-lt f e)
      ]
    ]

    other_child : (top o : ℕ) (new : List ℕ) → j * span W h ≤ o → o + length new ≤ j * span W h + span W h → (i : ℕ) → i < W → i ≢ j
        → Changed W b b₂ top h (cell W b (suc k) i / W) (cell W b₂ (suc k) i / W) (n - i * span W h) (n - i * span W h) (o - i * span W h) (part (span W h) i o new) (λ q. 0) (λ q. 0)
    other_child top o new lo hi i l d =
        kept W pos b b₂ top h (cell W b (suc k) i / W) (cell W b₂ (suc k) i / W) (n - i * span W h) (n - i * span W h) (o - i * span W h) (part (span W h) i o new)
        (rw (length_part (span W h) i o new) (omega (arith, part_none (span W h) j o (length new) i lo hi d))) (omega arith) (λ t u v w. absurd (omega arith))
        (frame W pos b b₂ h (cell W b (suc k) i / W) (n - i * span W h) (λ q f t u. (child_replaced i l).same q f t u (other_block i l d q f t u)))
        (λ z. ap (λ (x : ℕ). x / W) (sym (root_word i l (other_word i l d))))

  -- what becomes of the child that has all written bytes becomes of the tree
  down : (top o : ℕ) (new : List ℕ) (extra gone : ℕ → ℕ) → o < span W (suc h) → o % span W h + length new ≤ span W h → let j = o / span W h in Under j
      → Changed W b b₂ top h (cell W b (suc k) j / W) (cell W b₂ (suc k) j / W) (n - j * span W h) (n - j * span W h) (o % span W h) new extra gone
      → Changed W b b₂ top (suc h) (suc k) (suc k) n n o new extra gone
  unfolding link beneath
  down top o new extra gone under fits spot change =
      let s = span W h in
      let j = o / s in
      let j-lt : j < W = (child W pos h o under).which in
      let at : j * s + o % s ≡ o = div-add-mod' o s in
      let offset : o - j * s ≡ o % s = omega arith in
      let whole : part s j o new ≡ new = part_whole s j o new (omega arith) (omega arith) in
      node W pos b b₂ top h (suc k) (suc k) n n o new extra gone (λ i q. only i j (extra q)) (λ i q. only i j (gone q)) (omega arith) live
      (sound_root W pos top b h (suc k) n (omega arith) live)
      (λ i l t. low_bits j j-lt spot i (n - i * s) l t)
      (λ q. omega (arith, occ_children W pos b h k n live q, sum_only_at W j (extra q) j-lt, sum_only_at W j (gone q) j-lt))
      (λ i l. elim (decide i j) [
        | inl e ↦ rw e (recount W pos b b₂ top h _ _ _ _ _ _ extra gone _ _ (λ q. omega (arith, only_same j (extra q), only_same j (gone q))) (rw (offset, whole) change))
        | inr d ↦ recount W pos b b₂ top h _ _ _ _ _ _ (λ q. 0) (λ q. 0) _ _ (λ q. omega (arith, only_other i j (extra q) d, only_other i j (gone q) d)) (other_child j j-lt spot top o new (omega arith) (omega arith) i l d)
      ])

-- ---- shadow inside the file: the word is a pointer

module _ (W : ℕ) (fresh : ℕ → ℕ) (b : List ℕ) (new : List ℕ) (c : ℕ) where
  -- all written bytes lie under one pointer of the block, or they do not
  pub descend_on : (h k n o a : ℕ) → o % span W h + length new ≤ span W h → let j = o / span W h in
      descend W fresh b (suc h) (suc k) n o new c a ≡ descend W fresh b h (cell W b (suc k) j / W) (n - j * span W h) (o % span W h) new c (W * suc k + j)
  unfolding descend
  descend_on h k n o a fits = rw (le-leb (o % span W h + length new) (span W h) fits)

  pub descend_stop : (h k n o a : ℕ) → span W h < o % span W h + length new
      → descend W fresh b (suc h) (suc k) n o new c a ≡ record { at = a; pages = build W fresh b (suc h) (suc k) n o new c }
  unfolding descend
  descend_stop h k n o a more = rw (lt-leb (o % span W h + length new) (span W h) more)

-- the blocks given up, the same
module _ (W : ℕ) (b : List ℕ) where
  inside_on : (h k n o l : ℕ) → o % span W h + l ≤ span W h
      → inside_blocks W b (suc h) (suc k) n o l ≡ inside_blocks W b h (cell W b (suc k) (o / span W h) / W) (n - o / span W h * span W h) (o % span W h) l
  unfolding inside_blocks
  inside_on h k n o l fits = rw (le-leb (o % span W h + l) (span W h) fits)

  inside_stop : (h k n o l : ℕ) → span W h < o % span W h + l → inside_blocks W b (suc h) (suc k) n o l ≡ path_blocks W b (suc h) (suc k) n o l
  unfolding inside_blocks
  inside_stop h k n o l more = rw (lt-leb (o % span W h + l) (span W h) more)

  inside_zero : (k n o l : ℕ) → inside_blocks W b zero k n o l ≡ path_blocks W b zero k n o l
  unfolding inside_blocks
  inside_zero k n o l = refl

  inside_null : (h n o l : ℕ) → inside_blocks W b (suc h) zero n o l ≡ path_blocks W b (suc h) zero n o l
  unfolding inside_blocks path_blocks
  inside_null h n o l = refl

module _ (W : ℕ) (pos : 0 < W) (fresh : ℕ → ℕ) (b : List ℕ) (new : List ℕ) (c : ℕ) where
  -- the word that commits is the tree's own pointer, or lies in a live block of the tree
  pub descend_inside : (h k n o a : ℕ) → o < n → o < span W h
      → let at = (descend W fresh b h k n o new c a).at in (at ≡ a) ⊎ (0 < occ (at / W) (blocks W b h k n))
  unfolding descend
  descend_inside zero k n o a v u = inl refl
  descend_inside (suc h) zero n o a v u = inl refl
  descend_inside (suc h) (suc k) n o a v u =
      let s = span W h in
      let j = o / s in
      let place = child W pos h o u in
      let live : 0 < n = omega arith in
      elim (split (o % s + length new) s) [
        | inl fits ↦ subst (λ (sh : Shadow). (sh.at ≡ a) ⊎ (0 < occ (sh.at / W) (blocks W b (suc h) (suc k) n))) (sym (descend_on W fresh b new c h k n o a fits))
            (inr (elim (descend_inside h (cell W b (suc k) j / W) (n - j * s) (o % s) (W * suc k + j) (omega (arith, place.there)) place.inside) [
              | inl e ↦ rw (e, address_block W (suc k) j place.which) (occ_root W pos b h k n live)
              | inr f ↦ omega (arith, occ_child W pos b h k n live ((descend W fresh b h (cell W b (suc k) j / W) (n - j * s) (o % s) new c (W * suc k + j)).at / W) j place.which)
            ]))
        | inr more ↦ inl (ap (λ (sh : Shadow). sh.at) (descend_stop W fresh b new c h k n o a more))
      ]

  aligned_low : (n w : ℕ) → 0 < n → T (aligned W n w) → w % W ≡ 0
  unfolding aligned
  aligned_low zero w p t = absurd (omega arith)
  aligned_low (suc n) w p t = eqb→eq (w % W) 0 t

  -- in a sound tree, where that is not a, the word there has low bits 0
  pub descend_low : (top h k n o a : ℕ) → o < n → o < span W h → T (sound W b top h k n)
      → let at = (descend W fresh b h k n o new c a).at in (at ≡ a) ⊎ (get_or b at 0 % W ≡ 0)
  unfolding descend link cell
  descend_low top zero k n o a v u t = inl refl
  descend_low top (suc h) zero n o a v u t = inl refl
  descend_low top (suc h) (suc k) n o a v u t =
      let s = span W h in
      let j = o / s in
      let place = child W pos h o u in
      let below = sound_child W pos top b h (suc k) n t j place.which in
      elim (split (o % s + length new) s) [
        | inl fits ↦ subst (λ (sh : Shadow). (sh.at ≡ a) ⊎ (get_or b sh.at 0 % W ≡ 0)) (sym (descend_on W fresh b new c h k n o a fits))
            (inr (elim (descend_low top h (cell W b (suc k) j / W) (n - j * s) (o % s) (W * suc k + j) (omega (arith, place.there)) place.inside below.1) [
              | inl e ↦ rw e (aligned_low (n - j * s) (cell W b (suc k) j) (omega (arith, place.there)) below.0)
              | inr z ↦ z
            ]))
        | inr more ↦ inl (ap (λ (sh : Shadow). sh.at) (descend_stop W fresh b new c h k n o a more))
      ]

module _ (W : ℕ) (fresh : ℕ → ℕ) (b b₂ : List ℕ) (c lim : ℕ) where
  -- a write of l bytes at o of the tree (h, k, n), whose own pointer stands at address a, outside the tree: b₂ holds the pages, and where they are committed
  -- a pointer to the last of them
  pub record Committed (l : ℕ) (sh : Shadow) (h k n o a : ℕ) : Type 0 where
    pub replaced : Replaced W b b₂ sh.at h k n
    pub within : o + l ≤ n
    pub under : o < span W h
    pub outside : occ (a / W) (blocks W b h k n) ≡ 0
    pub holds : held W fresh b₂ sh.pages c
    pub room : c + length sh.pages ≤ lim
    pub value : get_or b₂ sh.at 0 / W ≡ fresh (c + length sh.pages - 1)
    pub low : sh.at ≢ a → get_or b₂ sh.at 0 % W ≡ 0

module _ (W : ℕ) (pos : 0 < W) (b b₂ : List ℕ) (new : List ℕ) (some : 0 < length new) (small : Small new) {fresh : ℕ → ℕ} {lim top : ℕ} (within : Between fresh lim top) (c : ℕ) where
  -- then the tree is changed. k₂ is its block on b₂: what its own pointer leads to there if that is the word replaced, else the old one
  abbrev Done : Shadow → ℕ → ℕ → ℕ → ℕ → ℕ → List ℕ → Type 0
  Done sh h k n o a given = Committed W fresh b b₂ c lim (length new) sh h k n o a → (k₂ : ℕ) → (sh.at ≡ a → k₂ ≡ get_or b₂ a 0 / W) → (sh.at ≢ a → k₂ ≡ k)
      → Changed W b b₂ top h k k₂ n n o new (λ q. used fresh q c (length sh.pages)) (λ q. occ q given)

  -- the descent ends at the tree's own pointer
  stop : (h k n o a : ℕ) → Done (record { at = a; pages = build W fresh b h k n o new c }) h k n o a (path_blocks W b h k n o (length new))
  stop h k n o a r k₂ own other =
      let len = length_build W pos b fresh h k n o new c in
      rw (own refl, r.value, len)
      (build_changed W pos b fresh b₂ within h k n o new c n (touched_new W h k n o (length new) some) (omega (arith, len, r.room)) small r.holds
      (frame W pos b b₂ h k n (λ q f t l. r.replaced.same q f t l (λ e. omega (arith, subst (λ (x : ℕ). 0 < occ x (blocks W b h k n)) (sym (block_of W q t a l e)) f, r.outside))))
      (omega arith) (omega (arith, r.within)) (λ u. r.within) (λ i u w l. absurd (omega arith)))

  -- it goes on below it
  on : (h k n o a : ℕ) (sh : Shadow) (given : List ℕ) → o % span W h + length new ≤ span W h → let s = span W h in let j = o / s in
      (sh.at ≡ W * suc k + j) ⊎ (0 < occ (sh.at / W) (child_blocks W b h (suc k) n j))
      → Done sh h (cell W b (suc k) j / W) (n - j * s) (o % s) (W * suc k + j) given → Done sh (suc h) (suc k) n o a given
  unfolding cell
  on h k n o a sh given fits spot ih r k₂ own other =
      let s = span W h in
      let j = o / s in
      let place = child W pos h o r.under in
      let live : 0 < n = omega (arith, r.within) in
      let inner : 0 < occ (sh.at / W) (blocks W b (suc h) (suc k) n) = elim spot [
        | inl e ↦ rw (block_of W (suc k) j sh.at place.which (sym e)) (occ_root W pos b h k n live)
        | inr f ↦ omega (arith, occ_child W pos b h k n live (sh.at / W) j place.which)
      ] in
      let moved : sh.at ≢ a = λ e. omega (arith, subst (λ (x : ℕ). 0 < occ (x / W) (blocks W b (suc h) (suc k) n)) e inner, r.outside) in
      rw (other moved) (down pos live r.replaced top o new (λ q. used fresh q c (length sh.pages)) (λ q. occ q given) r.under fits
      (elim spot [ inl e ↦ inl (e, r.low moved) | inr f ↦ inr f ])
      (ih (record {
        replaced = child_replaced pos live r.replaced j place.which;
        within = omega (arith, r.within, place.there);
        under = place.inside;
        outside = rw (address_block W (suc k) j place.which) (root_above pos live r.replaced j place.which);
        holds = r.holds;
        room = r.room;
        value = r.value;
        low = λ d. r.low moved;
      }) (cell W b₂ (suc k) j / W) (λ e. refl)
      (λ d. ap (λ (x : ℕ). x / W) (sym (root_word pos live r.replaced j place.which (λ e. d (sym e)))))))

  pub descend_changed : (h k n o a : ℕ) → let sh = descend W fresh b h k n o new c a in Committed W fresh b b₂ c lim (length new) sh h k n o a
      → (k₂ : ℕ) → (sh.at ≡ a → k₂ ≡ get_or b₂ a 0 / W) → (sh.at ≢ a → k₂ ≡ k)
      → Changed W b b₂ top h k k₂ n n o new (λ q. used fresh q c (length sh.pages)) (λ q. occ q (inside_blocks W b h k n o (length new)))
  unfolding descend
  descend_changed zero k n o a = rw (inside_zero W b k n o (length new)) (stop zero k n o a)
  descend_changed (suc h) zero n o a = rw (inside_null W b h n o (length new)) (stop (suc h) zero n o a)
  descend_changed (suc h) (suc k) n o a =
      let s = span W h in
      let j = o / s in
      elim (split (o % s + length new) s) [
        | inl fits ↦ rw (inside_on W b h k n o (length new) fits) (subst (λ (sh : Shadow). Done sh (suc h) (suc k) n o a (inside_blocks W b h (cell W b (suc k) j / W) (n - j * s) (o % s) (length new))) (sym (descend_on W fresh b new c h k n o a fits))
            (λ r.
            let place = child W pos h o r.under in
            on h k n o a (descend W fresh b h (cell W b (suc k) j / W) (n - j * s) (o % s) new c (W * suc k + j)) (inside_blocks W b h (cell W b (suc k) j / W) (n - j * s) (o % s) (length new)) fits
            (descend_inside W pos fresh b new c h (cell W b (suc k) j / W) (n - j * s) (o % s) (W * suc k + j) (omega (arith, r.within, place.there)) place.inside)
            (descend_changed h (cell W b (suc k) j / W) (n - j * s) (o % s) (W * suc k + j)) r))
        | inr more ↦ rw (inside_stop W b h k n o (length new) more) (subst (λ (sh : Shadow). Done sh (suc h) (suc k) n o a (path_blocks W b (suc h) (suc k) n o (length new))) (sym (descend_stop W fresh b new c h k n o a more)) (stop (suc h) (suc k) n o a))
      ]

-- ---- single word: the word is one of a data block

pub hole≢block : (K : ℕ) → None ≢ Some K
unfolding at_block
hole≢block K e = false≢true (ap at_block e)

pub ending_is : (k n K : ℕ) → ending k n ≡ Some K → (0 < n) × (K ≡ k)
unfolding ending
ending_is zero n K e = absurd (hole≢block K e)
ending_is (suc k) zero K e = absurd (hole≢block K e)
ending_is (suc k) (suc n) K e = (omega arith, ap number (sym e))
  where
    number : Option ℕ → ℕ
    number None = 0
    number (Some x) = x

module _ (W : ℕ) (b : List ℕ) where
  -- a walk that ends at a block went along live pointers
  pub walk_live_law : (h k n o K : ℕ) → walk W b h k n o ≡ Some K → 0 < n
  unfolding walk
  walk_live_law zero k n o K e = (ending_is k n K e).0
  walk_live_law (suc h) k n o K e = omega (arith, walk_live_law h (link W b k (o / span W h) / W) (n - o / span W h * span W h) (o % span W h) K e)

  -- and that block is live
  pub walk_inside : 0 < W → (h k n o K : ℕ) → o < span W h → walk W b h k n o ≡ Some K → 0 < occ K (blocks W b h k n)
  unfolding walk ending blocks occ link
  walk_inside pos zero zero n o K u e = absurd (hole≢block K e)
  walk_inside pos zero (suc k) zero o K u e = absurd (hole≢block K e)
  walk_inside pos zero (suc k) (suc n) o K u e = rw (ending_is (suc k) (suc n) K e).1 (omega (arith, one_same (suc k)))
  walk_inside pos (suc h) zero n o K u e = absurd (hole≢block K (sym (walk_null W b (suc h) n o) ∙ e))
  walk_inside pos (suc h) (suc k) n o K u e =
      let s = span W h in
      let j = o / s in
      let place = child W pos h o u in
      omega (
        arith,
        occ_child W pos b h k n (walk_live_law (suc h) (suc k) n o K e) K j place.which,
        walk_inside pos h (cell W b (suc k) j / W) (n - j * s) (o % s) K place.inside e,
      )

-- a splice within one word is the same splice in all bytes
splice_word : (o : ℕ) (new : List ℕ) (old i : ℕ) → o % 8 + length new ≤ 8 → i / 8 ≡ o / 8 → splice (o % 8) new old (i % 8) ≡ splice o new old i
splice_word o new old i fits e =
    let offset : o - o / 8 * 8 ≡ o % 8 = omega arith in
    let whole : part 8 (o / 8) o new ≡ new = part_whole 8 (o / 8) o new (omega arith) (omega arith) in
    let at : o / 8 * 8 + i % 8 ≡ i = omega arith in
    rw (offset, whole, at) at (splice_part 8 (o / 8) o new old (i % 8) (omega arith))

-- byte o's word, in its data block, and its place in that word
pub word_in_block : (W : ℕ) → 0 < W → (o : ℕ) → o % span W 0 / 8 < W
unfolding span
word_in_block W pos o = let some : 0 < 8 * W = omega arith in omega (arith, mod-lt o some)

place_in_word : (W h o : ℕ) → o % span W h % 8 ≡ o % 8
place_in_word W h o = rw (span_power W h) (mod-mod_of_dvd 8 o (dvd-mul_right 8 (W ^ suc h)))

module _ (new : List ℕ) (small : Small new) where
  word_byte : (o x i : ℕ) → o % 8 + length new ≤ 8 → i / 8 ≡ o / 8 → byte_of (spliced_word (o % 8) new x) (i % 8) ≡ splice o new (byte_of x (i % 8)) i
  unfolding spliced_word
  word_byte o x i fits e =
      byte_of_word_of 8 (λ t. splice (o % 8) new (byte_of x t) t) (λ t. splice_small (o % 8) new (byte_of x t) t small (byte_of_lt x t)) (i % 8) (omega arith)
      ∙ splice_word o new (byte_of x (i % 8)) i fits e

  -- b₂ has the word at A with `new` from its byte p on
  module _ (W : ℕ) (pos : 0 < W) (b b₂ : List ℕ) (top A p : ℕ) (value : get_or b₂ A 0 ≡ spliced_word p new (get_or b A 0)) (fits : p + length new ≤ 8) where
    -- the data block k has that word
    block_byte : (k o : ℕ) → o % 8 ≡ p → W * k + o / 8 ≡ A → ((t : ℕ) → t < W → W * k + t ≢ A → cell W b k t ≡ cell W b₂ k t) → (i : ℕ) → i < 8 * W
        → byte_of (cell W b₂ k (i / 8)) (i % 8) ≡ splice o new (byte_of (cell W b k (i / 8)) (i % 8)) i
    unfolding cell
    block_byte k o e at same i l = elim (decide (i / 8) (o / 8)) [
      | inl z ↦ rw (z, at, value, ← e) (word_byte o (get_or b A 0) i (omega arith) z)
      | inr d ↦ rw (← same (i / 8) (omega arith) (λ z. d (omega arith))) (sym (splice_skip o new _ i (λ x y. omega arith)))
    ]

    block_changed : (k n o : ℕ) → o % 8 ≡ p → W * suc k + o / 8 ≡ A → Replaced W b b₂ A 0 (suc k) (suc n)
        → Changed W b b₂ top 0 (suc k) (suc k) (suc n) (suc n) o new (λ q. 0) (λ q. 0)
    unfolding byte_at link blocks sound span occ
    block_changed k n o e at r = record {
      bytes = λ i l v. seen_live (suc n - i) _ (omega arith) ∙ block_byte (suc k) o e at (r.same (suc k) (omega (arith, one_same (suc k)))) i l
          ∙ ap (λ (x : ℕ). splice o new x i) (sym (seen_live (suc n - i) _ (omega arith)));
      counts = λ q. omega arith;
      fine = λ s. s;
    }

    -- so does the tree that the walk goes through
    walk_changed : (h k n o K : ℕ) → o < span W h → o % 8 ≡ p → W * K + o % span W 0 / 8 ≡ A → walk W b h k n o ≡ Some K → Replaced W b b₂ A h k n
        → Changed W b b₂ top h k k n n o new (λ q. 0) (λ q. 0)
    unfolding walk ending link
    walk_changed zero zero n o K u e at to r = absurd (hole≢block K to)
    walk_changed zero (suc k) zero o K u e at to r = absurd (hole≢block K to)
    walk_changed zero (suc k) (suc n) o K u e at to r = block_changed k n o e (rw ((ending_is (suc k) (suc n) K to).1, mod-eq_of_lt u) at at) r
    walk_changed (suc h) zero n o K u e at to r = absurd (hole≢block K (sym (walk_null W b (suc h) n o) ∙ to))
    walk_changed (suc h) (suc k) n o K u e at to r =
        let s = span W h in
        let j = o / s in
        let place = child W pos h o u in
        let live = walk_live_law W b (suc h) (suc k) n o K to in
        let inner : 0 < occ (A / W) (child_blocks W b h (suc k) n j) =
        rw (block_of W K (o % span W 0 / 8) A (word_in_block W pos o) at) (walk_inside W b pos h (cell W b (suc k) j / W) (n - j * s) (o % s) K place.inside to) in
        let kept_word : cell W b (suc k) j ≡ cell W b₂ (suc k) j =
        root_word pos live r j place.which (inner_word pos live r j j place.which place.which inner) in
        down pos live r top o new (λ q. 0) (λ q. 0) u (omega (arith, place.inside, span_power W h, place_in_word W h o)) (inr inner)
        (subst (λ (w : ℕ). Changed W b b₂ top h (cell W b (suc k) j / W) (w / W) (n - j * s) (n - j * s) (o % s) new (λ q. 0) (λ q. 0)) kept_word
        (walk_changed h (cell W b (suc k) j / W) (n - j * s) (o % s) K place.inside (place_in_word W h o ∙ e)
        (ap (λ (x : ℕ). W * K + x / 8) (place_in_block W pos h o) ∙ at) to (child_replaced pos live r j place.which)))

module _ (W : ℕ) (pos : 0 < W) (b b₂ : List ℕ) (new : List ℕ) (small : Small new) (top : ℕ) where
  -- `new` lies in one word, of the data block K: only that word is stored
  pub word_changed : (h k n o K : ℕ) → walk W b h k n o ≡ Some K → o < span W h → o / 8 ≡ (o + length new - 1) / 8
      → let A = W * K + o % span W 0 / 8 in Replaced W b b₂ A h k n → get_or b₂ A 0 ≡ spliced_word (o % 8) new (get_or b A 0)
      → Changed W b b₂ top h k k n n o new (λ q. 0) (λ q. 0)
  word_changed h k n o K to under one_word r value =
      walk_changed new small W pos b b₂ top (W * K + o % span W 0 / 8) (o % 8) value (omega arith) h k n o K under refl refl to r
