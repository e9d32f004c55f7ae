-- How many fresh blocks a write takes: those on paths to written bytes and, past the end, on the path to the last byte; a leaf; and the levels of growth.
use mathlib.Core.Path.{◌≡◌, sym, ap, ◌∙◌}
use mathlib.Core.Logic.{◌≢◌, inl, inr}
use mathlib.Core.Bool.{Bool, true, false, cond, and-false, false≢true}
use mathlib.Core.List.{List, []}
use Prim.Native.Nat.{ℕ, zero, suc, ◌+◌, ◌-◌, ◌*◌, ◌/◌, ◌%◌, ◌≤◌, ◌<◌, min}
use native.Mathlib.Omega.{arith}
use native.Mathlib.Nat.{div-add-mod', div-mul-le_self, lt-div-mul-add, mul-le-mul_right}
use borrow.Author.Tests.{lt-leb}
use lib.ListN.{length}
use Rattle.model.specs.declared.Inode.{Inode}
use Rattle.model.specs.Lists.{sum}
use Rattle.model.specs.Layout.{Layout}
use Rattle.model.specs.Tree.{live, span, least, cell, link}
use Rattle.model.specs.Plan.{plan}
use Rattle.model.specs.Fresh.{part_length, touched, fresh_need, fresh_before, need}
use Rattle.model.specs.InPlace.{tail_need}
use Rattle.model.specs.Change.{levels, growing, growth_to, growth, is_tail, descend, shadow_inside, shadow_with_length}
use Rattle.model.proofs.Cases.{split, either}
use Rattle.model.proofs.Sums.{sum_le, sum_zero, sum_grow}
use Rattle.model.proofs.Spans.{span_pos, least_within}
use Rattle.model.proofs.Trees.{live_none}
use Rattle.model.proofs.Splice.{part_nothing}
use Rattle.model.proofs.Paths.{fresh_none, fresh_data, fresh_node, fresh_quiet, need_none, need_data, need_node}
use Rattle.model.proofs.Built.{length_build, length_build_null}
use Rattle.model.proofs.Descent.{descend_on, descend_stop}
use Rattle.model.proofs.Levels.{length_levels}
use Rattle.model.proofs.WayNeeds.{leaf_needs}
use Rattle.bounds.proofs.Stores.{Low}

-- children take nothing where nothing is written
needs_none : (W h o l : ℕ) → l ≡ 0 → sum W (λ j. need W h (o - j * span W h) (part_length (span W h) j o l)) ≡ 0
needs_none W h o l e = sum_zero W _ (λ j p. ap (need W h (o - j * span W h)) (part_nothing (span W h) j o l e) ∙ need_none W h (o - j * span W h))

-- a tail takes no more than fresh paths would
pub tail_most : (W h n l : ℕ) → tail_need W h n l ≤ need W h n l
unfolding tail_need
tail_most W zero zero l = omega arith
tail_most W zero (suc n) l = omega arith
tail_most W (suc h) zero l = omega arith
tail_most W (suc h) (suc n) l =
    let below : sum W (λ j. tail_need W h (suc n - j * span W h) (part_length (span W h) j (suc n) l)) ≤ sum W (λ j. need W h (suc n - j * span W h) (part_length (span W h) j (suc n) l)) =
    sum_le W _ _ (λ j p. tail_most W h (suc n - j * span W h) (part_length (span W h) j (suc n) l)) in
    elim (split l 0) [
      | inl z ↦ omega (arith, below, needs_none W h (suc n) l (omega arith))
      | inr some ↦ omega (arith, below, need_node W h (suc n) l some)
    ]

-- ---- Past the end: the path to the last byte takes at most a block for each height below the top, and one for a top under which no byte is written

-- a tree that ends before the last byte is not on the path
untouched_before : (W h k n o l : ℕ) → l ≡ 0 → span W h < n → touched W h k n o l ≡ false
unfolding touched
untouched_before W h k n o l none past = rw (live_none l none, lt-leb n (span W h) past, and-false)

module _ (W : ℕ) (pos : 0 < W) (b : List ℕ) where
  -- of the children of a tree one alone is on the path
  beside_path : (h k n o l j : ℕ) → j ≢ (n - 1) / span W h → fresh_need W b h k (n - j * span W h) (o - j * span W h) (part_length (span W h) j o l)
      ≤ need W h (o - j * span W h) (part_length (span W h) j o l)
  unfolding part_length
  beside_path h k n o l j d =
      let s : ℕ = span W h in
      let m : ℕ = part_length s j o l in
      elim (split j ((n - 1) / s)) [
        | inl le ↦
            let lt : suc j ≤ (n - 1) / s = omega arith in
            let past : s < n - j * s = omega (arith, span_pos W pos h, mul-le-mul_right s lt, div-mul-le_self (n - 1) s) in
            elim (split m 0) [
              | inl z ↦ omega (arith, fresh_none W b h k (n - j * s) (o - j * s) m (untouched_before W h k (n - j * s) (o - j * s) m (omega arith) past))
              | inr some ↦ omega (arith, fresh_quiet W b h k (n - j * s) (o - j * s) m (inr (inr (omega arith))))
            ]
        | inr gt ↦
            let end : n - 1 < (n - 1) / s * s + s = lt-div-mul-add (span_pos W pos h) in
            omega (arith, fresh_quiet W b h k (n - j * s) (o - j * s) m (inr (inl (omega (arith, mul-le-mul_right s gt)))))
      ]

  children : (h k n o l : ℕ) → ((k n o l : ℕ) → fresh_need W b h k n o l ≤ need W h o l + (suc h - min l 1))
      → fresh_before W b h k n o l W ≤ sum W (λ j. need W h (o - j * span W h) (part_length (span W h) j o l)) + suc h
  unfolding fresh_before
  children h k n o l each =
      let s : ℕ = span W h in
      let i : ℕ = (n - 1) / s in
      sum_grow W (λ j. fresh_need W b h (link W b k j / W) (n - j * s) (o - j * s) (part_length s j o l)) (λ j. need W h (o - j * s) (part_length s j o l)) i (suc h)
      (omega (arith, each (link W b k i / W) (n - i * s) (o - i * s) (part_length s i o l))) (λ j u d. beside_path h (link W b k j / W) n o l j d)

  pub fresh_more : (h k n o l : ℕ) → fresh_need W b h k n o l ≤ need W h o l + (suc h - min l 1)
  fresh_more zero k n o l = elim (either (touched W zero k n o l)) [
    | inr e ↦ omega (arith, fresh_none W b zero k n o l e)
    | inl e ↦ elim (split l 0) [ inl z ↦ omega (arith, fresh_data W b k n o l e) | inr some ↦ omega (arith, fresh_data W b k n o l e, need_data W o l some) ]
  ]
  fresh_more (suc h) k n o l = elim (either (touched W (suc h) k n o l)) [
    | inr e ↦ omega (arith, fresh_none W b (suc h) k n o l e)
    | inl e ↦
        let s : ℕ = span W h in
        let below : ℕ → ℕ = λ j. need W h (o - j * s) (part_length s j o l) in
        let kids : fresh_before W b h k n o l W ≤ sum W below + suc h = children h k n o l (fresh_more h) in
        elim (split l 0) [
          | inl z ↦ omega (arith, fresh_node W b h k n o l e, needs_none W h o l (omega arith))
          | inr some ↦ omega (arith, fresh_node W b h k n o l e, need_node W h o l some)
        ]
  ]

-- X bounds what written bytes take in any tree of height H at most
module _ (W : ℕ) (pos : 0 < W) (new : List ℕ) (H X : ℕ) (most : (h o : ℕ) → h ≤ H → need W h o (length new) ≤ X) where
  descend_most : (fresh : ℕ → ℕ) (b : List ℕ) (h k n o c a : ℕ) → h ≤ H → o ≤ n → length (descend W fresh b h k n o new c a).pages ≤ X
  unfolding descend
  descend_most fresh b zero k n o c a low within = omega (arith, length_build W pos b fresh 0 k n o new c, fresh_quiet W b 0 k n o (length new) (inr (inr within)), most 0 o low)
  descend_most fresh b (suc h) zero n o c a low within = omega (arith, length_build_null W pos b fresh (suc h) n o new c, most (suc h) o low)
  descend_most fresh b (suc h) (suc k) n o c a low within = elim (split (o % span W h + length new) (span W h)) [
    | inl fits ↦
        let at : o / span W h * span W h + o % span W h ≡ o = div-add-mod' o (span W h) in
        rw (descend_on W fresh b new c h k n o a fits)
        (descend_most fresh b h (cell W b (suc k) (o / span W h) / W) (n - o / span W h * span W h) (o % span W h) c (W * suc k + o / span W h) (omega arith) (omega arith))
    | inr more ↦ rw (descend_stop W fresh b new c h k n o a more)
        (omega (arith, length_build W pos b fresh (suc h) (suc k) n o new c, fresh_quiet W b (suc h) (suc k) n o (length new) (inr (inr within)), most (suc h) o low))
  ]

module _ (g : Layout) (pos : 0 < g.words) (fresh : ℕ → ℕ) (new : List ℕ) (X : ℕ) (most : (h o : ℕ) → h ≤ g.height → need g.words h o (length new) ≤ X)
    (b : List ℕ) (n : Inode) (low : Low g n) (o k : ℕ) where
  pub inside_takes : 0 < n.size → o ≤ n.size → (shadow_inside g fresh b n o new k).taken ≤ k + X + 1
  unfolding shadow_inside plan
  inside_takes some within = omega (
    arith,
    descend_most g.words pos new g.height X most fresh b (n.root % g.words) (n.root / g.words) n.size o k n.at (low some) within,
  )

  pub leaf_takes : 0 < n.size → o ≤ n.size → (shadow_with_length g fresh b n o new k).taken ≤ k + X + 1
  leaf_takes some within = omega (
    arith,
    leaf_needs g pos fresh b n new k o,
    fresh_quiet g.words b (n.root % g.words) (n.root / g.words) n.size o (length new) (inr (inr within)),
    most (n.root % g.words) o (low some),
  )

  -- past the end too
  pub leaf_takes_more : 0 < n.size → 0 < length new → (shadow_with_length g fresh b n o new k).taken ≤ k + (X + g.height) + 1
  leaf_takes_more some any = omega (
    arith,
    leaf_needs g pos fresh b n new k o,
    fresh_more g.words pos b (n.root % g.words) (n.root / g.words) n.size o (length new),
    most (n.root % g.words) o (low some),
    low some,
  )

-- a file that is empty goes the tail way
pub not_tail : (g : Layout) (b : List ℕ) (n : Inode) (o : ℕ) → is_tail g b n o ≡ false → 0 < n.size
unfolding is_tail live
not_tail g b n o e = elim (split n.size 0) [
  | inl z ↦ let z' : n.size ≡ 0 = omega arith in absurd (false≢true (sym (rw z' at e)))
  | inr l ↦ l
]

levels_most : (W : ℕ) (fresh : ℕ → ℕ) (k d : ℕ) → length (levels W fresh k d) ≤ d
unfolding levels
levels_most W fresh zero d = omega arith
levels_most W fresh (suc k) d = omega (arith, length_levels W fresh (suc k) d (omega arith))

pub growth_takes : (g : Layout) → 0 < g.words → (fresh : ℕ → ℕ) (n : Inode) (e : ℕ) → (growth g fresh n e).taken ≤ g.height
unfolding growth growth_to plan
growth_takes g pos fresh n e = by (growing g n e)
  where
    by : (t : Bool) → (cond t (growth_to g fresh n (least g.words g.height e)) (plan [] 0)).taken ≤ g.height
    by true = omega (arith, levels_most g.words fresh (n.root / g.words) (least g.words g.height e - n.root % g.words), least_within g.words pos g.height e)
    by false = omega arith
