-- What a write costs: W stores for each block that fresh paths, a leaf and growth would take, and two commits. A tail stores at most W words in each block that
-- it leaves in place.
use Rattle.std.specs.Prelude.{Option, Some, None}
use mathlib.Core.Path.{◌≡◌, refl, ap}
use mathlib.Core.Logic.{◌⊎◌, inl, inr}
use mathlib.Core.List.{List, [], ◌∷◌}
use Prim.Native.Nat.{ℕ, zero, suc, ◌+◌, ◌-◌, ◌*◌, ◌/◌, ◌%◌, ◌≤◌, ◌<◌}
use native.Mathlib.Omega.{arith}
use native.Mathlib.Nat.{mul-le-mul_left, mul-zero}
use lib.ListN.{length, length-append}
use Rattle.model.specs.declared.Inode.{Inode}
use Rattle.model.specs.Lists.{sum, concat}
use Rattle.model.specs.Layout.{Layout, Fits}
use Rattle.model.specs.Tree.{span, least, cell}
use Rattle.model.specs.Board.{size, inode_of}
use Rattle.model.specs.Store.{Store, performed}
use Rattle.model.specs.Plan.{Step, step, step_epochs, plan_epochs, Plan, plan, afterwards}
use Rattle.model.specs.Fresh.{part, part_length, need, stored, fresh_pointer}
use Rattle.model.specs.InPlace.{tail_need, tail_before, tail_pages, in_place}
use Rattle.model.specs.Change.{growth, grown_inode, single_block, single_word, empty_tail, tail, shadow_with_length, chosen_way, grown_plan, some_plan, write_plan}
use Rattle.model.proofs.Cases.{split, length_joined}
use Rattle.model.proofs.Sums.{sum_le, sum_add}
use Rattle.model.proofs.Spans.{least_within}
use Rattle.model.proofs.Paths.{need_data, need_node}
use Rattle.model.proofs.Perform.{length_stored}
use Rattle.model.proofs.Splice.{length_part}
use Rattle.model.proofs.Shown.{words_pos}
use Rattle.model.proofs.Tailed.{tail_need_dead, length_tail}
use Rattle.model.proofs.WayNeeds.{empty_tail_needs}
use Rattle.bounds.proofs.Stretches.{sum_times, ones}
use Rattle.bounds.proofs.Stores.{words_most, in_place_none, in_place_dead, Costs, empty_costs, inside_costs, leaf_costs, by_ways, Low, cost, steps_cost, growth_either, grown_low}
use Rattle.bounds.proofs.Taken.{tail_most, not_tail, inside_takes, leaf_takes, leaf_takes_more, growth_takes}

-- ---- A tail: in each block that stays at most W words are stored, which a fresh one would have too

module _ (W : ℕ) (b : List ℕ) (hook : ℕ → ℕ → ℕ → ℕ) where
  abbrev NoMore : ℕ → ℕ → ℕ → List ℕ → ℕ → ℕ → Type 0
  NoMore h k n new c a = W * tail_need W h n (length new) + length (in_place W b hook h k n new c a) ≤ W * need W h n (length new)

  none_no_more : (h k n : ℕ) (new : List ℕ) (c a : ℕ) → length new ≡ 0 → NoMore h k n new c a
  none_no_more h k n new c a e = omega (arith, in_place_none W b hook h k n new c a e, mul-le-mul_left W (tail_most W h n (length new)))

  -- a child
  child_no_more : (h k n : ℕ) (new : List ℕ) (c a : ℕ) → (0 < n → NoMore h k n new c a) → W * tail_need W h n (length new) + length (in_place W b hook h k n new c a) ≤ W * need W h n (length new) + 1
  child_no_more h k n new c a ih = elim (split n 0) [
    | inl z ↦
        let e : n ≡ 0 = omega arith in
        let same : tail_need W h n (length new) ≡ need W h n (length new) = rw e (tail_need_dead W h (length new)) in
        rw same (omega (arith, in_place_dead W b hook h k n new c a e))
    | inr live ↦ omega (arith, ih live)
  ]

  module _ (h k n : ℕ) (new : List ℕ) (c : ℕ) where
    abbrev kid : ℕ → List Store
    kid j = in_place W b hook h (cell W b (suc k) j / W) (suc n - j * span W h) (part (span W h) j (suc n) new) (c + tail_before W h (suc n) (length new) j) (W * suc k + j)

    abbrev kid_tail : ℕ → ℕ
    kid_tail j = tail_need W h (suc n - j * span W h) (part_length (span W h) j (suc n) (length new))

    abbrev kid_fresh : ℕ → ℕ
    kid_fresh j = need W h (suc n - j * span W h) (part_length (span W h) j (suc n) (length new))

    node_no_more : ((j : ℕ) → W * kid_tail j + length (kid j) ≤ W * kid_fresh j + 1) → W * sum W kid_tail + sum W (λ j. length (kid j)) ≤ W * sum W kid_fresh + W
    node_no_more each = omega (
      arith,
      sum_le W (λ j. W * kid_tail j + length (kid j)) (λ j. W * kid_fresh j + 1) (λ j p. each j),
      sum_add W (λ j. W * kid_tail j) (λ j. length (kid j)),
      sum_add W (λ j. W * kid_fresh j) (λ j. 1),
      sum_times W W kid_tail,
      sum_times W W kid_fresh,
      ones W,
    )

  tail_no_more : (h k n : ℕ) (new : List ℕ) (c a : ℕ) → 0 < n → NoMore h k n new c a
  unfolding in_place tail_need
  tail_no_more zero k zero new c a live = absurd (omega arith)
  tail_no_more zero zero (suc n) new c a live = omega (arith, mul-zero W)
  tail_no_more zero (suc k) (suc n) new c a live = elim (split (length new) 0) [
    | inl z ↦ none_no_more zero (suc k) (suc n) new c a (omega arith)
    | inr some ↦ rw (need_data W (suc n) (length new) some) (omega (arith, words_most W b hook (suc k) (suc n) new, mul-zero W))
  ]
  tail_no_more (suc h) k zero new c a live = absurd (omega arith)
  tail_no_more (suc h) zero (suc n) new c a live = omega (arith, mul-le-mul_left W (tail_most W (suc h) (suc n) (length new)))
  tail_no_more (suc h) (suc k) (suc n) new c a live = elim (split (length new) 0) [
    | inl z ↦ none_no_more (suc h) (suc k) (suc n) new c a (omega arith)
    | inr some ↦ rw (need_node W h (suc n) (length new) some) (omega (
      arith,
      length_joined W (kid h k n new c),
      node_no_more h k n new c (λ j. rw (length_part (span W h) j (suc n) new) at (child_no_more h (cell W b (suc k) j / W) (suc n - j * span W h) (part (span W h) j (suc n) new) (c + tail_before W h (suc n) (length new) j) (W * suc k + j)
          (tail_no_more h (cell W b (suc k) j / W) (suc n - j * span W h) (part (span W h) j (suc n) new) (c + tail_before W h (suc n) (length new) j) (W * suc k + j)))),
    ))
  ]

-- ---- The ways

-- p is one step, with y hidden stores at most
record Hiding (y : ℕ) (p : Plan) : Type 0 where
  only : Step
  is : p.steps ≡ only ∷ []
  hides : length only.hidden ≤ y

-- W words for each of y blocks
costs_hide : (W k x y : ℕ) (p : Plan) → Costs W k x p → W * p.taken + x ≤ W * (k + y) → Hiding (W * y) p
costs_hide W k x y p c le = record { only = c.only; is = c.is; hides = omega (arith, c.hides) }

-- Y bounds what shadow with length takes: X, and past the end the path to the last byte too
module _ (g : Layout) (pos : 0 < g.words) (fresh : ℕ → ℕ) (new : List ℕ) (X Y : ℕ) (more : X ≤ Y) (most : (h o : ℕ) → h ≤ g.height → need g.words h o (length new) ≤ X)
    (b : List ℕ) (n : Inode) (low : Low g n) (o k : ℕ) (leaf : 0 < n.size → (shadow_with_length g fresh b n o new k).taken ≤ k + Y + 1) where
  abbrev Way : Plan → Type 0
  Way = Hiding (g.words * (Y + 1))

  tail_hides : (s : ℕ) → s ≡ n.size → Way (tail g fresh b n s o new k)
  unfolding tail plan step
  tail_hides zero e = costs_hide g.words k 1 (Y + 1) _ (empty_costs g fresh b n o new k 1 (omega arith)) (
      let few : (empty_tail g fresh b n o new k).taken ≤ k + X = omega (
        arith,
        empty_tail_needs g pos fresh b n new k o,
        most (least g.words g.height (o + length new)) o (least_within g.words pos g.height (o + length new)),
      ) in
      omega (arith, mul-le-mul_left g.words few, mul-le-mul_left g.words more)
      )
  tail_hides (suc s) e =
      let h : ℕ = n.root % g.words in
      let K : ℕ = n.root / g.words in
      let hook : ℕ → ℕ → ℕ → ℕ = λ h l i. fresh_pointer g.words fresh h 0 l i in
      let ss : List Store = stored g.words fresh (tail_pages g.words b fresh h K (suc s) new k) k in
      let others : List Store = in_place g.words b hook h K (suc s) new k n.at in
      record {
        only = _;
        is = refl;
        hides = omega (
          arith,
          length-append ss others,
          length_stored g.words fresh (tail_pages g.words b fresh h K (suc s) new k) k,
          ap (λ (x : ℕ). g.words * x) (length_tail g.words pos b fresh h K (suc s) new k),
          tail_no_more g.words b hook h K (suc s) new k n.at (omega arith),
          mul-le-mul_left g.words (most h (suc s) (low (omega arith))),
          mul-le-mul_left g.words more,
        );
      }

  way_hides : Way (chosen_way g fresh b n o new k)
  way_hides = by_ways g fresh b n o new k Way (tail_hides n.size refl) (λ e.
      let some : 0 < n.size = not_tail g b n o e in (
        λ within. costs_hide g.words k 0 (Y + 1) _ (inside_costs g fresh b n o new k 0)
            (omega (arith, mul-le-mul_left g.words (inside_takes g pos fresh new X most b n low o k some (omega arith)), mul-le-mul_left g.words more)),
        costs_hide g.words k 0 (Y + 1) _ (leaf_costs g fresh b n o new k 0) (omega (arith, mul-le-mul_left g.words (leaf some))),
      ))

-- ---- The write

after_most : (W m y : ℕ) (p q : Plan) → (p ≡ plan [] 0) ⊎ Costs W 0 0 p → p.taken ≤ m → Hiding (W * y) q → cost (afterwards p q) ≤ W * (m + y) + 2
unfolding afterwards plan cost plan_epochs concat
after_most W m y p q (inl e) few l = rw (e, l.is) (omega (arith, steps_cost l.only [], l.hides))
after_most W m y p q (inr j) few l = rw (j.is, l.is) (omega (
  arith,
  steps_cost j.only (l.only ∷ []),
  steps_cost l.only [],
  j.hides,
  l.hides,
  mul-le-mul_left W few,
))

single_cost : (g : Layout) (b : List ℕ) (k o : ℕ) (new : List ℕ) → cost (single_word g b k o new) ≡ 1
unfolding single_word plan step cost plan_epochs step_epochs concat
single_cost g b k o new = refl

module _ (g : Layout) (fit : Fits g) (fresh : ℕ → ℕ) (b : List ℕ) (f : ℕ) (low : Low g (inode_of g b f)) (o : ℕ) (new : List ℕ) (X Y : ℕ) (more : X ≤ Y)
    (most : (h o : ℕ) → h ≤ g.height → need g.words h o (length new) ≤ X) where
  -- after growth, which leaves the size
  abbrev LeafTakes : Type 0
  LeafTakes = (c : List ℕ) (n : Inode) (k : ℕ) → n.size ≡ size g b f → Low g n → 0 < n.size → (shadow_with_length g fresh c n o new k).taken ≤ k + Y + 1

  some_most : LeafTakes → (end : Option ℕ) → cost (some_plan g fresh b f end o new) ≤ g.words * (g.height + (Y + 1)) + 2
  unfolding some_plan grown_plan grown_inode
  some_most leaf (Some k) = omega (arith, single_cost g b k o new)
  some_most leaf None =
      let n : Inode = inode_of g b f in
      let e : ℕ = o + length new in
      let p : Plan = growth g fresh n e in
      let c : List ℕ = performed b (concat (plan_epochs p.steps)) in
      let grown : Low g (grown_inode g fresh n e) = grown_low g fit fresh n e low in
      after_most g.words g.height (Y + 1) p _ (growth_either g fit fresh n e) (growth_takes g (words_pos g fit) fresh n e)
      (way_hides g (words_pos g fit) fresh new X Y more most c (grown_inode g fresh n e) grown o p.taken (leaf c (grown_inode g fresh n e) p.taken refl grown))

-- where the offset is not past the size
pub write_most : (g : Layout) → Fits g → (fresh : ℕ → ℕ) (b : List ℕ) (f : ℕ) → Low g (inode_of g b f) → (o : ℕ) (new : List ℕ) (X : ℕ)
    → ((h o : ℕ) → h ≤ g.height → need g.words h o (length new) ≤ X) → o ≤ size g b f → cost (write_plan g fresh b f o new) ≤ g.words * (g.height + (X + 1)) + 2
unfolding write_plan plan cost plan_epochs concat
write_most g fit fresh b f low o [] X most within = omega arith
write_most g fit fresh b f low o (x ∷ new) X most within = some_most g fit fresh b f low o (x ∷ new) X X (omega arith) most
    (λ c n k same low some. leaf_takes g (words_pos g fit) fresh (x ∷ new) X most c n low o k some (omega arith)) (single_block g b f o (o + suc (length new)))

-- and wherever it is
pub write_most_past : (g : Layout) → Fits g → (fresh : ℕ → ℕ) (b : List ℕ) (f : ℕ) → Low g (inode_of g b f) → (o : ℕ) (new : List ℕ) (X : ℕ)
    → ((h o : ℕ) → h ≤ g.height → need g.words h o (length new) ≤ X) → cost (write_plan g fresh b f o new) ≤ g.words * (g.height + (X + g.height + 1)) + 2
unfolding write_plan plan cost plan_epochs concat
write_most_past g fit fresh b f low o [] X most = omega arith
write_most_past g fit fresh b f low o (x ∷ new) X most = some_most g fit fresh b f low o (x ∷ new) X (X + g.height) (omega arith) most
    (λ c n k same low some. leaf_takes_more g (words_pos g fit) fresh (x ∷ new) X most c n low o k some (omega arith)) (single_block g b f o (o + suc (length new)))
