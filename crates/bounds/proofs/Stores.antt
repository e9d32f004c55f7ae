-- How many stores a plan has: W for each fresh block that it takes, and few others.
use Rattle.std.specs.Prelude.{Option, Some, None}
use mathlib.Core.Path.{◌≡◌, refl, ap, ◌∙◌}
use mathlib.Core.Logic.{◌≢◌, ◌⊎◌, inl, inr}
use mathlib.Core.Bool.{Bool, true, false, cond}
use mathlib.Core.List.{List, [], ◌∷◌, ◌++◌}
use Prim.Native.Nat.{ℕ, zero, suc, ◌+◌, ◌-◌, ◌*◌, ◌/◌, ◌%◌, ◌≤◌, ◌<◌}
use native.Mathlib.Omega.{arith}
use native.Mathlib.Nat.{mul-le-mul_left, mul-le-mul_right, div-mul-le_self, lt-div-mul-add}
use lib.ListN.{length, replicate, length-append}
use lib.Dec.{leb, ltb, eqb}
use borrow.Author.Tests.{leb-true}
use Rattle.model.specs.declared.Inode.{Inode}
use Rattle.model.specs.Lists.{sum, choose, concat}
use Rattle.model.specs.Layout.{Layout, Fits}
use Rattle.model.specs.Tree.{span, least, cell}
use Rattle.model.specs.Board.{root_address, root_height, root_block, size_address, size, inode_of}
use Rattle.model.specs.Store.{Store, store, barrier, performed, fenced}
use Rattle.model.specs.Plan.{Step, step, step_epochs, plan_epochs, Plan, plan, pairs, afterwards}
use Rattle.model.specs.Fresh.{Page, part, part_length, stored, data_page}
use Rattle.model.specs.InPlace.{tail_before, tail_words, hooked, in_place}
use Rattle.model.specs.Change.{levels, growing, grown_root, growth_to, growth, grown_inode, single_block, single_word, is_tail, empty_tail_to, empty_tail, tail, shadow_inside, shadow_with_length, chosen_way, grown_plan, some_plan, write_plan, cleared, length_plan}
use Rattle.model.proofs.Cases.{split, either, length_joined}
use Rattle.model.proofs.Sums.{sum_le, sum_grow}
use Rattle.model.proofs.Spans.{span_pos, least_within}
use Rattle.model.proofs.Shown.{words_pos}
use Rattle.model.proofs.Perform.{length_stored, address_place}
use Rattle.model.proofs.Splice.{length_part}
use Rattle.model.proofs.InPlaceStores.{empty_stores}
use Rattle.model.proofs.Steps.{steps_stores}
use Rattle.bounds.proofs.Stretches.{ones}

-- ---- In place

choose_most : (n : ℕ) (s : Store) → length (choose n [] (s ∷ [])) ≤ 1
unfolding choose
choose_most zero s = omega arith
choose_most (suc n) s = omega arith

part_full : (s j n l : ℕ) → s ≤ n - j * s → part_length s j n l ≡ 0
unfolding part_length
part_full s j n l full = omega arith

module _ (W : ℕ) (b : List ℕ) (hook : ℕ → ℕ → ℕ → ℕ) where
  hooked_most : (h : ℕ) (new : List ℕ) (c a : ℕ) → length (hooked hook h new c a) ≤ 1
  unfolding hooked
  hooked_most h [] c a = omega arith
  hooked_most h (x ∷ new) c a = omega arith

  pub words_most : (k n : ℕ) (new : List ℕ) → length (tail_words W b k n new) ≤ W
  unfolding tail_words
  words_most k n new = omega (
    arith,
    length_joined W (λ j. choose (part_length 8 j n (length new)) [] (store (W * k + j) (data_page W b k n n new j) ∷ [])),
    sum_le W _ _ (λ j l. choose_most (part_length 8 j n (length new)) (store (W * k + j) (data_page W b k n n new j))),
    ones W,
  )

  -- nothing is stored where nothing is written
  pub in_place_none : (h k n : ℕ) (new : List ℕ) (c a : ℕ) → length new ≡ 0 → length (in_place W b hook h k n new c a) ≡ 0
  in_place_none h k n new c a e = ap length (empty_stores W b hook h k n new c a e)

  -- a tree that isn't live gets one pointer
  pub in_place_dead : (h k n : ℕ) (new : List ℕ) (c a : ℕ) → n ≡ 0 → length (in_place W b hook h k n new c a) ≤ 1
  unfolding in_place
  in_place_dead zero k zero new c a e = hooked_most zero new c a
  in_place_dead zero k (suc n) new c a e = absurd (omega arith)
  in_place_dead (suc h) k zero new c a e = hooked_most (suc h) new c a
  in_place_dead (suc h) k (suc n) new c a e = absurd (omega arith)

  -- of the children of a live block those before the end get nothing, those past it one pointer each
  in_place_beside : (pos : 0 < W) (h k n : ℕ) (new : List ℕ) (c a j : ℕ) → j ≢ n / span W h → length (in_place W b hook h k (n - j * span W h) (part (span W h) j n new) c a) ≤ 1
  in_place_beside pos h k n new c a j d = elim (split j (n / span W h)) [
    | inl le ↦
        let lt : suc j ≤ n / span W h = omega arith in
        let full : span W h ≤ n - j * span W h = omega (arith, mul-le-mul_right (span W h) lt, div-mul-le_self n (span W h)) in
        omega (arith, in_place_none h k (n - j * span W h) (part (span W h) j n new) c a (length_part (span W h) j n new ∙ part_full (span W h) j n (length new) full))
    | inr gt ↦
        let past : n < n / span W h * span W h + span W h = lt-div-mul-add (span_pos W pos h) in
        in_place_dead h k (n - j * span W h) (part (span W h) j n new) c a (omega (arith, mul-le-mul_right (span W h) gt))
  ]

  -- W data words at most, and W - 1 pointers on each level
  in_place_most : 0 < W → (h k n : ℕ) (new : List ℕ) (c a : ℕ) → length (in_place W b hook h k n new c a) ≤ W + (W - 1) * h
  unfolding in_place
  in_place_most pos zero k zero new c a = omega (arith, hooked_most zero new c a)
  in_place_most pos zero zero (suc n) new c a = omega arith
  in_place_most pos zero (suc k) (suc n) new c a = omega (arith, words_most (suc k) (suc n) new)
  in_place_most pos (suc h) k zero new c a = omega (arith, hooked_most (suc h) new c a)
  in_place_most pos (suc h) zero (suc n) new c a = omega arith
  in_place_most pos (suc h) (suc k) (suc n) new c a =
      let kid : ℕ → List Store = λ j. in_place W b hook h (cell W b (suc k) j / W) (suc n - j * span W h) (part (span W h) j (suc n) new)
      (c + tail_before W h (suc n) (length new) j) (W * suc k + j) in
      let i : ℕ = suc n / span W h in
      let own : length (kid i) ≤ W + (W - 1) * h = in_place_most pos h (cell W b (suc k) i / W) (suc n - i * span W h) (part (span W h) i (suc n) new) _ (W * suc k + i) in
      let all : sum W (λ j. length (kid j)) ≤ sum W (λ j. 1) + (W - 1 + (W - 1) * h) =
      sum_grow W (λ j. length (kid j)) (λ j. 1) i (W - 1 + (W - 1) * h) (omega arith) (λ j l d. in_place_beside pos h (cell W b (suc k) j / W) (suc n) new _ (W * suc k + j) j d) in
      omega (arith, length_joined W kid, all, ones W)

-- ---- A way of planning

-- p is one step, whose hidden stores are W for each block that it takes past the first k, and x others at most
pub record Costs (W k x : ℕ) (p : Plan) : Type 0 where
  pub only : Step
  pub is : p.steps ≡ only ∷ []
  pub hides : length only.hidden + W * k ≤ W * p.taken + x

one_costs : (W k x : ℕ) (ss : List Store) (a v c : ℕ) → length ss + W * k ≤ W * c + x → Costs W k x (plan (step ss a v ∷ []) c)
unfolding plan step
one_costs W k x ss a v c le = record { only = step ss a v; is = refl; hides = le }

-- pages and other stores
pages_costs : (W k x : ℕ) (fresh : ℕ → ℕ) (ps : List Page) (ss : List Store) (a v : ℕ) → length ss ≤ x → Costs W k x (plan (step (stored W fresh ps k ++ ss) a v ∷ []) (k + length ps))
pages_costs W k x fresh ps ss a v le = one_costs W k x (stored W fresh ps k ++ ss) a v (k + length ps) (omega (arith, length-append (stored W fresh ps k) ss, length_stored W fresh ps k))

-- pages alone
alone_costs : (W k x : ℕ) (fresh : ℕ → ℕ) (ps : List Page) (a v c : ℕ) → c ≡ k + length ps → Costs W k x (plan (step (stored W fresh ps k) a v ∷ []) c)
alone_costs W k x fresh ps a v c e = one_costs W k x (stored W fresh ps k) a v c (rw e (omega (arith, length_stored W fresh ps k)))

-- the ways after growth but the tail of a file that is not empty
module _ (g : Layout) (fresh : ℕ → ℕ) (b : List ℕ) (n : Inode) (o : ℕ) (new : List ℕ) (k x : ℕ) where
  pub empty_costs : 1 ≤ x → Costs g.words k x (empty_tail g fresh b n o new k)
  unfolding empty_tail empty_tail_to
  empty_costs one = pages_costs g.words k x fresh _ _ _ _ one

  pub inside_costs : Costs g.words k x (shadow_inside g fresh b n o new k)
  unfolding shadow_inside
  inside_costs = alone_costs g.words k x fresh _ _ _ _ refl

  pub leaf_costs : Costs g.words k x (shadow_with_length g fresh b n o new k)
  unfolding shadow_with_length
  leaf_costs = alone_costs g.words k x fresh _ _ _ _ (simp length-append (omega arith))

single_costs : (g : Layout) (b : List ℕ) (k o : ℕ) (new : List ℕ) (x : ℕ) → Costs g.words 0 x (single_word g b k o new)
unfolding single_word
single_costs g b k o new x = one_costs g.words 0 x [] _ _ 0 (omega arith)

-- what is so of each of ways 4 to 6 is so of the one that is chosen
pub by_ways : (g : Layout) (fresh : ℕ → ℕ) (b : List ℕ) (n : Inode) (o : ℕ) (new : List ℕ) (k : ℕ) (P : Plan → Type 0) → P (tail g fresh b n n.size o new k)
    → (is_tail g b n o ≡ false → (o + length new ≤ n.size → P (shadow_inside g fresh b n o new k)) × P (shadow_with_length g fresh b n o new k)) → P (chosen_way g fresh b n o new k)
unfolding chosen_way
by_ways g fresh b n o new k P end shadows = elim (either (is_tail g b n o)) [
  | inl e ↦ rw e end
  | inr e ↦ elim (either (leb (o + length new) n.size)) [ inl u ↦ rw (e, u) ((shadows e).0 (leb-true (o + length new) n.size u)) | inr u ↦ rw (e, u) (shadows e).1 ]
]

-- the root of an inode is of a height that its board may have
abbrev pub Low : Layout → Inode → Type 0
Low g n = 0 < n.size → n.root % g.words ≤ g.height

-- the most stores in place on a board of these figures
unfoldable pub extra : Layout → ℕ
extra g = g.words + (g.words - 1) * g.height

module _ (g : Layout) (pos : 0 < g.words) where
  extra_pos : 1 ≤ extra g
  unfolding extra
  extra_pos = omega arith

  in_place_extra : (b : List ℕ) (hook : ℕ → ℕ → ℕ → ℕ) (h k n : ℕ) (new : List ℕ) (c a : ℕ) → h ≤ g.height → length (in_place g.words b hook h k n new c a) ≤ extra g
  unfolding extra
  in_place_extra b hook h k n new c a low = omega (arith, in_place_most g.words b hook pos h k n new c a, mul-le-mul_left (g.words - 1) low)

  module _ (fresh : ℕ → ℕ) (b : List ℕ) (n : Inode) (low : Low g n) (o : ℕ) (new : List ℕ) (k : ℕ) where
    abbrev Way : Plan → Type 0
    Way = Costs g.words k (extra g)

    tail_way : (s : ℕ) → s ≡ n.size → Way (tail g fresh b n s o new k)
    unfolding tail
    tail_way zero e = empty_costs g fresh b n o new k (extra g) extra_pos
    tail_way (suc s) e = pages_costs g.words k (extra g) fresh _ _ _ _ (in_place_extra b _ (n.root % g.words) (n.root / g.words) (suc s) new k n.at (low (omega arith)))

    way_costs : Way (chosen_way g fresh b n o new k)
    way_costs = by_ways g fresh b n o new k Way (tail_way n.size refl) (λ e. (λ within. inside_costs g fresh b n o new k (extra g), leaf_costs g fresh b n o new k (extra g)))

-- ---- The stores and the pairs of a plan

-- all its stores
unfoldable pub cost : Plan → ℕ
cost p = length (concat (plan_epochs p.steps))

pub steps_cost : (p : Step) (ps : List Step) → length (concat (plan_epochs (p ∷ ps))) ≡ suc (length p.hidden) + length (concat (plan_epochs ps))
steps_cost p ps = rw (steps_stores p ps) (omega (arith, length-append p.hidden (p.commit ∷ concat (plan_epochs ps))))

-- a barrier between two epochs, of which a step has two at most
fenced_length : (es : List (List Store)) → length (fenced es) ≤ length (concat es) + (length es - 1)
unfolding fenced concat
fenced_length [] = omega arith
fenced_length (e ∷ []) = omega (arith, length-append e [])
fenced_length (e ∷ d ∷ es) = omega (arith, length-append e (barrier ∷ fenced (d ∷ es)), length-append e (concat (d ∷ es)), fenced_length (d ∷ es))

epochs_most : (ps : List Step) → length (plan_epochs ps) ≤ 2 * length ps
unfolding plan_epochs step_epochs
epochs_most [] = omega arith
epochs_most (p ∷ ps) = by p.hidden p.commit (epochs_most ps)
  where
    by : (ss : List Store) (c : Store) → length (plan_epochs ps) ≤ 2 * length ps → length (step_epochs ss c ++ plan_epochs ps) ≤ 2 * suc (length ps)
    by [] c l = omega arith
    by (s ∷ ss) c l = omega arith

-- W stores for each fresh block, x others, and two commits; two steps at most
pub record Bounded (W x : ℕ) (p : Plan) : Type 0 where
  pub all : cost p ≤ W * p.taken + x + 2
  pub few : length p.steps ≤ 2

-- so three barriers at most
pub pairs_most : (W x : ℕ) (p : Plan) → Bounded W x p → length (pairs p) ≤ cost p + 3
unfolding pairs cost
pairs_most W x p k = omega (arith, k.few, fenced_length (plan_epochs p.steps), epochs_most p.steps)

module _ (W x : ℕ) where
  none_bounded : Bounded W x (plan [] 0)
  unfolding plan cost plan_epochs concat
  none_bounded = record { all = omega arith; few = omega arith }

  one_bounded : (p : Plan) → Costs W 0 x p → Bounded W x p
  unfolding cost plan_epochs concat
  one_bounded p k = record { all = rw k.is (omega (arith, steps_cost k.only [], k.hides)); few = rw k.is (omega arith) }

  after_bounded : (p q : Plan) → (p ≡ plan [] 0) ⊎ Costs W 0 0 p → Costs W p.taken x q → Bounded W x (afterwards p q)
  unfolding afterwards plan cost plan_epochs concat
  after_bounded p q (inl e) k = rw e (one_bounded q (rw e at k))
  after_bounded p q (inr j) k = record {
    all = rw (j.is, k.is) (omega (arith, steps_cost j.only (k.only ∷ []), steps_cost k.only [], j.hides, k.hides));
    few = rw (j.is, k.is) (omega arith);
  }

-- ---- Writes and length changes

module _ (g : Layout) (fit : Fits g) (fresh : ℕ → ℕ) where
  growth_costs : (n : Inode) (h : ℕ) → Costs g.words 0 0 (growth_to g fresh n h)
  unfolding growth_to
  growth_costs n h = one_costs g.words 0 0 _ _ _ _ (omega (arith, length_stored g.words fresh (levels g.words fresh (n.root / g.words) (h - n.root % g.words)) 0))

  pub growth_either : (n : Inode) (e : ℕ) → (growth g fresh n e ≡ plan [] 0) ⊎ Costs g.words 0 0 (growth g fresh n e)
  unfolding growth
  growth_either n e = by (growing g n e)
    where
      by : (t : Bool) → let p : Plan = cond t (growth_to g fresh n (least g.words g.height e)) (plan [] 0) in (p ≡ plan [] 0) ⊎ Costs g.words 0 0 p
      by true = inr (growth_costs n (least g.words g.height e))
      by false = inl refl

  -- growth reaches no height that the board may not have
  pub grown_low : (n : Inode) (e : ℕ) → Low g n → Low g (grown_inode g fresh n e)
  unfolding grown_inode
  grown_low n e low some = by (growing g n e)
    where
      by : (t : Bool) → cond t (grown_root g fresh n (least g.words g.height e)) n.root % g.words ≤ g.height
      by true =
          let within : least g.words g.height e ≤ g.height = least_within g.words (words_pos g fit) g.height e in
          rw (address_place g.words _ (least g.words g.height e) (omega (arith, fit.heights_fit))) within
      by false = low some

  module _ (b : List ℕ) (f : ℕ) (low : Low g (inode_of g b f)) where
    some_bounded : (end : Option ℕ) (o : ℕ) (new : List ℕ) → Bounded g.words (extra g) (some_plan g fresh b f end o new)
    unfolding some_plan grown_plan
    some_bounded (Some k) o new = one_bounded g.words (extra g) _ (single_costs g b k o new (extra g))
    some_bounded None o new =
        let n : Inode = inode_of g b f in
        let e : ℕ = o + length new in
        let p : Plan = growth g fresh n e in
        after_bounded g.words (extra g) p _ (growth_either n e)
        (way_costs g (words_pos g fit) fresh (performed b (concat (plan_epochs p.steps))) (grown_inode g fresh n e) (grown_low n e low) o new p.taken)

    pub write_bounded : (o : ℕ) (new : List ℕ) → Bounded g.words (extra g) (write_plan g fresh b f o new)
    unfolding write_plan
    write_bounded o [] = none_bounded g.words (extra g)
    write_bounded o (x ∷ new) = some_bounded (single_block g b f o (o + suc (length new))) o (x ∷ new)

module _ (g : Layout) (pos : 0 < g.words) (b : List ℕ) (f : ℕ) (low : Low g (inode_of g b f)) (n : ℕ) where
  cleared_most : (s : ℕ) → s ≡ size g b f → length (cleared g b f s n) ≤ extra g
  unfolding cleared
  cleared_most zero e = extra_pos g pos
  cleared_most (suc s) e =
      in_place_extra g pos b (λ h l c. 0) (root_height g b f) (root_block g b f) (suc s) (replicate (n - suc s) 0) 0 (root_address g b f) (low (omega arith))

  pub length_bounded : Bounded g.words (extra g) (length_plan g b f n)
  unfolding length_plan
  length_bounded = by (eqb n (size g b f)) (ltb n (size g b f))
    where
      sized : (ss : List Store) → length ss ≤ extra g → Bounded g.words (extra g) (plan (step ss (size_address g b f) n ∷ []) 0)
      sized ss l = one_bounded g.words (extra g) _ (one_costs g.words 0 (extra g) ss (size_address g b f) n 0 (omega arith))

      by : (t u : Bool) → Bounded g.words (extra g) (cond t (plan [] 0) (plan (step (cond u [] (cleared g b f (size g b f) n)) (size_address g b f) n ∷ []) 0))
      by true u = none_bounded g.words (extra g)
      by false true = sized [] (omega arith)
      by false false = sized _ (cleared_most (size g b f) refl)
