-- Ways 4 to 6: the tail ways, and the choice.
use mathlib.Core.Path.{◌≡◌, refl, sym, ◌∙◌}
use mathlib.Core.Bool.{Bool, true, false, cond, ◌&&◌}
use mathlib.Core.List.{List, [], ◌∷◌, ◌++◌}
use Prim.Native.Nat.{ℕ, zero, suc, ◌+◌, ◌-◌, ◌*◌, ◌/◌, ◌%◌, ◌^◌, ◌≤◌, ◌<◌}
use native.Mathlib.Omega.{arith}
use native.Mathlib.Nat.{mul-le-mul}
use lib.ListN.{length}
use lib.Dec.{leb, eqb}
use lib.Pow.{pow_pos}
use borrow.Author.Tests.{le-leb, lt-leb}
use Rattle.model.specs.declared.Inode.{Inode}
use Rattle.model.specs.Layout.{Kind}
use Rattle.model.specs.Layout.{Layout, layout_of}
use Rattle.model.specs.Tree.{live, least}
use Rattle.model.specs.Store.{Store, store, laid}
use Rattle.model.specs.Plan.{Plan, step, plan}
use Rattle.model.specs.Fresh.{Page, stored, fresh_pointer, build}
use Rattle.model.specs.InPlace.{at_block, walk_live, tail_need, tail_pages, in_place}
use Rattle.model.specs.Change.{is_tail, empty_tail_to, empty_tail, tail, shadow_inside, shadow_with_length, chosen_way}
use Rattle.model.proofs.Trees.{live_some}
use Rattle.model.proofs.Built.{length_build_null}
use Rattle.model.proofs.Tailed.{length_tail}
use Rattle.words.proofs.Widths as Widths
use Rattle.kinds.specs.Figures.{Bits}
use Rattle.trees.specs.declared.Tree.{Tree}
use Rattle.trees.specs.Trees.{Reach}
use Rattle.plans.specs.declared.Grown.{Grown}
use Rattle.plans.specs.Laying.{closing, Laid, PlanLaid}
use Rattle.plans.specs.Onto.{taking, Pointers}
use Rattle.plans.proofs.Laying as Laying
use Rattle.taking.specs.Taking.{Took}
use Rattle.taking.proofs.Taken as Taken
use Rattle.plans.specs.declared.Count.{Count}
use Rattle.plans.proofs.OneStep.{one_step}
use Rattle.tails.specs.Stores.{hooks, padded}
use Rattle.tails.proofs.Room.{tail_most, place_most}
use Rattle.shadows.specs.Planning.{Ready}
use Rattle.shadows.proofs.ReadyWrites.{whole_few, place_after, may_take}

-- ---- A tail

-- the stores in place are few, since a tree has few blocks
pub few_stores : {kind : Kind} {r h : ℕ} → Bits kind r → h ≤ (layout_of kind).height → (b : List ℕ) (hook : ℕ → ℕ → ℕ → ℕ) (k n : ℕ) (new : List ℕ) (c a : ℕ)
    → length (in_place (2 ^ r) b hook h k n new c a) ≤ 2 ^ 30
few_stores {r = r} {h} wide l b hook k n new c a =
    omega (arith, place_most (2 ^ r) (pow_pos r) b hook h k n new c a, mul-le-mul (Widths.most wide.width) (whole_few wide l))

-- in a tree of height h
module _ {kind : Kind} {bits : ℕ} {n : Inode} {o : ℕ} {new pages : List ℕ} {base t : ℕ} (ready : Ready kind bits n o new pages base t)
    {h : ℕ} (l : h ≤ (layout_of kind).height) where
  abbrev W : ℕ
  W = 2 ^ bits

  -- what `tail_pages` asks
  pub may_tail : (m : ℕ) → Reach bits h × (W * h ≤ length pages) × (base + W * (t + tail_need W h m (length new)) ≤ 2 ^ 32)
  may_tail m = may_take ready l (tail_most W h m (length new))

  -- the place after the pages of a tail
  pub tail_place : {free plan plan' : List ℕ} {t' : ℕ} (c : List ℕ) (k m : ℕ) → Took W free plan base t (tail_pages W c (taking free) h k m new t) plan' t' → base + W * t' ≤ 2 ^ 31
  tail_place {free = free} {t' = t'} c k m took =
      let e : t' ≡ t + tail_need W h m (length new) = omega (arith, took.next, length_tail W (pow_pos bits) c (taking free) h k m new t) in
      rw e (place_after ready l (tail_most W h m (length new)))

  -- what `in_place` asks
  pub may_store : (c free : List ℕ) (k m a p : ℕ) → W * k + W ≤ 2 ^ 64 → p ≤ 2 ^ 31
      → Reach bits h × (W * k + W ≤ 2 ^ 64) × (length new ≤ length new) × (t + tail_need W h m (length new) ≤ 2 ^ 32)
      × (p + length (in_place W c (hooks W free) h k m (padded (length new) new) t a) ≤ 2 ^ 32)
  may_store c free k m a p small place =
      let asks = may_tail m in (
        asks.0,
        small,
        omega arith,
        omega (arith, Taken.count_small base (t + tail_need W h m (length new)) ready.pages.wide.width asks.2),
        omega (arith, few_stores ready.pages.wide l c (hooks W free) k m (padded (length new) new) t a, place),
      )

  -- the place after its stores
  pub store_place : {plan plan' : List ℕ} {p q : ℕ} (c free : List ℕ) (k m a : ℕ) → p ≤ 2 ^ 31 → Laid plan p (in_place W c (hooks W free) h k m new t a) plan' q → q ≤ 2 ^ 32
  store_place c free k m a place others = omega (arith, others.next, few_stores ready.pages.wide l c (hooks W free) k m new t a)

tail_live : (g : Layout) (fresh : ℕ → ℕ) (c : List ℕ) (n : Inode) (s o : ℕ) (new : List ℕ) (t : ℕ) → 0 < s →
    let W : ℕ = g.words in
    let ps : List Page = tail_pages W c fresh (n.root % W) (n.root / W) s new t in
    let others : List Store = in_place W c (λ h l i. fresh_pointer W fresh h 0 l i) (n.root % W) (n.root / W) s new t n.at in
    tail g fresh c n s o new t ≡ plan (step (stored W fresh ps t ++ others) (n.at + 1) (s + length new) ∷ []) (t + length ps)
unfolding tail
tail_live g fresh c n zero o new t l = absurd (omega arith)
tail_live g fresh c n (suc s) o new t l = refl

-- g's words are W; p and q are the places before the fresh pages and behind them
module _ (g : Layout) {W : ℕ} (is : g.words ≡ W) (c : List ℕ) (n : Inode) {free plan plan₁ : List ℕ} {base t t' p q : ℕ} (ep : p ≡ base + W * t) (eq : q ≡ base + W * t') where
  -- tail, in an empty file; v is the pointer to the tree
  pub empty_laid : 0 < W → (o : ℕ) (new : List ℕ) {plan₂ plan₃ : List ℕ} {h v r : ℕ} → h ≡ least g.words g.height (o + length new)
      → Took W free plan base t (build W (taking free) c h 0 0 o new t) plan₁ t' → v ≡ W * taking free (t' - 1) → plan₂ ≡ laid plan₁ q (store n.at (v + h) ∷ [])
      → Laid plan₂ (q + 1) (closing (q + 1 - p) (store (n.at + 1) (o + length new))) plan₃ r
      → PlanLaid plan (base + W * t) (empty_tail g (taking free) c n o new t) plan₃ (record { pairs = r; taken = t' })
  unfolding empty_tail_to empty_tail fresh_pointer
  empty_laid pos o new {h = h} eh took ev e l =
      let count = length_build_null W pos c (taking free) h 0 o new t in
      let hidden = Laying.more (Taken.laid_pages took) (Laying.one (rw eq at e)) in
      rw (← eh, is, ← count, ← took.next, ← ev) (one_step (n.at + 1) (o + length new) t' hidden (rw (eq, ep) at l) refl)

  module _ {u : Tree} (eu : u ≡ record { height = n.root % W; block = n.root / W; left = n.size }) where
    -- in a file that is not empty
    pub tail_laid : (new : List ℕ) {plan₂ plan₃ : List ℕ} {x r : ℕ} → 0 < n.size → Took W free plan base t (tail_pages W c (taking free) u.height u.block u.left new t) plan₁ t'
        → Laid plan₁ q (in_place W c (hooks W free) u.height u.block u.left new t n.at) plan₂ x → Laid plan₂ x (closing (x - p) (store (n.at + 1) (n.size + length new))) plan₃ r
        → PlanLaid plan (base + W * t) (tail g (taking free) c n n.size n.size new t) plan₃ (record { pairs = r; taken = t' })
    unfolding hooks
    tail_laid new live took others l =
        let pages = rw eu at took in
        rw (tail_live g (taking free) c n n.size n.size new t live, is, ← pages.next)
        (one_step (n.at + 1) (n.size + length new) t' (Laying.more (Taken.laid_pages pages) (rw (eu, eq) at others)) (rw ep at l) refl)

-- ---- The choice

-- the same plan, written another way
pub same_plan : {slice slice' : List ℕ} {p : ℕ} {x y : Plan} {r : Count} → x ≡ y → PlanLaid slice p x slice' r → PlanLaid slice p y slice' r
same_plan e l = rw (← e) l

module _ (g : Layout) (c : List ℕ) (n : Inode) (o : ℕ) (new free : List ℕ) (t : ℕ) where
  pub chosen_empty : n.size ≡ 0 → empty_tail g (taking free) c n o new t ≡ chosen_way g (taking free) c n o new t
  unfolding live is_tail tail chosen_way
  chosen_empty none = sym (rw none)

  -- r says whether the write is a tail
  module _ (some : n.size ≡ 0 → ⊥) {r : Bool} (er : r ≡ (eqb o n.size && at_block (walk_live g.words c (n.root % g.words) (n.root / g.words) n.size))) where
    chosen : chosen_way g (taking free) c n o new t
        ≡ cond r (tail g (taking free) c n n.size o new t) (cond (leb (o + length new) n.size) (shadow_inside g (taking free) c n o new t) (shadow_with_length g (taking free) c n o new t))
    unfolding is_tail chosen_way
    chosen = rw (live_some n.size (omega (arith, some)), ← er)

    pub chosen_tail : o ≡ n.size → r ≡ true → tail g (taking free) c n n.size n.size new t ≡ chosen_way g (taking free) c n o new t
    chosen_tail at_size is = sym (chosen ∙ rw (is, at_size))

    module _ (other : r ≡ false) where
      pub chosen_inside : o + length new ≤ n.size → shadow_inside g (taking free) c n o new t ≡ chosen_way g (taking free) c n o new t
      chosen_inside l = sym (chosen ∙ rw (other, le-leb (o + length new) n.size l))

      pub chosen_past : n.size < o + length new → shadow_with_length g (taking free) c n o new t ≡ chosen_way g (taking free) c n o new t
      chosen_past l = sym (chosen ∙ rw (other, lt-leb (o + length new) n.size l))
