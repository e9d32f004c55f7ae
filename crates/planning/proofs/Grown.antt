-- Growth and what follows it: the pairs of both, and the board that the second is planned on.
use mathlib.Core.Path.{◌≡◌, refl, sym, ap, ◌∙◌}
use mathlib.Core.Bool.{Bool, true, false, cond}
use mathlib.Core.List.{List, [], ◌∷◌, ◌++◌, append_assoc}
use Prim.Native.Nat.{ℕ, zero, suc, ◌+◌, ◌-◌, ◌*◌, ◌/◌, ◌%◌, ◌^◌, ◌≤◌, ◌<◌}
use native.Mathlib.Nat.{mul-zero, mul_comm, mod-eq_of_lt, mul-add-mod_self_left, div-mul-le_self}
use native.Mathlib.Omega.{arith}
use lib.ListN.{length, length-append}
use lib.Dec.{leb}
use Rattle.model.specs.declared.Inode.{Inode}
use Rattle.model.specs.Layout.{Kind}
use Rattle.model.specs.Lists.{tabulate, concat}
use Rattle.model.specs.Layout.{Layout, layout_of}
use Rattle.model.specs.Tree.{least}
use Rattle.model.specs.Board.{greatest}
use Rattle.model.specs.Store.{Store, store, barrier, performed, fenced, laid}
use Rattle.model.specs.Plan.{Step, Plan, plan, step, step_epochs, plan_epochs, pairs, afterwards}
use Rattle.model.specs.Fresh.{Page, stored}
use Rattle.model.specs.Change.{level_page, level_below, levels, level_top, growing, grown_root, growth_to, growth, grown_inode, is_tail, empty_tail_to, empty_tail, tail, shadow_inside, shadow_with_length, chosen_way, grown_plan}
use Rattle.model.proofs.Spans.{least_reaches}
use Rattle.model.proofs.Perform.{length_tabulate, length_stored}
use Rattle.model.proofs.Steps.{step_some, steps_stores}
use Rattle.words.specs.Width.{Width}
use Rattle.kinds.specs.Figures.{Bits}
use Rattle.model.proofs.Formatted.{fits}
use Rattle.kinds.proofs.Figures.{words_pos, low_height}
use Rattle.plans.specs.declared.Grown.{Grown}
use Rattle.plans.specs.Laying.{closing, Laid, PlanLaid}
use Rattle.plans.specs.Onto.{taking, Blocks, onto, NotGrown, Pointers}
use Rattle.plans.proofs.Laying as Laying
use Rattle.plans.proofs.Onto.{onto_none}
use Rattle.plans.specs.declared.Count.{Count}
use Rattle.growing.proofs.Growth.{levels_most}
use Rattle.plans.proofs.OneStep.{step_plan}
use Rattle.shadows.specs.Planning.{Pages, Ready}
use Rattle.planning.specs.Asked.{Growable}
use Rattle.growing.proofs.Growing.{spanned, grown_height}

-- ---- Pairs of two plans

fenced_append : (xs ys : List (List Store)) → 0 < length xs → 0 < length ys → fenced (xs ++ ys) ≡ fenced xs ++ (barrier ∷ fenced ys)
unfolding fenced
fenced_append [] ys u v = absurd (omega arith)
fenced_append (e ∷ []) [] u v = absurd (omega arith)
fenced_append (e ∷ []) (d ∷ ys) u v = refl
fenced_append (e ∷ d ∷ xs) ys u v =
    ap (λ (r : List Store). e ++ (barrier ∷ r)) (fenced_append (d ∷ xs) ys (omega arith) v) ∙ sym (append_assoc e (barrier ∷ fenced (d ∷ xs)) (barrier ∷ fenced ys))

epochs_append : (ps qs : List Step) → plan_epochs (ps ++ qs) ≡ plan_epochs ps ++ plan_epochs qs
unfolding plan_epochs
epochs_append [] qs = refl
epochs_append (p ∷ ps) qs =
    ap (λ (r : List (List Store)). step_epochs p.hidden p.commit ++ r) (epochs_append ps qs)
    ∙ sym (append_assoc (step_epochs p.hidden p.commit) (plan_epochs ps) (plan_epochs qs))

epochs_some : (ps : List Step) → 0 < length ps → 0 < length (plan_epochs ps)
unfolding plan_epochs
epochs_some [] l = absurd (omega arith)
epochs_some (p ∷ ps) l = step_some p.hidden p.commit (plan_epochs ps)

pairs_afterwards : (p q : Plan) → 0 < length p.steps → 0 < length q.steps → pairs (afterwards p q) ≡ pairs p ++ (barrier ∷ pairs q)
unfolding pairs afterwards plan
pairs_afterwards p q u v = rw (epochs_append p.steps q.steps) (fenced_append (plan_epochs p.steps) (plan_epochs q.steps) (epochs_some p.steps u) (epochs_some q.steps v))

laid_pairs : {slice slice' : List ℕ} {p : ℕ} {q : Plan} {r : Count} → PlanLaid slice p q slice' r → Laid slice p (pairs q) slice' r.pairs
laid_pairs w = record { is = w.is; next = w.count }

-- a plan laid, a barrier, and a plan laid behind it
both_laid : {slice slice₁ slice₂ slice₃ : List ℕ} {p q : Plan} {r₁ r : Count} {at x : ℕ} → 0 < length p.steps → 0 < length q.steps
    → PlanLaid slice 0 p slice₁ r₁ → at ≡ 0 + length (pairs p) → slice₂ ≡ laid slice₁ at (barrier ∷ []) → x ≡ at + 1 → PlanLaid slice₂ x q slice₃ r
    → PlanLaid slice 0 (afterwards p q) slice₃ r
unfolding afterwards plan
both_laid {p = p} {q = q} u v first place fence next second =
    let behind = Laying.more (Laying.one fence) (laid_pairs (rw next at second)) in
    let all = Laying.same_pairs (sym (pairs_afterwards p q u v)) (Laying.more (record { is = first.is; next = place }) behind) in
    record { is = all.is; count = all.next; taken = second.taken }

-- each way is one step
way_some : (g : Layout) (fresh : ℕ → ℕ) (b : List ℕ) (n : Inode) (o : ℕ) (new : List ℕ) (c : ℕ) → 0 < length (chosen_way g fresh b n o new c).steps
unfolding chosen_way empty_tail_to empty_tail tail shadow_inside shadow_with_length plan
way_some g fresh b n o new c = by (is_tail g b n o) (leb (o + length new) n.size)
  where
    tails : (s : ℕ) → 0 < length (tail g fresh b n s o new c).steps
    tails zero = omega arith
    tails (suc s) = omega arith

    by : (u v : Bool) → 0 < length (cond u (tail g fresh b n n.size o new c) (cond v (shadow_inside g fresh b n o new c) (shadow_with_length g fresh b n o new c))).steps
    by true v = tails n.size
    by false true = omega arith
    by false false = omega arith

-- ---- The board with growth performed

-- growth's levels, by how many there are
levels_all : (W : ℕ) (fresh : ℕ → ℕ) (k d : ℕ) → tabulate (length (levels W fresh k d)) (λ i. level_page W (level_below fresh k i)) ≡ levels W fresh k d
unfolding levels tabulate
levels_all W fresh zero d = refl
levels_all W fresh (suc k) d = ap (λ (m : ℕ). tabulate m (λ i. level_page W (level_below fresh (suc k) i))) (length_tabulate d (λ i. level_page W (level_below fresh (suc k) i)))

-- what is planned after growth sees the board with growth's stores performed
onto_grown : (g : Layout) (b free : List ℕ) (n : Inode) (h base : ℕ) {k t v : ℕ} → k ≡ n.root / g.words → t ≡ (growth_to g (taking free) n h).taken
    → v ≡ grown_root g (taking free) n h → onto g.words free b (record { below = k; levels = t; at = n.at; root = v; base = base }) ≡ performed b (concat (plan_epochs (growth_to g (taking free) n h).steps))
unfolding onto growth_to plan step plan_epochs concat
onto_grown g b free n h base ek et ev =
    let W : ℕ = g.words in
    let k : ℕ = n.root / W in
    let d : ℕ = h - n.root % W in
    rw (ek, et, ev, levels_all W (taking free) k d) (ap (performed b) (sym (steps_stores (step (stored W (taking free) (levels W (taking free) k d) 0) n.at (grown_root g (taking free) n h)) [])))

-- ---- Growth

closing_length : (m : ℕ) (s : Store) → (0 < length (closing m s)) × (length (closing m s) ≤ 2)
unfolding closing
closing_length zero s = (omega arith, omega arith)
closing_length (suc m) s = (omega arith, omega arith)

one_step_length : (ss : List Store) (a v c : ℕ) → let all = length (pairs (plan (step ss a v ∷ []) c)) in (length ss < all) × (all ≤ length ss + 2)
one_step_length ss a v c =
    let end = closing_length (length ss) (store a v) in
    let all = length-append ss (closing (length ss) (store a v)) in
    rw (step_plan ss a v c) (omega (arith, all, end.0), omega (arith, all, end.1))

-- how much growth takes: few blocks, their stores, a barrier and the root word
pub record GrowthCount (W : ℕ) (r : Count) : Type 0 where
  pub stores : W * r.taken < r.pairs
  pub most : r.pairs ≤ W * r.taken + 2
  pub few : r.taken ≤ 3

growth_count : (g : Layout) {slice slice' : List ℕ} {r : Count} (fresh : ℕ → ℕ) (n : Inode) (h : ℕ) → h ≤ 3 → PlanLaid slice 0 (growth_to g fresh n h) slice' r → GrowthCount g.words r
unfolding growth_to plan
growth_count g {r = r} fresh n h low w =
    let W : ℕ = g.words in
    let d : ℕ = h - n.root % W in
    let ps : List Page = levels W fresh (n.root / W) d in
    let taken : r.taken ≡ length ps = w.taken in
    let blocks = length_stored W fresh ps 0 in
    let all = one_step_length (stored W fresh ps 0) n.at (grown_root g fresh n h) (length ps) in
    record { stores = rw taken (omega (arith, w.count, all.0)); most = rw taken (omega (arith, w.count, all.1)); few = omega (arith, taken, levels_most W fresh (n.root / W) d) }

growth_some : (g : Layout) (fresh : ℕ → ℕ) (n : Inode) (h : ℕ) → 0 < length (growth_to g fresh n h).steps
unfolding growth_to plan
growth_some g fresh n h = omega arith

-- ---- What follows it

module _ {kind : Kind} {bits : ℕ} {pages : List ℕ} {n : Inode} {o : ℕ} {new table : List ℕ} (room : Pages kind bits pages) (g : Growable kind n o new table) where
  abbrev e : ℕ
  e = o + length new

  abbrev G : Layout
  G = layout_of kind

  -- where there is none
  module _ (t : growing G n e ≡ false) {grown : Grown} (none : NotGrown grown) where
    pub still_points : Pointers bits table grown
    still_points = record { width = room.wide.width; blocks = g.blocks; below = rw none.null (omega arith) }

    pub still_ready : Ready kind bits n o new pages grown.base grown.levels
    still_ready = record {
      pages = room;
      some = g.some;
      end = g.end;
      address = g.address;
      height = g.low;
      spans = spanned G n e t;
      place = rw (none.first, none.none) (omega arith);
    }

    pub still_laid : (b : List ℕ) {slice slice' : List ℕ} {r : Count} → length b < 2 ^ 64 → PlanLaid slice (grown.base + 2 ^ bits * grown.levels) (chosen_way G (taking table) (onto (2 ^ bits) table b grown) n o new grown.levels) slice' r
        → PlanLaid slice 0 (grown_plan G (taking table) b n o new) slice' r
    unfolding performed plan plan_epochs concat growth grown_inode grown_plan afterwards
    still_laid b small w = rw t (rw (onto_none (2 ^ bits) table b grown none small, none.first, none.none, mul-zero (2 ^ bits)) at w)

  -- where there is
  module _ (t : growing G n e ≡ true) {h : ℕ} (high : h ≡ least G.words G.height e) where
    grows : growth G (taking table) n e ≡ growth_to G (taking table) n h
    unfolding growth
    grows = rw (t, high)

    reached : (n.root % G.words ≤ h) × (h ≤ G.height)
    reached = grown_height G n e (words_pos kind) t high g.end

    low : h ≤ 3
    low = low_height kind h reached.1

    -- what `grow` asks, and `grown_root`
    pub may_grow : Blocks table × (n.root % G.words ≤ h) × (h < 8)
    may_grow = (g.blocks, reached.0, omega (arith, low))

    pub may_hook : Blocks table × (n.root % 2 ^ bits ≤ h) × (h < 8)
    may_hook = (g.blocks, rw (← room.wide.is) reached.0, omega (arith, low))

    pub counted : {slice slice' : List ℕ} {count : Count} → PlanLaid slice 0 (growth_to G (taking table) n h) slice' count → GrowthCount (2 ^ bits) count
    counted w = rw room.wide.is at (growth_count G (taking table) n h low w)

    -- the root word and its tree's height
    module _ {v k : ℕ} (ev : v ≡ 2 ^ bits * level_top (taking table) (n.root / 2 ^ bits) (h - n.root % 2 ^ bits) + h) (ek : k ≡ n.root / 2 ^ bits) where
      root_is : v ≡ grown_root G (taking table) n h
      root_is = rw room.wide.is ev

      height_is : v % G.words ≡ h
      height_is = rw root_is (mul-add-mod_self_left G.words (level_top (taking table) (n.root / G.words) (h - n.root % G.words)) h ∙ mod-eq_of_lt (omega (arith, reached.1, (fits kind).heights_fit)))

      abbrev grown_node : Inode
      grown_node = record { pointer = n.pointer; at = n.at; root = v; size = n.size }

      node_is : grown_node ≡ grown_inode G (taking table) n e
      unfolding grown_inode
      node_is = rw (root_is, high, t)

      module _ (small : n.root < 2 ^ 64) {slice slice₁ : List ℕ} {count : Count} (w : PlanLaid slice 0 (growth_to G (taking table) n h) slice₁ count) where
        abbrev after : ℕ → Grown
        after base = record { below = k; levels = count.taken; at = n.at; root = v; base = base }

        pub grown_points : (base : ℕ) → Pointers bits table (after base)
        grown_points base = record { width = room.wide.width; blocks = g.blocks; below = rw ek (omega (arith, div-mul-le_self n.root (2 ^ bits), mul_comm (2 ^ bits) (n.root / 2 ^ bits))) }

        pub grown_ready : {base : ℕ} → base + 2 ^ bits * count.taken ≤ 2 ^ 16 → Ready kind bits grown_node o new pages base count.taken
        unfolding greatest
        grown_ready place = record {
          pages = room;
          some = g.some;
          end = g.end;
          address = g.address;
          height = λ l. rw height_is reached.1;
          spans = λ l. rw (height_is, high) (least_reaches G.words (words_pos kind) G.height e g.end);
          place = place;
        }

        pub grown_laid : (b : List ℕ) {slice₂ slice₃ : List ℕ} {r : Count} (base : ℕ) → slice₂ ≡ laid slice₁ count.pairs (barrier ∷ []) → base + 2 ^ bits * count.taken ≡ count.pairs + 1
            → PlanLaid slice₂ (base + 2 ^ bits * count.taken) (chosen_way G (taking table) (onto (2 ^ bits) table b (after base)) grown_node o new count.taken) slice₃ r
            → PlanLaid slice 0 (grown_plan G (taking table) b n o new) slice₃ r
        unfolding grown_plan
        grown_laid b base fence next second =
            let seen = onto_grown G b table n h base (rw (← room.wide.is) at ek) w.taken root_is in
            let place : base + G.words * (growth_to G (taking table) n h).taken ≡ count.pairs + 1 = rw (room.wide.is, ← w.taken) next in
            rw grows (both_laid (growth_some G (taking table) n h) (way_some G (taking table) _ (grown_inode G (taking table) n e) o new _) w w.count fence place
            (rw (← room.wide.is, seen, node_is, w.taken) at second))
