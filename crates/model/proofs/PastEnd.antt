-- Writing past the end: whichever way such a write goes, and with growth before it, the path to the last byte before it is fresh and holes are null.
use Rattle.std.specs.Prelude.{None}
use mathlib.Core.Path.{◌≡◌, refl, ap, ◌∙◌}
use mathlib.Core.Logic.{inl, inr}
use mathlib.Core.Bool.{false}
use mathlib.Core.List.{List, [], ◌∷◌}
use Prim.Native.Nat.{ℕ, zero, suc, ◌+◌, ◌-◌, ◌≤◌, ◌<◌}
use native.Mathlib.Omega.{arith}
use lib.ListN.{length, get_or, take, drop}
use lib.Dec.{T, eqb}
use borrow.Author.Tests.{lt-ltb, le-ltb, lt-leb, eq-eqb, ne_eqb}
use Rattle.model.specs.Lists.{member}
use Rattle.model.specs.Layout.{Layout}
use Rattle.model.specs.Tree.{live, span, least}
use Rattle.model.specs.Board.{block_count, root_walk, root_height, root_block, size, size_address, inode_of, file_walk, contents, walk_to, free}
use Rattle.model.specs.Store.{performed, stores, fenced}
use Rattle.model.specs.Plan.{Plan, plan, plan_epochs, afterwards, pairs}
use Rattle.model.specs.Fresh.{fresh_need, need, build}
use Rattle.model.specs.InPlace.{at_block}
use Rattle.model.specs.Change.{growing, growth_to, growth, single_block, is_tail, empty_tail_to, empty_tail, tail, shadow_with_length, chosen_way, grown_plan, some_plan, write_plan}
use Rattle.model.specs.Calls.{lowest, write_faults, write_from}
use Rattle.model.specs.Cut.{called_from, called, plan_from, plan_for, overwritten}
use Rattle.model.specs.Claims.{PastEnd, PastEndRule}
use Rattle.model.proofs.Cases.{split, or_left, or_right}
use Rattle.model.proofs.Epochs.{planned_either}
use Rattle.model.proofs.Trees.{live_some, walk_dead}
use Rattle.model.proofs.Paths.{touched_new, fresh_quiet}
use Rattle.model.proofs.Built.{Between, length_build, length_build_null}
use Rattle.model.proofs.PastTree.{Laid, laid_holes, laid_path, laid_arrives}
use Rattle.model.proofs.Shown.{words_pos}
use Rattle.model.proofs.Accepting.{FileOn}
use Rattle.model.proofs.Linked.{walk_to_file}
use Rattle.model.proofs.Supplied.{Supply, supply_order, lowest_rule}
use Rattle.model.proofs.Steps.{committed, all_committed, performed_steps}
use Rattle.model.proofs.Writing.{Writing, Spanned, Growing}
use Rattle.model.proofs.SizeWays.{empty_height, empty_block, empty_held}
use Rattle.model.proofs.LeafWay.{tree_pages, leaf_step, leaf_good, leaf_held, leaf_height, leaf_block, leaf_size}
use Rattle.model.proofs.GrowthWay.{growth_step, growing_cases, growth_size, growth_reaches, growth_supply, growth_walks}
use Rattle.model.proofs.Plans.{growth_first, still_plan, growth_is, grown_plan_law, grown_writing, write_good}
use Rattle.model.proofs.Rules.{write_passed, one_stores}

-- ---- Which way it goes

module _ (g : Layout) (fresh : ℕ → ℕ) (b : List ℕ) (f o : ℕ) (new : List ℕ) (c : ℕ) (past : size g b f < o) where
  abbrev way : Plan
  way = chosen_way g fresh b (inode_of g b f) o new c

  -- no single word
  none_single : 0 < length new → single_block g b f o (o + length new) ≡ None
  unfolding single_block
  none_single some = rw (lt-leb (o + length new) (size g b f) (omega arith))

  -- *with size 0 it goes the tail way*
  empty_way : size g b f ≡ 0 → way ≡ empty_tail g fresh b (inode_of g b f) o new c
  unfolding chosen_way is_tail tail live
  empty_way z = rw z

  -- *otherwise as shadow with length*
  leaf_way : 0 < size g b f → way ≡ shadow_with_length g fresh b (inode_of g b f) o new c
  unfolding chosen_way is_tail
  leaf_way l = rw (live_some (size g b f) l, ne_eqb o (size g b f) (omega arith)) (rw (lt-leb (o + length new) (size g b f) (omega arith)))

-- ---- What it leaves

-- *a byte past the span is in a hole*
beyond_hole : (g : Layout) (b : List ℕ) (f i : ℕ) → span g.words (root_height g b f) ≤ i → file_walk g b f i ≡ None
unfolding file_walk root_walk
beyond_hole g b f i l = rw (le-ltb i (span g.words (root_height g b f)) l)

module _ {g : Layout} {b : List ℕ} {f o : ℕ} {new : List ℕ} (w : Writing g b f o new) (some : 0 < length new) (reach : Spanned g b f (o + length new))
    {fresh : ℕ → ℕ} {c lim : ℕ} (supply : Supply g b fresh c lim) (past : size g b f < o) (taken : List ℕ) where
  abbrev W : ℕ
  W = g.words

  pos : 0 < W
  pos = words_pos g w.on.fit

  -- on the board that a plan of one step leaves, whose fresh blocks, from number c on, are among those taken
  abbrev Past : Plan → Type 0
  Past p = p.taken ≤ lim → ((i : ℕ) → c ≤ i → i < p.taken → T (member (fresh i) taken)) → PastEnd g b (all_committed b p.steps) f o (length new) taken

  empty_hole : size g b f ≡ 0 → (i : ℕ) → file_walk g b f i ≡ None
  unfolding file_walk root_walk
  empty_hole z i = elim (split (span W (root_height g b f)) i) [
    | inl beyond ↦ beyond_hole g b f i beyond
    | inr within ↦ rw (lt-ltb i (span W (root_height g b f)) within, z, walk_dead W b (root_height g b f) (root_block g b f) i)
  ]

  past_empty : size g b f ≡ 0 → Past (empty_tail g fresh b (inode_of g b f) o new c)
  unfolding empty_tail_to empty_tail plan all_committed at_block size_address
  past_empty z room among =
      let h : ℕ = least W g.height (o + length new) in
      let count : fresh_need W b h 0 0 o (length new) ≡ need W h o (length new) = fresh_quiet W b h 0 0 o (length new) (inl refl) in
      let len : length (build W fresh b h 0 0 o new c) ≡ need W h o (length new) = length_build_null W pos b fresh h 0 o new c in
      let high = empty_height w.on w some z supply room in
      let block = empty_block w.on w some z supply room in
      record {
        copied = λ l. absurd (omega arith);
        arrives = λ x. absurd (rw (walk_to_file w.on (size g b f - 1), empty_hole z (size g b f - 1)) at x);
        holes = rw (high, block, z, ← count) (laid_holes W pos b _ supply.between {h = h} {k = 0} {n = 0} {new = new} (record {
          test = touched_new W h 0 0 o (length new) some;
          room_for = omega (arith, count, len);
          pages = empty_held w.on w some z supply room;
        }) (λ l. absurd (omega arith)));
      }

  past_leaf : 0 < size g b f → Past (shadow_with_length g fresh b (inode_of g b f) o new c)
  unfolding shadow_with_length plan all_committed file_walk root_walk
  past_leaf l room among =
      let h : ℕ = root_height g b f in
      let k : ℕ = root_block g b f in
      let n : ℕ = size g b f in
      let under : o + length new ≤ span W h = reach l in
      let len : length (tree_pages g fresh b f o new c) ≡ fresh_need W b h k n o (length new) = length_build W pos b fresh h k n o new c in
      let within : n - 1 < span W h = omega arith in
      let b' : List ℕ = committed b (leaf_step g fresh b f o new c) in
      let high = leaf_height w some l (omega arith) under supply room in
      let block : root_block g b' f ≡ fresh (c + fresh_need W b h k n o (length new) - 1) =
      leaf_block w some l (omega arith) under supply room ∙ ap (λ (x : ℕ). fresh (c + x - 1)) len in
      let on' : FileOn g b' f = record { fit = w.on.fit; board = (leaf_good w some l (omega arith) under supply room).good.outcome.board; file = w.on.file } in
      let now = leaf_size w some l (omega arith) under supply room in
      let end : ℕ = c + length (tree_pages g fresh b f o new c) + 1 in
      let there : Between fresh end (block_count g b - 1) = record { nonzero = λ i u. supply.between.nonzero i (omega arith); below = λ i u. supply.between.below i (omega arith) } in
      let laid : Laid W pos b b' there h k n o new c = record {
        test = touched_new W h k n o (length new) some;
        room_for = omega (arith, len);
        pages = leaf_held w some l (omega arith) under supply room;
      } in
      record {
        copied = λ z. rw (high, block) (laid_path W pos b b' there (λ q. member q taken) c among laid (omega arith) l (omega arith) past);
        arrives = λ x. rw (walk_to_file on' (n - 1), high, block, now, lt-ltb (n - 1) (span W h) within)
            (laid_arrives W pos b b' there _ laid l (omega arith) past (omega arith) (rw (walk_to_file w.on (n - 1), lt-ltb (n - 1) (span W h) within) at x));
        holes = rw (high, block) (laid_holes W pos b b' there laid (λ z. past));
      }

  way_past : Past (way g fresh b f o new c past)
  way_past = elim (split (size g b f) 0) [
    | inl z ↦ let e : size g b f ≡ 0 = omega arith in rw (empty_way g fresh b f o new c past e) (past_empty e)
    | inr l ↦ rw (leaf_way g fresh b f o new c past l) (past_leaf l)
  ]

-- ---- With growth before it

-- the i-th of a list is among its first n
member_take : (l : List ℕ) (n i : ℕ) → i < n → i < length l → T (member (get_or l i 0) (take n l))
unfolding member
member_take [] n i u v = absurd (omega arith)
member_take (x ∷ l) zero i u v = absurd (omega arith)
member_take (x ∷ l) (suc n) zero u v = or_left (eqb x x) (member x (take n l)) (rw (eq-eqb x x refl) tt)
member_take (x ∷ l) (suc n) (suc i) u v = or_right (eqb (get_or l i 0) x) (member (get_or l i 0) (take n l)) (member_take l n i (omega arith) (omega arith))

-- and, from the k-th on, of those after the first k
member_drop : (l : List ℕ) (n k i : ℕ) → k ≤ i → i < n → i < length l → T (member (get_or l i 0) (drop k (take n l)))
member_drop l n zero i u v w = member_take l n i v w
member_drop [] n (suc k) i u v w = absurd (omega arith)
member_drop (x ∷ l) zero (suc k) i u v w = absurd (omega arith)
member_drop (x ∷ l) (suc n) (suc k) zero u v w = absurd (omega arith)
member_drop (x ∷ l) (suc n) (suc k) (suc i) u v w = member_drop l n k i (omega arith) (omega arith) (omega arith)

-- judged from a board c on which the file has the same size, and walks that end at a block still do
past_from : (g : Layout) (b c b' : List ℕ) (f o l : ℕ) (taken : List ℕ) → size g c f ≡ size g b f
    → ((i : ℕ) → T (at_block (walk_to g b f i)) → T (at_block (walk_to g c f i))) → PastEnd g c b' f o l taken → PastEnd g b b' f o l taken
past_from g b c b' f o l taken e walks p = record {
  copied = λ u. rw e at (p.copied (rw e u));
  arrives = λ x. rw e at (p.arrives (rw e (walks (size g b f - 1) x)));
  holes = rw e at p.holes;
}

module _ {g : Layout} {b : List ℕ} {f o : ℕ} {new : List ℕ} (w : Writing g b f o new) (some : 0 < length new) (past : size g b f < o) where
  abbrev e : ℕ
  e = o + length new

  abbrev fresh : ℕ → ℕ
  fresh = lowest g b

  abbrev lim : ℕ
  lim = length (free g b)

  lent : Supply g b fresh 0 lim
  lent = supply_order g b fresh (lowest_rule g b)

  among : (k n : ℕ) → n ≤ lim → (i : ℕ) → k ≤ i → i < n → T (member (fresh i) (drop k (take n (free g b))))
  unfolding lowest
  among k n le i u l = member_drop (free g b) n k i u l (omega arith)

  -- after growth p, the plan q
  abbrev Wanted : Plan → Plan → Type 0
  Wanted p q = q.taken ≤ lim → PastEnd g b (all_committed b q.steps) f o (length new) (drop p.taken (take q.taken (free g b)))

  no_growth : growing g (inode_of g b f) e ≡ false → Spanned g b f e → Wanted (growth g fresh (inode_of g b f) e) (grown_plan g fresh b (inode_of g b f) o new)
  unfolding growth plan
  no_growth still reach = rw (still, still_plan w some lent still) (λ room. way_past w some reach lent past _ room (among 0 _ room))

  module _ (grow : Growing g b f e) where
    abbrev p : Plan
    p = growth_to g fresh (inode_of g b f) (least g.words g.height e)

    abbrev c : List ℕ
    c = committed b (growth_step g fresh b f (least g.words g.height e))

    module _ (enough : p.taken ≤ lim) where
      -- growth keeps walks that end at a block
      walks_kept : (i : ℕ) → T (at_block (walk_to g b f i)) → T (at_block (walk_to g c f i))
      unfolding at_block
      walks_kept i x = elim (split (span g.words (root_height g b f)) i) [
        | inl beyond ↦ absurd (rw (walk_to_file w.on i, beyond_hole g b f i beyond) at x)
        | inr within ↦ rw (walk_to_file (grown_writing w some lent grow enough).on i, growth_walks grow lent enough i within, ← (walk_to_file w.on i)) x
      ]

      after_growth : Wanted p (afterwards p (chosen_way g fresh c (inode_of g c f) o new p.taken))
      unfolding growth_to plan afterwards all_committed
      after_growth room =
          let sizes : size g c f ≡ size g b f = growth_size grow lent enough in
          past_from g b c _ f o (length new) _ sizes walks_kept
          (way_past (grown_writing w some lent grow enough) some (λ z. growth_reaches grow lent enough) (growth_supply grow lent enough) (rw sizes past) _ room (among p.taken _ room))

    grows : Wanted (growth g fresh (inode_of g b f) e) (grown_plan g fresh b (inode_of g b f) o new)
    grows room =
        let is : growth g fresh (inode_of g b f) e ≡ p = growth_is w some lent grow in
        let enough : p.taken ≤ lim = omega (arith, room, growth_first g fresh b f o new, ap (λ (x : Plan). x.taken) is) in
        let plan-is = grown_plan_law w some lent grow enough in
        rw (is, plan-is) (after_growth enough (rw plan-is at room))

  past_some : Wanted (growth g fresh (inode_of g b f) e) (some_plan g fresh b f (single_block g b f o e) o new)
  unfolding some_plan
  past_some = rw (none_single g fresh b f o new 0 past some) (elim (growing_cases w) [ inl still ↦ no_growth still.0 still.1 | inr grow ↦ grows grow ])

-- the plan, whatever is written
plan_past : {g : Layout} {b : List ℕ} {f o : ℕ} {new : List ℕ} → Writing g b f o new → size g b f < o → let p : Plan = write_plan g (lowest g b) b f o new in
    0 < length (pairs p) → p.taken ≤ length (free g b)
    → PastEnd g b (all_committed b p.steps) f o (length new) (drop (growth g (lowest g b) (inode_of g b f) (o + length new)).taken (take p.taken (free g b)))
unfolding write_plan plan pairs fenced plan_epochs
plan_past {new = []} w past more room = absurd (omega arith)
plan_past {new = x ∷ new} w past more room = past_some w (omega arith) past room

-- ---- The rule

pub past_end_rule : PastEndRule
unfolding called called_from write_from plan_for plan_from pairs
past_end_rule g fit b t f o new slice more past =
    let q : Plan = write_plan g (lowest g b) b f o new.values in
    elim (planned_either (write_faults g b f o new.values q) (pairs q) slice) [
      | inl d ↦
          let ok = write_passed fit t f o new q d.passed in
          let good = write_good ok.0 (supply_order g b (lowest g b) (lowest_rule g b)) ok.1 in
          let whole : performed b (stores (pairs q)) ≡ all_committed b q.steps =
          ap (performed b) (one_stores g fit b t f ok.0.on.file (overwritten o new.values (contents g b f)) q good.steps_good) ∙ performed_steps b q.steps in
          rw (d.plans, whole) (plan_past ok.0 past (rw d.plans at more) ok.1)
      | inr r ↦ absurd (omega (arith, rw r.plans at more))
    ]
