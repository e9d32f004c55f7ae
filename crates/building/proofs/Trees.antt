-- Fresh trees as they are laid: the pages of a pointer block's children one after another, then its own.
use mathlib.Core.Path.{◌≡◌, refl, sym, ap, ◌∙◌}
use mathlib.Core.Logic.{◌≢◌, inl, inr}
use mathlib.Core.Bool.{true, false}
use mathlib.Core.List.{List, [], ◌∷◌, ◌++◌}
use Prim.Native.Nat.{ℕ, zero, suc, ◌+◌, ◌-◌, ◌*◌, ◌/◌, ◌^◌, ◌≤◌, ◌<◌}
use native.Mathlib.Nat.{mul-suc, mul-le-mul_left}
use native.Mathlib.Omega.{arith}
use native.Mathlib.Numerals.{add-one, sub-one}
use lib.ListN.{length, get_or, set, take, get_or-append, length-take, length-append}
use lib.Seq.{get_or-set_same, get_or-set_other, get_or-take}
use borrow.Rule.Slice.PartMut.{put_mid, post_of}
use Rattle.model.specs.Lists.{joined}
use Rattle.model.specs.Tree.{seen, span, link}
use Rattle.model.specs.Fresh.{Page, part, touched, fresh_need, fresh_before, need, data_page, pointer_page, build}
use Rattle.model.proofs.Cases.{decide, length_joined}
use Rattle.model.proofs.Agree.{seen_live, seen_dead}
use Rattle.model.proofs.Splice.{length_part, choose_zero, choose_pos}
use Rattle.model.proofs.Paths.{kid_need, fresh_none, fresh_node, fresh_pos, fresh_quiet}
use Rattle.model.proofs.Built.{kid, kid_lengths, build_none, build_data, build_node, length_build, room}
use Rattle.trees.specs.declared.Tree.{Tree}
use Rattle.plans.specs.Onto.{taking}
use Rattle.taking.specs.Taking.{Took}
use Rattle.taking.proofs.Taken as Taken

-- ---- What is built

module _ (W : ℕ) (pos : 0 < W) (free b : List ℕ) (h k n o : ℕ) (new : List ℕ) (c : ℕ) where
  -- the pages of child j
  abbrev pub child : ℕ → List Page
  child j = kid W pos b (taking free) h k n o new c j

  -- the words of the block over them
  abbrev pub pointers : Page
  pointers = pointer_page W (taking free) b h k n o (length new) c

built_data : (W : ℕ) → 0 < W → (fresh : ℕ → ℕ) (b : List ℕ) (h k n o : ℕ) (new : List ℕ) (c : ℕ) → touched W h k n o (length new) ≡ true → h ≡ 0 → build W fresh b h k n o new c ≡ data_page W b k n o new ∷ []
built_data W pos fresh b zero k n o new c t e = build_data W pos b fresh k n o new c t
built_data W pos fresh b (suc h) k n o new c t e = absurd (omega arith)

built_tree : (W : ℕ) (pos : 0 < W) (free b : List ℕ) (h k n o : ℕ) (new : List ℕ) (c : ℕ) → touched W h k n o (length new) ≡ true → h ≢ 0
    → joined W (child W pos free b (h - 1) k n o new c) ++ (pointers W pos free b (h - 1) k n o new c ∷ []) ≡ build W (taking free) b h k n o new c
built_tree W pos free b zero k n o new c t tall = absurd (tall refl)
built_tree W pos free b (suc h) k n o new c t tall = rw (sub-one (suc h)) (sym (build_node W pos b (taking free) h k n o new c t))

-- The pages of the children before j are laid, and the pointers before j stand in the page
pub record Children (W : ℕ) (pos : 0 < W) (free b : List ℕ) (h k n o : ℕ) (new plan₀ : List ℕ) (base c j : ℕ) (plan page : List ℕ) (taken : ℕ) : Type 0 where
  pub took : Took W free plan₀ base c (joined j (child W pos free b h k n o new c)) plan taken
  pub done : (i : ℕ) → i < j → get_or page i 0 ≡ pointers W pos free b h k n o new c i

module _ {W : ℕ} {pos : 0 < W} {free b : List ℕ} {h k n o : ℕ} {new plan page : List ℕ} {base c : ℕ} where
  pub start : Children W pos free b h k n o new plan base c 0 plan page c
  unfolding joined
  start = record { took = Taken.none; done = λ i l. absurd (omega arith) }

-- a page that is still as it was below j, with room for word j
pub record Kept (j : ℕ) (page page' : List ℕ) : Type 0 where
  pub same : (i : ℕ) → i < j → get_or page' i 0 ≡ get_or page i 0
  pub room : j < length page'

pub untouched : {j : ℕ} {page : List ℕ} → j < length page → Kept j page page
untouched l = record { same = λ i m. refl; room = l }

-- what lies past the page was lent
pub lent : {j w : ℕ} (m : ℕ) (page part : List ℕ) → j < w → w ≤ length page → Kept j page (put_mid w m page part)
lent {j} {w} m page part l fits =
    let e : length (take w page) ≡ w = simp length-take (omega arith) in
    record {
      same = λ i u. get_or-append (take w page) (part ++ post_of w m page) 0 i (omega arith) ∙ get_or-take w page i 0 (omega arith);
      room = omega (arith, length-append (take w page) (part ++ post_of w m page));
    }

module _ {W : ℕ} {pos : 0 < W} {free b : List ℕ} {h k n o : ℕ} {new plan₀ : List ℕ} {base c j : ℕ} {plan page : List ℕ} {taken : ℕ}
    (t : Children W pos free b h k n o new plan₀ base c j plan page taken) where
  -- how many blocks are taken
  taken_before : taken ≡ c + fresh_before W b h k n o (length new) j
  taken_before = omega (arith, t.took.next, length_joined j (child W pos free b h k n o new c), kid_lengths W pos b (taking free) h k n o new c j)

  -- a turn: child j's pages are laid, and its pointer v is stored
  turn : {plan' page' page'' : List ℕ} {taken' v : ℕ} → Took W free plan base taken (child W pos free b h k n o new c j) plan' taken' → v ≡ pointers W pos free b h k n o new c j
      → Kept j page page' → page'' ≡ set page' j v → Children W pos free b h k n o new plan₀ base c (j + 1) plan' page'' taken'
  unfolding joined
  turn {plan'} {page'} {page''} {taken'} {v} u e kept z = record {
    took = rw (add-one j) (Taken.more t.took u);
    done = λ i m. elim (decide i j) [
      | inl y ↦ rw (z, y) (get_or-set_same page' j v 0 kept.room ∙ e)
      | inr y ↦ rw z (get_or-set_other page' j i v 0 y ∙ kept.same i (omega arith) ∙ t.done i (omega arith))
    ];
  }

  module _ {s x o' : ℕ} {own : List ℕ} {u : Tree} (es : s ≡ span W h) (eo : own ≡ part s j o new) (ex : x ≡ link W b k j) (eo' : o' ≡ o - j * s)
      (eu : u ≡ record { height = h; block = x / W; left = n - j * s }) where
    same : build W (taking free) b u.height u.block u.left o' own taken ≡ child W pos free b h k n o new c j
    same = rw (eu, ex, eo, eo', es, taken_before)

    count : fresh_need W b u.height u.block u.left o' (length own) ≡ kid_need W b h k n o (length new) j
    count = rw (eu, ex, eo, eo', es, length_part (span W h) j o new)

    -- a child that is not made fresh: nothing is laid, and its pointer is the old one
    module _ (none : touched W u.height u.block u.left o' (length own) ≡ false) where
      nothing : Took W free plan base taken (child W pos free b h k n o new c j) plan taken
      nothing = Taken.same_pages (sym (build_none W pos b (taking free) u.height u.block u.left o' own taken none) ∙ same) Taken.none

      old : pointers W pos free b h k n o new c j ≡ seen (n - j * span W h) (link W b k j)
      unfolding pointer_page
      old = choose_zero (kid_need W b h k n o (length new) j) _ _ (sym count ∙ fresh_none W b u.height u.block u.left o' (length own) none)

      module _ {page' : List ℕ} (kept : Kept j page page') where
        pub dead_child : {page'' : List ℕ} → n ≤ j * s → page'' ≡ set page' j 0 → Children W pos free b h k n o new plan₀ base c (j + 1) plan page'' taken
        dead_child past = turn nothing (sym (old ∙ seen_dead (n - j * span W h) (link W b k j) (omega (arith, rw es at past)))) kept

        pub old_child : {page'' : List ℕ} → j * s < n → page'' ≡ set page' j x → Children W pos free b h k n o new plan₀ base c (j + 1) plan page'' taken
        old_child live = turn nothing (ex ∙ sym (old ∙ seen_live (n - j * span W h) (link W b k j) (omega (arith, rw es at live)))) kept

    module _ {page' : List ℕ} (kept : Kept j page page') where
      pub fresh_child : {plan' page'' : List ℕ} {taken' v : ℕ} → touched W u.height u.block u.left o' (length own) ≡ true → Took W free plan base taken (build W (taking free) b u.height u.block u.left o' own taken) plan' taken'
          → v ≡ W * taking free (taken' - 1) → page'' ≡ set page' j v → Children W pos free b h k n o new plan₀ base c (j + 1) plan' page'' taken'
      unfolding pointer_page
      fresh_child {plan'} {page''} {taken'} {v} some laid ev =
          let l : ℕ = kid_need W b h k n o (length new) j in
          let at : taken' ≡ c + fresh_before W b h k n o (length new) j + l = omega (arith, laid.next, length_build W pos b (taking free) u.height u.block u.left o' own taken, count, taken_before) in
          turn (Taken.same_pages same laid) (ev ∙ ap (λ (y : ℕ). W * taking free (y - 1)) at
          ∙ sym (choose_pos l _ _ (omega (arith, count, fresh_pos W b u.height u.block u.left o' (length own) some)))) kept

-- ---- The tree

module _ (W : ℕ) (pos : 0 < W) (free b : List ℕ) (h k n o : ℕ) (new : List ℕ) {plan₀ : List ℕ} {base c : ℕ} where
  pub none : touched W h k n o (length new) ≡ false → Took W free plan₀ base c (build W (taking free) b h k n o new c) plan₀ c
  none e = Taken.same_pages (sym (build_none W pos b (taking free) h k n o new c e)) Taken.none

  pub leaf : {plan : List ℕ} {taken : ℕ} → touched W h k n o (length new) ≡ true → h ≡ 0 → Took W free plan₀ base c (data_page W b k n o new ∷ []) plan taken
      → Took W free plan₀ base c (build W (taking free) b h k n o new c) plan taken
  leaf some low = Taken.same_pages (sym (built_data W pos (taking free) b h k n o new c some low))

-- a block that is made fresh is taken
pub taken_some : {W : ℕ} → 0 < W → {free plan₀ plan : List ℕ} {base c taken : ℕ} (b : List ℕ) (h k n o : ℕ) (new : List ℕ) → touched W h k n o (length new) ≡ true
    → Took W free plan₀ base c (build W (taking free) b h k n o new c) plan taken → 0 < taken
taken_some {W} pos {free} {c = c} b h k n o new some t = omega (arith, t.next, length_build W pos b (taking free) h k n o new c, fresh_pos W b h k n o (length new) some)

-- off the plan a tree that is written from its start is counted
pub counted : {W : ℕ} → 0 < W → {free plan : List ℕ} {base c p r : ℕ} (b : List ℕ) (h k n o : ℕ) (new : List ℕ) → p ≡ base + W * c → length plan ≤ p
    → o ≡ 0 → r ≡ need W h 0 (length new) → Took W free plan base c (build W (taking free) b h k n o new c) plan (c + r)
counted {W} pos {free} {c = c} b h k n o new ep out first e =
    let long : length (build W (taking free) b h k n o new c) ≡ need W h 0 (length new) =
    length_build W pos b (taking free) h k n o new c ∙ rw first (fresh_quiet W b h k n 0 (length new) (inr (inr (omega arith)))) in
    Taken.off_all ep out (rw (e, long))

need_tall : (W : ℕ) (b : List ℕ) (h k n o l : ℕ) → h ≢ 0 → fresh_need W b (suc (h - 1)) k n o l ≡ fresh_need W b h k n o l
need_tall W b h k n o l tall = let e : suc (h - 1) ≡ h = omega arith in ap (λ (x : ℕ). fresh_need W b x k n o l) e

tall_touched : (W h k n o l : ℕ) → h ≢ 0 → touched W h k n o l ≡ true → touched W (suc (h - 1)) k n o l ≡ true
tall_touched W h k n o l tall t = let e : h ≡ suc (h - 1) = omega arith in rw e at t

module _ {W : ℕ} {pos : 0 < W} {free b : List ℕ} {h k n o : ℕ} {new plan₀ : List ℕ} {base c j : ℕ} {plan page : List ℕ} {taken : ℕ}
    (some : touched W h k n o (length new) ≡ true) (tall : h ≢ 0) (t : Children W pos free b (h - 1) k n o new plan₀ base c j plan page taken) where
  -- all children, and the block over them
  pub node : {plan' : List ℕ} {taken' : ℕ} → W ≤ j → j ≤ W → Took W free plan base taken ((λ i. get_or page i 0) ∷ []) plan' taken'
      → Took W free plan₀ base c (build W (taking free) b h k n o new c) plan' taken'
  node low high u =
      let e : j ≡ W = omega arith in
      Taken.same_pages (ap (λ (i : ℕ). joined i (child W pos free b (h - 1) k n o new c) ++ (pointers W pos free b (h - 1) k n o new c ∷ [])) e ∙ built_tree W pos free b h k n o new c some tall)
      (Taken.more t.took (Taken.by_words page (λ i l. t.done i (omega arith)) u))

  -- the places of child j's pairs, and of those of the block over all
  module _ (fits : base + W * (c + fresh_need W b h k n o (length new)) ≤ 2 ^ 32) where
    pub child_fits : {s x o' : ℕ} {own : List ℕ} {u : Tree} → j < W → s ≡ span W (h - 1) → own ≡ part s j o new → x ≡ link W b k j → o' ≡ o - j * s
        → u ≡ record { height = h - 1; block = x / W; left = n - j * s } → base + W * (taken + fresh_need W b u.height u.block u.left o' (length own)) ≤ 2 ^ 32
    child_fits {s} {x} {o'} {own} {u} l es eo ex e eu =
        let same : fresh_need W b u.height u.block u.left o' (length own)
        ≡ fresh_need W b (h - 1) (link W b k j / W) (n - j * span W (h - 1)) (o - j * span W (h - 1)) (length (part (span W (h - 1)) j o new)) = rw (eu, ex, eo, e, es) in
        let all : c + fresh_need W b (suc (h - 1)) k n o (length new) ≤ c + fresh_need W b h k n o (length new) = omega (arith, need_tall W b h k n o (length new) tall) in
        let less : taken + fresh_need W b u.height u.block u.left o' (length own) ≤ c + fresh_need W b h k n o (length new) =
        omega (arith, same, taken_before t, room W pos b (taking free) (h - 1) k n o new c (c + fresh_need W b h k n o (length new)) (tall_touched W h k n o (length new) tall some) all j l) in
        omega (arith, mul-le-mul_left W less)

    pub node_fits : W ≤ j → j ≤ W → base + W * (taken + 1) ≤ 2 ^ 32
    node_fits low high =
        let e : j ≡ W = omega arith in
        let less : taken + 1 ≤ c + fresh_need W b h k n o (length new) =
        omega (
          arith,
          taken_before t,
          need_tall W b h k n o (length new) tall,
          fresh_node W b (h - 1) k n o (length new) (tall_touched W h k n o (length new) tall some),
          ap (fresh_before W b (h - 1) k n o (length new)) e,
        ) in
        omega (arith, mul-le-mul_left W less)

-- the pages of the levels: one for this, and the others'
pub page_room : (W h m : ℕ) → h ≢ 0 → W * h ≤ m → W + W * (h - 1) ≤ m
page_room W h m tall l = let e : h ≡ suc (h - 1) = omega arith in omega (arith, mul-suc W (h - 1), ap (λ (x : ℕ). W * x) e)
