use mathlib.Core.Path.{◌≡◌, refl, sym, ap, ◌∙◌}
use mathlib.Core.Logic.{◌≢◌}
use mathlib.Core.Bool.{true}
use mathlib.Core.List.{List}
use Prim.Native.Nat.{ℕ, ◌+◌, ◌-◌, ◌*◌, ◌^◌, ◌≤◌, ◌<◌}
use native.Mathlib.Omega.{arith}
use native.Mathlib.Nat.{mul-le-mul, mul-le-mul_left}
use lib.ListN.{length, length-set, length-drop}
use lib.Pow.{pow_pos}
use borrow.Author.Tests.{ltb-false}
use borrow.Author.Rules.{part_to_end}
use borrow.Rule.Slice.PartMut.{same_len_mid}
use Rattle.trees.proofs.Reaching.{lower}
use Rattle.model.proofs.Paths.{fresh_pos}
use Rattle.plans.specs.declared.Grown.{Grown}
use Rattle.plans.specs.Onto.{onto}
use Rattle.taking.specs.declared.Under.{Under}
use Rattle.taking.proofs.Taken as Taken
use Rattle.building.specs.Building.{own_fresh, fresh_count}
use Rattle.building.proofs.Trees as Trees
use Rattle.building.proofs.+build_fresh.Goals as goal
use Rattle.building.proofs.+build_fresh.Goals.{then-child_touched, else-child_touched+then-first-n, else-child_touched+else-first-n}

-- The measure is the height; the loop has laid the children before j, and their pointers stand in the first page.

-- the first of some blocks fits
first_fits : (W base c m : ℕ) → base + W * (c + m) ≤ 2 ^ 32 → 0 < m → base + W * (c + 1) ≤ 2 ^ 32
first_fits W base c m l p = let q : c + 1 ≤ c + m = omega arith in omega (arith, mul-le-mul_left W q)

-- the first block of the tree fits
fits : (bits : ℕ) (board free : List ℕ) (grown : Grown) (u : Under) (new : List ℕ) → own_fresh bits u new ≡ true → grown.base + 2 ^ bits * (u.taken + fresh_count bits board free grown u new) ≤ 2 ^ 32
    → grown.base + 2 ^ bits * (u.taken + 1) ≤ 2 ^ 32
fits bits board free grown u new own q =
    first_fits _ grown.base u.taken _ q (fresh_pos (2 ^ bits) (onto (2 ^ bits) free board grown) u.tree.height u.tree.block u.tree.left u.offset (length new) own)

-- a page for this level, and those of the levels below it
room : (W h : ℕ) {w l m : ℕ} → h ≢ 0 → W * h ≤ m → w ≡ W → l ≡ m → w + W * (h - 1) ≤ l
room W h {w} {l} {m} tall enough wide same = omega (arith, Trees.page_room W h m tall enough)

pub returns-then-h-eq0 : goal.returns-then-h-eq0
returns-then-h-eq0 g t c = Trees.leaf _ (pow_pos _) _ _ _ _ _ _ _ c.requires.2 c.if-h-eq0.true c.take_data.ensures

pub returns-then-o-eq0 : goal.returns-then-o-eq0
returns-then-o-eq0 g t c = Trees.counted (pow_pos _) _ _ _ _ _ _ c.place.ensures c.if-plan-place.true c.if-o-eq0.true c.tree_need.ensures.is

pub loop-j-init : goal.loop-j-init
loop-j-init g t c = (refl, Trees.start)

pub loop-j-preserved : goal.loop-j-preserved
loop-j-preserved g t c =
    let is = c.span-s.ensures.is in
    let test = sym c.child_touched.ensures in
    let stored = c.put.ensures in
    let wide = c.width-w.result in
    let pages = c.loop-j.pages in
    let rest = length pages - wide in
    let less = c.loop-j-test.true in
    let r = room (2 ^ g.B.BlockSize.BITS) c.args.under.tree.height c.if-h-eq0.false c.requires.1 c.width-w.ensures.is c.loop-j.invariant.0 in
    let fit : c.loop-j.j < length pages = omega (arith, r) in
    let same : Trees.Kept c.loop-j.j pages pages = Trees.untouched fit in
    elim c.if-child_touched.branch [
      | then-child_touched w ↦ let mine = w.build_fresh-taken.new.pages in let kept = Trees.lent rest pages mine less (omega arith) in
          rw (w.plan-is, w.taken-is) (
            ap length stored ∙ simp length-set (rw w.pages-is (same_len_mid wide rest pages mine w.build_fresh-taken.auto.pages) ∙ c.loop-j.invariant.0),
            Trees.fresh_child c.loop-j.invariant.1 is c.part-own.ensures c.link-x.ensures c.saturating_sub-p.ensures c.child-child.ensures kept (test ∙ w.if-child_touched.true) w.build_fresh-taken.ensures w.pointer-value.ensures.is (stored ∙ rw (w.pages-is, w.value-is)),
          )
      | else-child_touched+then-first-n w ↦ rw (w.plan-is, w.taken-is) (
        ap length stored ∙ simp length-set (rw w.pages-is c.loop-j.invariant.0),
        Trees.old_child c.loop-j.invariant.1 is c.part-own.ensures c.link-x.ensures c.saturating_sub-p.ensures c.child-child.ensures (test ∙ w.if-child_touched.false) same w.if-first-n.true (stored ∙ rw (w.pages-is, w.value-is)),
      )
      | else-child_touched+else-first-n w ↦ rw (w.plan-is, w.taken-is) (
        ap length stored ∙ simp length-set (rw w.pages-is c.loop-j.invariant.0),
        Trees.dead_child c.loop-j.invariant.1 is c.part-own.ensures c.link-x.ensures c.saturating_sub-p.ensures c.child-child.ensures (test ∙ w.if-child_touched.false) same w.if-first-n.false (stored ∙ rw (w.pages-is, w.value-is)),
      )
    ]

pub returns : goal.returns
returns g t c = Trees.node c.requires.2 c.if-h-eq0.false c.loop-j.invariant.1 (omega (arith, c.width-w.ensures.is)) (omega (arith, c.width-w.ensures.is)) c.take.ensures

pub take_data-requires : goal.take_data-requires
take_data-requires g t c = let a = c.args in (fits g.B.BlockSize.BITS a.view.now.board.now a.view.now.free.now a.view.now.grown a.under a.new.now c.requires.2 c.requires.3)

pub span-s-requires : goal.span-s-requires
span-s-requires g t c = lower c.requires.0

pub build_fresh-taken-requires : goal.build_fresh-taken-requires
build_fresh-taken-requires g t c =
    let fit = Trees.child_fits c.requires.2 c.if-h-eq0.false c.loop-j.invariant.1 c.requires.3 (omega (arith, c.loop-j-test.true, c.width-w.ensures.is))
    c.span-s.ensures.is c.part-own.ensures c.link-x.ensures c.saturating_sub-p.ensures c.child-child.ensures in λ κs l. (
      rw c.child-child.ensures (omega (arith, c.if-h-eq0.false)),
      (
        l,
        (
          rw c.child-child.ensures (lower c.requires.0),
          rw (c.child-child.ensures, part_to_end c.loop-j.pages c.width-w.result, length-drop) (omega (arith, room (2 ^ g.B.BlockSize.BITS) c.args.under.tree.height c.if-h-eq0.false c.requires.1 c.width-w.ensures.is c.loop-j.invariant.0)),
          sym c.child_touched.ensures ∙ c.if-child_touched.true,
          fit,
        ),
      ),
    )

pub overflow_sub-taken : goal.overflow_sub-taken
overflow_sub-taken g t c = Trees.taken_some (pow_pos _) _ _ _ _ _ _ (sym c.child_touched.ensures ∙ c.if-child_touched.true) c.build_fresh-taken.ensures

pub take-requires : goal.take-requires
take-requires g t c = (
  c.args.view.now.pointers.blocks,
  Trees.node_fits c.requires.2 c.if-h-eq0.false c.loop-j.invariant.1 c.requires.3 (omega (arith, c.width-w.ensures.is)) (omega (arith, c.width-w.ensures.is)),
)
