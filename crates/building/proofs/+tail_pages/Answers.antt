use mathlib.Core.Path.{refl, sym, ◌∙◌}
use mathlib.Core.Logic.{inl}
use Prim.Native.Nat.{◌-◌, ◌^◌, ◌≤◌}
use native.Mathlib.Omega.{arith}
use native.Mathlib.Nat.{mul-le-mul_left}
use lib.ListN.{length}
use lib.Pow.{pow_pos}
use borrow.Author.Tests.{eqb-true}
use Rattle.trees.proofs.Reaching.{lower}
use Rattle.model.proofs.Paths.{fresh_quiet}
use Rattle.plans.specs.Onto.{onto}
use Rattle.taking.proofs.Taken as Taken
use Rattle.taking.proofs.Tails as Tails
use Rattle.taking.proofs.Ends.{here, next, done}
use Rattle.building.proofs.TailPages as TailPages
use Rattle.building.proofs.+tail_pages.Goals as goal

-- The measure is the height; the loop has laid the pages under the children below j.

pub returns-then-n-eq0 : goal.returns-then-n-eq0
returns-then-n-eq0 g t c = let a = c.args in
    TailPages.took_dead (2 ^ g.B.BlockSize.BITS) (onto (2 ^ g.B.BlockSize.BITS) a.view.now.free.now a.view.now.board.now a.view.now.grown) a.view.now.free.now a.tail.tree.height a.tail.tree.block a.tail.tree.left a.new.now c.if-n-eq0.true c.build.ensures

pub returns-then-h-eq0 : goal.returns-then-h-eq0
returns-then-h-eq0 g t c = let a = c.args in
    TailPages.took_leaf (2 ^ g.B.BlockSize.BITS) (onto (2 ^ g.B.BlockSize.BITS) a.view.now.free.now a.view.now.board.now a.view.now.grown) a.view.now.free.now a.tail.tree.height a.tail.tree.block a.tail.tree.left a.new.now c.if-h-eq0.true c.if-n-eq0.false

pub loop-j-init : goal.loop-j-init
loop-j-init g t c = (refl, TailPages.pages_begin (pow_pos _) c.span-s.ensures.is c.width-w.result)

pub loop-j-preserved : goal.loop-j-preserved
loop-j-preserved g t c = (
  c.tail_pages-taken.auto.pages ∙ c.loop-j.invariant.0,
  next c.loop-j.invariant.1 c.loop-j-test.true (TailPages.pages_step (pow_pos g.B.BlockSize.BITS) (here c.loop-j.invariant.1 c.loop-j-test.true) c.span-s.ensures.is c.part-own.ensures c.link-x.ensures c.child.ensures c.tail_pages-taken.ensures),
)

-- all children
pub returns-then-is_empty : goal.returns-then-is_empty
returns-then-is_empty g t c = let a = c.args in let z = c.span-s.ensures in
    TailPages.took_tree (2 ^ g.B.BlockSize.BITS) (onto (2 ^ g.B.BlockSize.BITS) a.view.now.free.now a.view.now.board.now a.view.now.grown) a.view.now.free.now a.tail.tree.height a.tail.tree.block a.tail.tree.left a.new.now
    c.if-h-eq0.false c.if-n-eq0.false c.width-w.ensures.is (TailPages.pages_over (pow_pos _) z.is c.loop-j.invariant.1 (omega (arith, z.low)) c.loop-j-test.true c.part-own.ensures (eqb-true _ 0 (sym c.is_empty.ensures ∙ c.if-is_empty.true)))

pub returns : goal.returns
returns g t c = let a = c.args in
    TailPages.took_tree (2 ^ g.B.BlockSize.BITS) (onto (2 ^ g.B.BlockSize.BITS) a.view.now.free.now a.view.now.board.now a.view.now.grown) a.view.now.free.now a.tail.tree.height a.tail.tree.block a.tail.tree.left a.new.now
    c.if-h-eq0.false c.if-n-eq0.false c.width-w.ensures.is (done c.loop-j.invariant.1 (omega arith))

pub build-requires : goal.build-requires
build-requires g t c = let a = c.args in (
  c.requires.0,
  c.requires.1,
  rw (
    fresh_quiet (2 ^ g.B.BlockSize.BITS) (onto (2 ^ g.B.BlockSize.BITS) a.view.now.free.now a.view.now.board.now a.view.now.grown) a.tail.tree.height 0 0 0 (length a.new.now) (inl refl),
    ← Tails.need_dead (2 ^ g.B.BlockSize.BITS) a.tail.tree.height a.tail.tree.left (length a.new.now) c.if-n-eq0.true,
  ) c.requires.2,
)

pub span-s-requires : goal.span-s-requires
span-s-requires g t c = lower c.requires.0

pub tail_pages-taken-requires : goal.tail_pages-taken-requires
tail_pages-taken-requires g t c = let a = c.args in let W = 2 ^ g.B.BlockSize.BITS in
    let fits = TailPages.pages_room (pow_pos g.B.BlockSize.BITS) (here c.loop-j.invariant.1 c.loop-j-test.true) c.span-s.ensures.is c.part-own.ensures (omega (arith, c.loop-j-test.true, c.width-w.ensures.is)) c.child.ensures in
    let need = Tails.need_tree W a.tail.tree.height a.tail.tree.left (length a.new.now) c.if-h-eq0.false c.if-n-eq0.false in
    let low : a.tail.tree.height - 1 ≤ a.tail.tree.height = omega arith in
    λ κs l. (rw c.child.ensures (omega arith), (l, (rw c.child.ensures (lower c.requires.0), rw c.child.ensures (omega (arith, c.requires.1, c.loop-j.invariant.0, mul-le-mul_left W low)), omega (arith, mul-le-mul_left W fits, rw need at c.requires.2))))
