use Rattle.std.specs.Prelude.{None}
use mathlib.Core.Path.{◌≡◌, refl, sym, ◌∙◌}
use mathlib.Core.Logic.{◌≢◌}
use mathlib.Core.List.{List}
use Prim.Native.Nat.{ℕ, ◌-◌, ◌*◌, ◌/◌, ◌%◌, ◌^◌, ◌≤◌}
use native.Mathlib.Nat.{div-mul-le_self, div-add-mod'}
use native.Mathlib.Omega.{arith}
use borrow.Author.Rules.{rules}
use Rattle.model.specs.Tree.{span, cell, ending, walk}
use Rattle.model.proofs.Trees.{walk_dead, walk_null, walk_here, walk_down}
use Rattle.trees.proofs.Ending.{end_here}
use Rattle.trees.proofs.Reaching.{lower}
use Rattle.trees.proofs.+reached.Goals as goal

-- The measure is the height.

-- one pointer followed, by the span s, the pointer p and the block q that the code has
down : (W : ℕ) (b : List ℕ) (h k n i s p q : ℕ) → h ≢ 0 → k ≢ 0 → s ≡ span W (h - 1) → p ≡ cell W b k (i / s) → q ≡ p / W → walk W b (h - 1) q (n - i / s * s) (i - i / s * s) ≡ walk W b h k n i
down W b h k n i s p q high there es ep eq =
    let e : i - i / s * s ≡ i % s = omega (arith, div-add-mod' i s) in
    rw e (sym (walk_down W b h k n i high there ∙ simp (eq, ep, es)))

-- a pointer that isn't live
past : (W : ℕ) (b : List ℕ) (h k n i s : ℕ) → h ≢ 0 → k ≢ 0 → s ≡ span W (h - 1) → n ≤ i / s * s → None ≡ walk W b h k n i
past W b h k n i s high there es l =
    let e : n - i / s * s ≡ 0 = omega arith in
    let p : ℕ = cell W b k (i / s) in
    sym (walk_dead W b (h - 1) (p / W) (i - i / s * s)) ∙ rw (← e) (down W b h k n i s p (p / W) high there es refl refl)

-- a block that is there
here : (W : ℕ) (b : List ℕ) (h k n i : ℕ) → n ≢ 0 → k ≢ 0 → h ≡ 0 → ending k 1 ≡ walk W b h k n i
here W b h k n i live there e = sym (end_here k 1 there (omega arith)) ∙ rw e (sym (walk_here W b k n i live there))

pub returns-then-n-eq0 : goal.returns-then-n-eq0
unfolding ending
returns-then-n-eq0 g t c = let a = c.args in rw c.if-n-eq0.true (sym (walk_dead (2 ^ g.B.BlockSize.BITS) a.board.now.now a.h a.k a.i))

pub returns-then-k-eq0 : goal.returns-then-k-eq0
unfolding ending
returns-then-k-eq0 g t c = let a = c.args in rw c.if-k-eq0.true (sym (walk_null (2 ^ g.B.BlockSize.BITS) a.board.now.now a.h a.n a.i))

pub returns-then-h-eq0 : goal.returns-then-h-eq0
returns-then-h-eq0 g t c = let a = c.args in
    here (2 ^ g.B.BlockSize.BITS) a.board.now.now a.h a.k a.n a.i c.if-n-eq0.false c.if-k-eq0.false c.if-h-eq0.true

pub overflow_sub-h : goal.overflow_sub-h
overflow_sub-h g t c = omega arith

pub span-s-requires : goal.span-s-requires
span-s-requires g t c = lower c.requires

pub nonzero_div-j : goal.nonzero_div-j
nonzero_div-j g t c = omega (arith, c.span-s.ensures.low)

pub overflow_mul-first : goal.overflow_mul-first
overflow_mul-first g t c = omega (arith, div-mul-le_self c.args.i c.span-s.result)

pub returns-then-n-first : goal.returns-then-n-first
unfolding ending
returns-then-n-first g t c = let a = c.args in
    past (2 ^ g.B.BlockSize.BITS) a.board.now.now a.h a.k a.n a.i c.span-s.result c.if-h-eq0.false c.if-k-eq0.false c.span-s.ensures.is c.if-n-first.true

pub overflow_sub-h-2 : goal.overflow_sub-h-2
overflow_sub-h-2 g t c = omega arith

pub cell-requires : goal.cell-requires
cell-requires g t c = search rules

pub overflow_sub-n : goal.overflow_sub-n
overflow_sub-n g t c = omega arith

pub overflow_sub-i : goal.overflow_sub-i
overflow_sub-i g t c = omega (arith, div-mul-le_self c.args.i c.span-s.result)

pub reached-requires : goal.reached-requires
reached-requires g t c = λ κs l. (omega arith, (l, lower c.requires))

pub returns : goal.returns
returns g t c = let a = c.args in
    c.reached.ensures
    ∙ down (2 ^ g.B.BlockSize.BITS) a.board.now.now a.h a.k a.n a.i c.span-s.result c.cell.result c.block_of-below.result c.if-h-eq0.false c.if-k-eq0.false c.span-s.ensures.is c.cell.ensures c.block_of-below.ensures
