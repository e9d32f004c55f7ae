use mathlib.Core.Path.{◌≡◌}
use mathlib.Core.Logic.{◌≢◌}
use Prim.Native.Nat.{ℕ, ◌+◌, ◌-◌, ◌*◌, ◌^◌, ◌<◌}
use native.Mathlib.Omega.{arith}
use borrow.Author.Rules.{rules}
use Rattle.trees.specs.Trees.{Reach}
use Rattle.trees.proofs.Reaching.{lower, two}
use Rattle.taking.specs.Taking.{whole}
use Rattle.taking.proofs.WholeTrees.{whole_small, whole_step}
use Rattle.taking.proofs.+whole.Goals as goal

-- The measure is the height.

pub returns-then-h-eq0 : goal.returns-then-h-eq0
unfolding whole
returns-then-h-eq0 g t c = record { is = rw c.if-h-eq0.true; most = rw c.if-h-eq0.true (whole_small (2 ^ g.B.BlockSize.BITS) (two c.requires) 0) }

-- a tree's blocks are the blocks below and its own
more : (b h : ℕ) {r : ℕ} → h ≢ 0 → r ≡ whole (2 ^ b) (h - 1) → 2 ^ b * r + 1 ≡ whole (2 ^ b) h
more b h some e = rw e (whole_step (2 ^ b) h some)

small : {b h r : ℕ} → Reach b h → h ≢ 0 → r ≡ whole (2 ^ b) (h - 1) → 2 ^ b * r + 1 < 2 ^ 28
small {b} {h} reach some e = omega (arith, more b h some e, whole_small (2 ^ b) (two reach) h, reach.spans)

pub returns : goal.returns
returns g t c = let e : c.start_of.result + 1 ≡ whole (2 ^ g.B.BlockSize.BITS) c.args.h = rw c.start_of.ensures (more g.B.BlockSize.BITS c.args.h c.if-h-eq0.false c.whole.ensures.is) in
    record { is = e; most = rw e (whole_small (2 ^ g.B.BlockSize.BITS) (two c.requires) c.args.h) }

pub whole-requires : goal.whole-requires
whole-requires g t c = λ κs l. (omega arith, (l, lower c.requires))

pub start_of-requires : goal.start_of-requires
start_of-requires g t c = omega (arith, small c.requires c.if-h-eq0.false c.whole.ensures.is)

pub overflow_add-result : goal.overflow_add-result
overflow_add-result g t c = omega (arith, c.start_of.ensures, small c.requires c.if-h-eq0.false c.whole.ensures.is)
