use mathlib.Core.Path.{◌≡◌, sym, ◌∙◌}
use mathlib.Core.Logic.{◌≢◌}
use mathlib.Core.List.{[]}
use Prim.Native.Nat.{ℕ, ◌/◌, ◌^◌, ◌≤◌, ◌<◌}
use native.Mathlib.Omega.{arith}
use lib.Pow.{pow_pos}
use Rattle.model.specs.Fresh.{need}
use Rattle.model.proofs.Paths.{need_none, touched_new, fresh_data}
use Rattle.trees.specs.Trees.{Reach}
use Rattle.trees.proofs.Reaching.{lower, two}
use Rattle.taking.specs.Taking.{TreeCount}
use Rattle.taking.proofs.Room.{need_most}
use Rattle.taking.proofs.WholeTrees.{whole_small, need_full, need_rest}
use Rattle.taking.proofs.+tree_need.Goals as goal

-- The measure is the height.

-- it is at most as many as a whole tree has
needed : {bits h r : ℕ} (l : ℕ) → Reach bits h → r ≡ need (2 ^ bits) h 0 l → TreeCount (2 ^ bits) h (need (2 ^ bits) h 0 l) r
needed {bits} {h} l reach e = record { is = e; most = omega (arith, e, need_most (2 ^ bits) h 0 l, whole_small (2 ^ bits) (two reach) h) }

-- a data block
one : (W h l : ℕ) → h ≡ 0 → l ≢ 0 → 1 ≡ need W h 0 l
unfolding need
one W h l low some = rw low (sym (fresh_data W [] 0 0 0 l (touched_new W 0 0 0 0 l (omega arith))))

pub returns-then-l-eq0 : goal.returns-then-l-eq0
returns-then-l-eq0 g t c = needed c.args.l c.requires (rw c.if-l-eq0.true (sym (need_none (2 ^ g.B.BlockSize.BITS) c.args.h 0)))

pub returns-then-h-eq0 : goal.returns-then-h-eq0
returns-then-h-eq0 g t c = needed c.args.l c.requires (one (2 ^ g.B.BlockSize.BITS) c.args.h c.args.l c.if-h-eq0.true c.if-l-eq0.false)

pub returns-then-width-q : goal.returns-then-width-q
returns-then-width-q g t c =
    let many : 2 ^ g.B.BlockSize.BITS ≤ c.args.l / c.span-s.result = omega (arith, c.if-width-q.true, c.width.ensures.is) in
    needed c.args.l c.requires (c.whole.ensures.is ∙ sym (need_full (2 ^ g.B.BlockSize.BITS) (pow_pos g.B.BlockSize.BITS) c.args.h c.args.l c.if-h-eq0.false c.span-s.ensures.is many))

pub returns : goal.returns
returns g t c =
    let less : c.args.l / c.span-s.result < 2 ^ g.B.BlockSize.BITS = omega (arith, c.if-width-q.false, c.width.ensures.is) in
    needed c.args.l c.requires (
    rw (c.whole-2.ensures.is, c.tree_need.ensures.is)
    (sym (need_rest (2 ^ g.B.BlockSize.BITS) (pow_pos g.B.BlockSize.BITS) c.args.h c.args.l c.if-h-eq0.false c.span-s.ensures.is (omega (arith, c.if-l-eq0.false)) less))
    )

pub span-s-requires : goal.span-s-requires
span-s-requires g t c = lower c.requires
