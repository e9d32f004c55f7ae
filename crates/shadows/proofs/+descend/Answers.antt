use mathlib.Core.Path.{ap}
use Prim.Native.Nat.{ℕ, ◌+◌, ◌/◌, ◌^◌, ◌<◌}
use native.Mathlib.Omega.{arith}
use native.Mathlib.Nat.{mod-lt}
use lib.Pow.{pow_pos}
use Rattle.words.proofs.Widths as Widths
use Rattle.trees.proofs.Reaching.{lower}
use Rattle.shadows.proofs.Descents.{lies, at_data, at_null, at_wide, down}
use Rattle.shadows.proofs.+descend.Goals as goal

-- The measure is the height.

pub returns-then-h-eq0 : goal.returns-then-h-eq0
returns-then-h-eq0 g t c = at_data c.if-h-eq0.true

pub returns-then-k-eq0 : goal.returns-then-k-eq0
returns-then-k-eq0 g t c = at_null c.if-k-eq0.true

pub returns-then-s-rest : goal.returns-then-s-rest
returns-then-s-rest g t c = at_wide c.if-h-eq0.false c.if-k-eq0.false c.span-s.ensures.is c.if-s-rest.true

pub returns : goal.returns
returns g t c =
    down c.if-h-eq0.false c.if-k-eq0.false c.span-s.ensures.is (omega (arith, c.if-s-rest.false)) c.cell-p.ensures c.child.ensures
    (ap (λ (x : ℕ). x + c.args.spot.offset / c.span-s.result) c.start_of.ensures) c.descend.ensures

pub span-s-requires : goal.span-s-requires
span-s-requires g t c = lower c.requires.0

pub overflow_add-below : goal.overflow_add-below
overflow_add-below g t c = omega (arith, c.start_of.ensures, c.requires.1, (lies (2 ^ g.B.BlockSize.BITS) (pow_pos g.B.BlockSize.BITS) c.if-h-eq0.false c.span-s.ensures.is c.requires.2).0)

pub descend-requires : goal.descend-requires
descend-requires g t c = λ κs l. (
  rw c.child.ensures (omega arith),
  (
    l,
    (
      rw c.child.ensures (lower c.requires.0),
      rw c.child.ensures (Widths.address_room c.requires.0.width c.cell-p.result (omega arith)),
      rw c.child.ensures (lies (2 ^ g.B.BlockSize.BITS) (pow_pos g.B.BlockSize.BITS) c.if-h-eq0.false c.span-s.ensures.is c.requires.2).1,
      c.requires.3,
    ),
  ),
)
