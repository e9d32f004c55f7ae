use borrow.Author.Rules.{rules}
use Prim.Native.Nat.{◌+◌, ◌-◌, ◌≤◌}
use native.Mathlib.Omega.{arith}
use native.Mathlib.Nat.{mul-le-mul}
use Rattle.words.proofs.Widths as Widths
use Rattle.growing.proofs.Growth.{null, no_levels, last_level, few_levels}
use Rattle.plans.proofs.Onto.{below_small}
use Rattle.growing.proofs.+levels.Goals as goal

-- The measure is the number of levels.

pub returns-then-k-eq0 : goal.returns-then-k-eq0
returns-then-k-eq0 g t c = null _ c.if-k-eq0.true

pub returns-then-d-eq0 : goal.returns-then-d-eq0
returns-then-d-eq0 g t c = no_levels _ c.if-k-eq0.false c.if-d-eq0.true

pub returns : goal.returns
returns g t c = last_level c.args.d c.if-k-eq0.false c.if-d-eq0.false c.levels-t.ensures c.level_below.ensures c.start_of.ensures c.take.ensures

pub start_of-requires : goal.start_of-requires
start_of-requires g t c = (below_small c.args.k c.levels-t.result g.B.BlockSize.width c.requires.0 c.requires.1 c.level_below.ensures)

pub take-requires : goal.take-requires
take-requires g t c =
    let few : c.levels-t.result ≤ c.args.d - 1 = few_levels c.args.k (c.args.d - 1) c.levels-t.ensures in
    let u : c.levels-t.result + 1 ≤ 8 = omega (arith, few) in
    (c.requires.0, omega (arith, mul-le-mul (Widths.most g.B.BlockSize.width) u))
