use Prim.Native.Nat.{◌-◌, ◌*◌, ◌/◌, ◌^◌, ◌≤◌}
use native.Mathlib.Omega.{arith}
use native.Mathlib.Nat.{mul-le-mul, mul_comm, div-mul-le_self}
use Rattle.model.specs.Layout.{layout_of}
use Rattle.words.proofs.Widths as Widths
use Rattle.growing.proofs.Growth.{few_levels, growth_laid}
use Rattle.growing.proofs.grow.Goals as goal

pub returns : goal.returns
returns g c =
    let is = g.met.L.Layout.figures.bits.is in
    growth_laid (layout_of g.L.Layout.kind) c.args.inode c.args.h (rw (c.block_of.ensures, c.low_of.ensures, ← is) at c.levels-taken.ensures)
    (rw (← is) at c.grown_root-value.ensures) (rw (c.start_of.ensures, ← is) at c.commit-pairs.ensures)

pub start_of-requires : goal.start_of-requires
start_of-requires g c =
    let few : c.levels-taken.result ≤ 7 = omega (arith, few_levels c.block_of.result (c.args.h - c.low_of.result) c.levels-taken.ensures, c.requires.2) in
    let places : 2 ^ g.L.BlockSize.BITS * c.levels-taken.result ≤ 512 * 7 = mul-le-mul (Widths.most g.met.L.Layout.figures.bits.width) few in
    omega (arith, places)

pub commit-pairs-requires : goal.commit-pairs-requires
commit-pairs-requires g c =
    let few : c.levels-taken.result ≤ 7 = omega (arith, few_levels c.block_of.result (c.args.h - c.low_of.result) c.levels-taken.ensures, c.requires.2) in
    let places : 2 ^ g.L.BlockSize.BITS * c.levels-taken.result ≤ 512 * 7 = mul-le-mul (Widths.most g.met.L.Layout.figures.bits.width) few in
    omega (arith, places, c.start_of.ensures)
