use Prim.Native.Nat.{◌<◌}
use native.Mathlib.Omega.{arith}
use borrow.Author.Tests.{eq-eqb}
use Rattle.model.specs.Layout.{layout_of}
use Rattle.kinds.proofs.Figures.{reach, height_low}
use Rattle.growing.proofs.Growing as Growing
use Rattle.growing.proofs.grows.Goals as goal

pub returns-else-inode-ne0 : goal.returns-else-inode-ne0
returns-else-inode-ne0 g c = let a = c.args in rw (eq-eqb a.inode.size 0 c.if-inode-ne0.false) (Growing.empty_stays (layout_of g.L.Layout.kind) a.inode a.e c.if-inode-ne0.false)

pub returns-then-inode-ne0 : goal.returns-then-inode-ne0
returns-then-inode-ne0 g c = let a = c.args in
    Growing.spans_less (layout_of g.L.Layout.kind) a.inode a.e g.met.L.Layout.figures.bits.is c.if-inode-ne0.true c.low_of.ensures c.span.ensures

pub span-requires : goal.span-requires
span-requires g c = let live : 0 < c.args.inode.size = omega (arith, c.if-inode-ne0.true) in
    reach g.L.Layout.kind g.met.L.Layout.figures.bits (height_low c.args.inode.root g.met.L.Layout.figures.bits (c.requires live) c.low_of.ensures)
