use mathlib.Core.Path.{◌∙◌}
use Prim.Native.Nat.{◌%◌, ◌^◌}
use borrow.Author.Tests.{le-ltb, lt-ltb}
use Rattle.model.specs.Tree.{span}
use Rattle.model.specs.Board.{root_walk}
use Rattle.trees.proofs.root_walk.Goals as goal

pub span-requires : goal.span-requires
span-requires g c = rw c.low_of-h.ensures c.requires

pub returns-then-span-i : goal.returns-then-span-i
unfolding root_walk
returns-then-span-i g c = let a = c.args in
    rw (le-ltb a.i (span (2 ^ g.B.BlockSize.BITS) (a.root % 2 ^ g.B.BlockSize.BITS)) (rw (c.span.ensures.is, c.low_of-h.ensures) at c.if-span-i.true))

pub walk-requires : goal.walk-requires
walk-requires g c = rw c.low_of-h.ensures c.requires

pub returns : goal.returns
unfolding root_walk
returns g c = let a = c.args in
    c.walk.ensures ∙ rw (
      c.block_of.ensures,
      c.low_of-h.ensures,
      lt-ltb a.i (span (2 ^ g.B.BlockSize.BITS) (a.root % 2 ^ g.B.BlockSize.BITS)) (rw (c.span.ensures.is, c.low_of-h.ensures) at c.if-span-i.false),
    )
