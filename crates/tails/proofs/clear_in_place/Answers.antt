use mathlib.Core.Path.{ap}
use Prim.Native.Nat.{◌^◌}
use native.Mathlib.Omega.{arith}
use lib.ListN.{length}
use Rattle.trees.proofs.Reaching.{two}
use Rattle.plans.proofs.Laying as Laying
use Rattle.taking.proofs.WholeTrees.{whole_small}
use Rattle.tails.proofs.Padding as Padding
use Rattle.tails.proofs.Room.{tail_most}
use Rattle.tails.proofs.clear_in_place.Goals as goal

-- the stores are those of zeros on the board as it is

pub invariant_of-view : goal.invariant_of-view
invariant_of-view g c = record { pointers = Padding.no_pointers g.B.BlockSize.width c.not_grown.ensures }

pub returns : goal.returns
returns g c = let a = c.args in
    Laying.same_pairs (Padding.cleared (2 ^ g.B.BlockSize.BITS) a.board.now c.not_grown.ensures (omega arith) a.tree.height a.tree.block a.tree.left a.l a.a) c.in_place.ensures

pub in_place-requires : goal.in_place-requires
in_place-requires g c =
    let a = c.args in
    let W = 2 ^ g.B.BlockSize.BITS in
    let stores = Padding.cleared W a.board.now c.not_grown.ensures (omega arith) a.tree.height a.tree.block a.tree.left a.l a.a in (
      c.requires.0,
      c.requires.1,
      omega arith,
      omega (arith, tail_most W a.tree.height a.tree.left a.l, whole_small W (two c.requires.0) a.tree.height, c.requires.0.spans),
      omega (arith, c.requires.2, ap length stores),
    )
