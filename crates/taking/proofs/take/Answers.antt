use Prim.Native.Nat.{◌+◌}
use native.Mathlib.Omega.{arith}
use Rattle.taking.proofs.Taken as Taken
use Rattle.taking.proofs.take.Goals as goal

pub returns : goal.returns
returns g c = Taken.one_block _ c.place.ensures c.word.ensures c.block.ensures

pub block-requires : goal.block-requires
block-requires g c = Taken.block_small _ c.requires.0 c.word.ensures
