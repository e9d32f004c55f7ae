use Prim.Native.Nat.{◌^◌}
use native.Mathlib.Omega.{arith}
use Rattle.model.proofs.Paths.{need_pos}
use Rattle.tails.proofs.Hooking.{last}
use Rattle.tails.proofs.hook.Goals as goal

pub returns : goal.returns
returns g c = let a = c.args in last (2 ^ g.B.BlockSize.BITS) a.free.now a.h a.l a.c c.tree_need.ensures.is c.pointer.ensures.is

pub overflow_sub-taken : goal.overflow_sub-taken
overflow_sub-taken g c = omega (arith, c.tree_need.ensures.is, need_pos (2 ^ g.B.BlockSize.BITS) c.args.h 0 c.args.l c.requires.2)
