use Prim.Native.Nat.{◌^◌}
use native.Mathlib.Omega.{arith}
use lib.Pow.{pow_pos}
use Rattle.words.proofs.Filling
use Rattle.files.proofs.Bytes.{pieces}
use Rattle.files.proofs.fill.Goals as goal

pub loop-done-init : goal.loop-done-init
loop-done-init g c = (omega arith, Filling.none)

pub loop-done-preserved : goal.loop-done-preserved
loop-done-preserved g c =
    let a = c.args in
    let same = pieces (2 ^ g.B.BlockSize.BITS) (pow_pos g.B.BlockSize.BITS) a.board.now a.root a.n a.o c.loop-done.done c.min-len.result (rw (← c.width-bytes.ensures.is) (omega arith)) in
    (omega arith, Filling.lent c.loop-done.invariant.1 (omega arith) (rw (c.root_walk-end.ensures, c.width-bytes.ensures.is) same) c.copy.ensures)
