use Prim.Native.Nat.{◌^◌}
use native.Mathlib.Omega.{arith}
use Rattle.words.proofs.Filling
use Rattle.files.proofs.Whole
use Rattle.files.proofs.Bytes.{one_byte}
use Rattle.files.proofs.copy_bytes.Goals as goal

pub loop-j-init : goal.loop-j-init
loop-j-init g c = Filling.none

pub loop-j-preserved : goal.loop-j-preserved
loop-j-preserved g c = let a = c.args in
    Filling.step c.loop-j.invariant (omega arith) (one_byte (2 ^ g.B.BlockSize.BITS) a.board.now a.k a.from c.loop-j.j c.cell-x.ensures c.byte.ensures)

pub returns : goal.returns
returns g c = Whole.full (omega arith) c.loop-j.invariant
