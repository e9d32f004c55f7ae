use mathlib.Core.Path.{◌≡◌}
use Prim.Native.Nat.{◌+◌, ◌*◌, ◌^◌}
use native.Mathlib.Omega.{arith}
use Rattle.words.proofs.Filling
use Rattle.files.proofs.Whole
use Rattle.files.proofs.Bytes.{whole_word, on_run}
use Rattle.files.proofs.copy_run.Goals as goal

pub loop-w-init : goal.loop-w-init
loop-w-init g c = Filling.none

pub loop-w-preserved : goal.loop-w-preserved
loop-w-preserved g c = let a = c.args in
    let x = on_run (2 ^ g.B.BlockSize.BITS) a.board.now a.k a.from a.n c.loop-w.w c.start_of.ensures (omega arith) in
    let e : 8 * c.loop-w.w + 8 ≡ 8 * (c.loop-w.w + 1) = omega arith in
    rw e at (Filling.lent c.loop-w.invariant (omega arith) (whole_word (2 ^ g.B.BlockSize.BITS) a.board.now a.k a.from c.loop-w.w x) c.spread.ensures)

pub returns : goal.returns
returns g c = Whole.full (omega arith) c.loop-w.invariant
