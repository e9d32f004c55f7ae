use Rattle.std.specs.Prelude.{Some}
use Prim.Native.Nat.{◌+◌, ◌*◌, ◌^◌}
use Rattle.model.specs.Tree.{shown}
use Rattle.words.specs.Filled.{Filled}
use Rattle.files.proofs.copy_run.Given as goal

abbrev pub invariant-loop-w : goal.invariant-loop-w
invariant-loop-w g l = Filled (λ i. shown (2 ^ g.B.BlockSize.BITS) l.board (Some l.k) (8 * l.from + i)) (8 * l.w) l.initial.out l.out
