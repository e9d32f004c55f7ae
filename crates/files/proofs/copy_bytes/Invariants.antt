use Rattle.std.specs.Prelude.{Some}
use Prim.Native.Nat.{◌+◌, ◌^◌}
use Rattle.model.specs.Tree.{shown}
use Rattle.words.specs.Filled.{Filled}
use Rattle.files.proofs.copy_bytes.Given as goal

abbrev pub invariant-loop-j : goal.invariant-loop-j
invariant-loop-j g l = Filled (λ i. shown (2 ^ g.B.BlockSize.BITS) l.board (Some l.k) (l.from + i)) l.j l.initial.out l.out
