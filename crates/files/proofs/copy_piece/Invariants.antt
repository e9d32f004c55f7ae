use Prim.Native.Nat.{◌+◌, ◌^◌}
use Rattle.model.specs.Tree.{shown}
use Rattle.words.specs.Filled.{Filled}
use Rattle.files.proofs.copy_piece.Given as goal

abbrev pub invariant-loop-b : goal.invariant-loop-b
invariant-loop-b g l = Filled (λ j. shown (2 ^ g.B.BlockSize.BITS) l.board l.fn.end (l.from + j)) l.b-index l.initial.out l.out
