use Prim.Native.Nat.{◌+◌, ◌-◌, ◌^◌, ◌≤◌}
use Rattle.words.specs.Filled.{Filled}
use Rattle.files.specs.Filling.{file_byte}
use Rattle.files.proofs.fill.Given as goal

abbrev pub invariant-loop-done : goal.invariant-loop-done
invariant-loop-done g l = (l.done ≤ l.count) × Filled (λ d. file_byte (2 ^ g.B.BlockSize.BITS) l.board l.root l.n (l.o + d)) l.done l.initial.out l.out

abbrev pub decreases-loop-done : goal.decreases-loop-done
decreases-loop-done g l = l.count - l.done
