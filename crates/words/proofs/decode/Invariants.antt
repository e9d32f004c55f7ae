use Prim.Native.Nat.{◌+◌, ◌*◌}
use lib.ListN.{get_or}
use Rattle.model.specs.Words.{word_of}
use Rattle.words.specs.Filled.{Filled}
use Rattle.words.proofs.decode.Given as goal

abbrev pub invariant-loop-i : goal.invariant-loop-i
invariant-loop-i l = Filled (λ w. word_of 8 (λ k. get_or l.bytes (8 * w + k) 0)) l.i l.initial.words l.words
