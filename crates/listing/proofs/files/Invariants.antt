use Prim.Native.Nat.{◌*◌}
use Rattle.model.specs.Lists.{joined}
use Rattle.model.specs.Layout.{house}
use Rattle.model.specs.Lister.{file_line}
use Rattle.text.specs.Wrote.{Wrote}
use Rattle.listing.proofs.files.Given as goal

abbrev pub invariant-loop-f : goal.invariant-loop-f
invariant-loop-f l = Wrote (106 * l.f) (joined l.f (file_line house l.board)) l.initial.text l.text
