use Rattle.model.specs.Layout.{layout_of}
use Rattle.model.specs.Board.{file_blocks, file_sound}
use Rattle.trees.proofs.Marking
use Rattle.surveying.proofs.files.Given as goal

abbrev pub invariant-loop-f : goal.invariant-loop-f
invariant-loop-f g l = Marking.Going (file_sound (layout_of g.L.Layout.kind) l.board) (file_blocks (layout_of g.L.Layout.kind) l.board) l.initial.marks l.f l.marks
