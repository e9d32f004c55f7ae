use mathlib.Core.List.{[], ◌∷◌}
use Rattle.model.specs.Layout.{layout_of}
use Rattle.model.specs.Board.{leaf, leaf_sound}
use Rattle.trees.proofs.Marking
use Rattle.surveying.proofs.leaves.Given as goal

abbrev pub invariant-loop-l : goal.invariant-loop-l
invariant-loop-l g l = Marking.Going (leaf_sound (layout_of g.L.Layout.kind) l.board) (λ ll. leaf (layout_of g.L.Layout.kind) l.board ll ∷ []) l.initial.marks l.l l.marks
