use mathlib.Core.Path.{◌≡◌}
use Rattle.model.specs.Layout.{layout_of}
use Rattle.model.specs.Store.{laid}
use Rattle.formatting.proofs.Formatting.{pointers_part}
use Rattle.formatting.proofs.lay_pointers.Given as goal

-- the first j words are laid
abbrev pub invariant-loop-j : goal.invariant-loop-j
invariant-loop-j g l = l.plan ≡ laid l.initial.plan 2 (pointers_part (layout_of g.L.Layout.kind) l.j)
