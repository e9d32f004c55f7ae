use Prim.Native.Nat.{◌+◌}
use Rattle.model.specs.Layout.{layout_of}
use Rattle.plans.specs.Laying.{Laid}
use Rattle.formatting.proofs.Formatting.{trailer_part}
use Rattle.formatting.proofs.lay_trailer.Given as goal

-- the first j words are laid
abbrev pub invariant-loop-j : goal.invariant-loop-j
invariant-loop-j g l = Laid l.initial.plan l.p (trailer_part (layout_of g.L.Layout.kind) l.board l.j) l.plan (l.p + l.j)
