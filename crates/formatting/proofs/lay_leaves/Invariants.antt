use Prim.Native.Nat.{◌+◌, ◌*◌}
use Rattle.plans.specs.Laying.{Laid}
use Rattle.formatting.proofs.Formatting.{leaves}
use Rattle.formatting.proofs.lay_leaves.Given as goal

-- the first l leaves are laid
abbrev pub invariant-loop-l : goal.invariant-loop-l
invariant-loop-l g l = Laid l.initial.plan (2 + l.w) (leaves l.w l.l 2) l.plan (2 + l.w + l.w * l.l)
