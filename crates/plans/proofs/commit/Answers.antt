use mathlib.Core.Path.{◌∙◌}
use Prim.Native.Nat.{◌-◌}
use native.Mathlib.Omega.{arith}
use Rattle.model.specs.Store.{store}
use Rattle.plans.proofs.Laying as Laying
use Rattle.plans.proofs.commit.Goals as goal
use Rattle.plans.proofs.commit.Goals.{then-from-p, else-from-p}

pub returns : goal.returns
returns c =
    let a = c.args in
    let last = c.pair.ensures in
    elim c.if-from-p.branch [
      | then-from-p w ↦ Laying.fenced_commit (a.p - a.from) (store a.at a.value) last (omega arith) (w.plan-is ∙ w.barrier.ensures) w.q-is
      | else-from-p w ↦ Laying.bare_commit (a.p - a.from) (store a.at a.value) last (omega arith) w.plan-is w.q-is
    ]
