use Rattle.changing.proofs.Calls as Calls
use Rattle.changing.proofs.write_some.Goals as goal

pub returns-then-count-wanted : goal.returns-then-count-wanted
returns-then-count-wanted g c = Calls.unlaid c.plan_write-wanted.new.plan c.plan_write-wanted.auto.plan (Calls.plan_lacks g.L.Layout.kind c.requires.1 c.plan_write-wanted.ensures c.if-count-wanted.true)

pub returns-then-all-wanted : goal.returns-then-all-wanted
returns-then-all-wanted g c =
    Calls.unlaid c.plan_write-wanted.new.plan c.plan_write-wanted.auto.plan (Calls.plan_short g.L.Layout.kind c.requires.1 c.plan_write-wanted.ensures c.if-count-wanted.false c.if-all-wanted.true)

pub returns : goal.returns
returns g c =
    Calls.plan_laid g.L.Layout.kind c.requires.1 c.plan_write-wanted.ensures c.plan_write-wanted.new.plan c.args.plan.now c.if-count-wanted.false c.if-all-wanted.false
    c.plan_write-wanted.auto.plan c.plan_write.ensures
