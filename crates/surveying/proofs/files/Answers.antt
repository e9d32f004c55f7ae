use native.Mathlib.Omega.{arith}
use Rattle.trees.proofs.Marking
use Rattle.kinds.proofs.Figures.{files_32}
use Rattle.surveying.proofs.files.Goals as goal

pub loop-f-init : goal.loop-f-init
loop-f-init g c = Marking.start

pub returns-then-not-file : goal.returns-then-not-file
returns-then-not-file g c = let e = files_32 g.L.Layout.kind in
    rw e (Marking.stop c.loop-f.invariant c.file.ensures c.loop-f-test.true (c.if-not-file.true))

pub loop-f-preserved : goal.loop-f-preserved
loop-f-preserved g c = Marking.step c.loop-f.invariant c.file.ensures c.if-not-file.false

pub returns : goal.returns
returns g c = rw (files_32 g.L.Layout.kind) (Marking.all c.loop-f.invariant (omega arith))
