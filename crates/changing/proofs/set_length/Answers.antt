use Rattle.std.proofs.lemmas.Result.{err_from_is_err_and}
use Prim.Native.Nat.{◌≤◌}
use native.Mathlib.Omega.{arith}
use Rattle.model.specs.Layout.{layout_of}
use Rattle.model.specs.Board.{greatest}
use Rattle.changing.proofs.Calls as Calls
use Rattle.changing.proofs.set_length.Goals as goal

pub returns-in_err-check_file : goal.returns-in_err-check_file
returns-in_err-check_file g c = let a = c.args in
    let p = err_from_is_err_and c.from_residual.result c.from_residual.ensures.1 in rw (p.1, p.2) (rw (← c.in_err-check_file.was) (Calls.length_turned g.L.Layout.kind a.board.now a.file a.length a.plan.now c.check_file.ensures c.in_err-check_file.was))

pub returns-then-SIZE-length : goal.returns-then-SIZE-length
returns-then-SIZE-length g c = let a = c.args in
    Calls.length_past_end g.L.Layout.kind a.board.now a.file a.length a.plan.now c.check_file.ensures c.in_ok-check_file.was (omega (arith, c.SIZE.ensures, g.met.L.Layout.figures.size, c.if-SIZE-length.true))

pub returns-then-all-pairs : goal.returns-then-all-pairs
returns-then-all-pairs g c =
    let within : let a = c.args in a.length ≤ greatest (layout_of g.L.Layout.kind) = omega (arith, c.SIZE.ensures, g.met.L.Layout.figures.size, c.if-SIZE-length.false) in
    let a = c.args in
    Calls.unlaid c.plan_length-pairs.new.plan c.plan_length-pairs.auto.plan
    (Calls.length_short g.L.Layout.kind a.board.now a.file a.length a.plan.now c.check_file.ensures c.in_ok-check_file.was within c.plan_length-pairs.ensures c.if-all-pairs.true)

pub returns : goal.returns
returns g c =
    let within : let a = c.args in a.length ≤ greatest (layout_of g.L.Layout.kind) = omega (arith, c.SIZE.ensures, g.met.L.Layout.figures.size, c.if-SIZE-length.false) in
    let a = c.args in
    Calls.length_laid g.L.Layout.kind a.board.now a.file a.length a.plan.now c.check_file.ensures c.in_ok-check_file.was within c.plan_length-pairs.ensures
    c.plan_length-pairs.new.plan c.if-all-pairs.false c.plan_length-pairs.auto.plan c.plan_length.ensures

pub plan_length-pairs-requires : goal.plan_length-pairs-requires
plan_length-pairs-requires g c =
    let within : let a = c.args in a.length ≤ greatest (layout_of g.L.Layout.kind) = omega (arith, c.SIZE.ensures, g.met.L.Layout.figures.size, c.if-SIZE-length.false) in
    (Calls.done_file g.L.Layout.kind c.check_file.ensures c.in_ok-check_file.was, within)

-- what was asked the first time is asked again
pub plan_length-requires : goal.plan_length-requires
plan_length-requires g c =
    let within : let a = c.args in a.length ≤ greatest (layout_of g.L.Layout.kind) = omega (arith, c.SIZE.ensures, g.met.L.Layout.figures.size, c.if-SIZE-length.false) in
    (Calls.done_file g.L.Layout.kind c.check_file.ensures c.in_ok-check_file.was, within)
