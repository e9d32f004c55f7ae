use Rattle.std.proofs.lemmas.Result.{err_from_is_err_and}
use mathlib.Core.Path.{refl}
use native.Mathlib.Omega.{arith}
use Rattle.model.specs.Layout.{layout_of}
use Rattle.kinds.proofs.Figures.{files_32}
use Rattle.surveying.proofs.FileNumbers.{file_refused, file_none}
use Rattle.planning.specs.Asked.{File}
use Rattle.changing.proofs.Stock as Stock
use Rattle.changing.proofs.Calls as Calls
use Rattle.changing.proofs.write_with.Goals as goal

pub returns-in_err-survey : goal.returns-in_err-survey
returns-in_err-survey g c = let a = c.args in let e = c.in_err-survey.was in
    let p = err_from_is_err_and c.from_residual.result c.from_residual.ensures.1 in rw (p.1, p.2) (rw (← e) (Calls.write_turned g.L.Layout.kind a.board.now a.file a.offset a.bytes.now a.plan.now
    (file_refused (layout_of g.L.Layout.kind) a.board.now a.file c.survey.ensures.answer e) e))

pub returns-then-file-gt31 : goal.returns-then-file-gt31
returns-then-file-gt31 g c = let a = c.args in
    Calls.write_turned g.L.Layout.kind a.board.now a.file a.offset a.bytes.now a.plan.now
    (file_none (layout_of g.L.Layout.kind) a.board.now a.file c.survey.ensures.answer c.in_ok-survey.was (rw (files_32 g.L.Layout.kind) c.if-file-gt31.true)) refl

pub returns-then-most-offset : goal.returns-then-most-offset
returns-then-most-offset g c =
    let file : let a = c.args in File g.L.Layout.kind a.board.now a.file = Calls.there g.L.Layout.kind c.survey.ensures.answer c.in_ok-survey.was c.if-file-gt31.false in
    let a = c.args in
    Calls.write_past_end g.L.Layout.kind a.board.now a.file a.offset a.bytes.now a.plan.now file (omega (arith, c.SIZE-most.ensures, g.met.L.Layout.figures.size, c.if-most-offset.true))

pub returns-then-most-offset-2 : goal.returns-then-most-offset-2
returns-then-most-offset-2 g c =
    let file : let a = c.args in File g.L.Layout.kind a.board.now a.file = Calls.there g.L.Layout.kind c.survey.ensures.answer c.in_ok-survey.was c.if-file-gt31.false in
    let a = c.args in
    Calls.write_past_end g.L.Layout.kind a.board.now a.file a.offset a.bytes.now a.plan.now file (omega (arith, c.SIZE-most.ensures, g.met.L.Layout.figures.size, c.if-most-offset.false, c.if-most-offset-2.true))

pub returns-then-bytes-eq0 : goal.returns-then-bytes-eq0
returns-then-bytes-eq0 g c =
    let file : let a = c.args in File g.L.Layout.kind a.board.now a.file = Calls.there g.L.Layout.kind c.survey.ensures.answer c.in_ok-survey.was c.if-file-gt31.false in
    let a = c.args in
    Calls.write_nothing g.L.Layout.kind a.board.now a.file a.offset a.bytes.now a.plan.now file (omega (arith, c.SIZE-most.ensures, g.met.L.Layout.figures.size, c.if-most-offset.false)) c.if-bytes-eq0.true

pub list_free-count-requires : goal.list_free-count-requires
list_free-count-requires g c = Stock.few g.L.Layout.kind c.survey.ensures c.in_ok-survey.was c.last.ensures

pub write_some-requires : goal.write_some-requires
write_some-requires g c =
    let file : let a = c.args in File g.L.Layout.kind a.board.now a.file = Calls.there g.L.Layout.kind c.survey.ensures.answer c.in_ok-survey.was c.if-file-gt31.false in (
      c.requires,
      Stock.stocked g.L.Layout.kind c.survey.ensures c.in_ok-survey.was c.last.ensures c.list_free-count.ensures file (omega (arith, c.if-bytes-eq0.false))
          (omega (arith, c.SIZE-most.ensures, g.met.L.Layout.figures.size, c.if-most-offset.false, c.if-most-offset-2.false)),
    )
