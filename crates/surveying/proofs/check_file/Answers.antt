use mathlib.Core.Path.{sym, ◌∙◌}
use Rattle.std.proofs.lemmas.Result.{err_from_is_err_and}
use native.Mathlib.Omega.{arith}
use Rattle.model.specs.Layout.{layout_of}
use Rattle.kinds.proofs.Figures.{files_32}
use Rattle.surveying.proofs.FileNumbers.{file_refused, file_none, file_there}
use Rattle.surveying.proofs.check_file.Goals as goal

pub returns-in_err-check : goal.returns-in_err-check
returns-in_err-check g c =
    let a = c.args in
    let p = err_from_is_err_and c.from_residual.result c.from_residual.ensures.1 in
    rw (p.1, p.2) (sym c.in_err-check.was ∙ file_refused (layout_of g.L.Layout.kind) a.board.now a.file c.check.ensures c.in_err-check.was)

pub returns-then-file-gt31 : goal.returns-then-file-gt31
returns-then-file-gt31 g c =
    let a = c.args in
    file_none (layout_of g.L.Layout.kind) a.board.now a.file c.check.ensures c.in_ok-check.was (rw (files_32 g.L.Layout.kind) c.if-file-gt31.true)

pub returns : goal.returns
returns g c =
    let a = c.args in
    file_there (layout_of g.L.Layout.kind) a.board.now a.file c.check.ensures c.in_ok-check.was (rw (files_32 g.L.Layout.kind) (omega arith))
