use Rattle.std.proofs.lemmas.Result.{err_from_is_err_and}
use Rattle.std.specs.Prelude.{Ok}
use mathlib.Core.Path.{sym, ap, ◌∙◌}
use Rattle.model.specs.Layout.{layout_of}
use Rattle.model.specs.Board.{size}
use Rattle.model.specs.Calls.{file_faults, size_answer}
use Rattle.model.proofs.Refusals.{same_refused, same_done}
use Rattle.reading.proofs.size.Goals as goal

pub returns-in_err-check_file : goal.returns-in_err-check_file
unfolding size_answer
returns-in_err-check_file g c = let a = c.args in let k = layout_of g.L.Layout.kind in
    let p = err_from_is_err_and c.from_residual.result c.from_residual.ensures.1 in rw (p.1, p.2) (sym c.in_err-check_file.was ∙ sym (same_refused (file_faults k a.board.now a.file) 0 (size k a.board.now a.file) c.check_file.ensures c.in_err-check_file.was))

pub returns : goal.returns
unfolding size_answer
returns g c = let a = c.args in let k = layout_of g.L.Layout.kind in
    ap Ok c.size.ensures
    ∙ sym (same_done (file_faults k a.board.now a.file) 0 (size k a.board.now a.file) c.check_file.ensures c.in_ok-check_file.was)
