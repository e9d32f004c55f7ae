use mathlib.Core.Path.{sym, ◌∙◌}
use Rattle.std.proofs.lemmas.Result.{err_from_is_err_and}
use Rattle.kinds.proofs.Figures.{words_pos, few_blocks}
use Rattle.reading.proofs.Answering.{count_refused, count_free}
use Rattle.reading.proofs.free_count.Goals as goal

pub returns-in_err-survey : goal.returns-in_err-survey
returns-in_err-survey g c =
    let p = err_from_is_err_and c.from_residual.result c.from_residual.ensures.1 in rw (p.1, p.2) (sym c.in_err-survey.was ∙ count_refused c.survey.ensures c.in_err-survey.was)

pub returns : goal.returns
returns g c = let k = g.L.Layout.kind in
    count_free c.survey.ensures (words_pos k) (few_blocks k) c.in_ok-survey.was c.last-top.ensures c.unmarked.ensures
