use Rattle.surveying.proofs.check.Goals as goal

-- search finds this too; written out, another answer is refused by what it differs in
pub returns : goal.returns
returns g c = c.survey.ensures.answer
