use Rattle.trees.proofs.Marking
use Rattle.trees.proofs.claim.Goals as goal

pub returns-then-top-k : goal.returns-then-top-k
returns-then-top-k c = Marking.off c.args.top c.if-top-k.true

pub returns-then-word-ne0 : goal.returns-then-word-ne0
returns-then-word-ne0 c = Marking.twice c.args.top c.word.ensures c.if-word-ne0.true

pub returns : goal.returns
returns c = Marking.once c.args.top c.if-top-k.false c.word.ensures c.if-word-ne0.false c.put.ensures
