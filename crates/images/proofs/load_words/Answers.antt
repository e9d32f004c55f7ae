use Rattle.images.proofs.Boards.{part_of_word, too_long, decoded}
use Rattle.images.proofs.load_words.Goals as goal
use Rattle.images.proofs.load_words.Goals.{then-n-ne0-via-then-n-ne0, then-n-ne0-via-else-n-ne0+then-n-gt65536}

pub returns-then-n-ne0 : goal.returns-then-n-ne0
returns-then-n-ne0 c = elim c.then-n-ne0.branch [
  | then-n-ne0-via-then-n-ne0 w ↦ part_of_word c.args.image.now w.if-n-ne0.true
  | then-n-ne0-via-else-n-ne0+then-n-gt65536 w ↦ too_long c.args.image.now w.if-n-gt65536.true
]

pub returns : goal.returns
returns c = decoded c.args.image.now c.args.words.now c.if-n-ne0.false c.if-n-gt65536.false c.decode.ensures
