use Rattle.words.proofs.Widths as Widths
use Rattle.words.proofs.width.Goals as goal

pub returns : goal.returns
returns g c = rw c.BITS.ensures (Widths.wide g.B.BlockSize.width)
