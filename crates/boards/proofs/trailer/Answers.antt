use mathlib.Core.Path.{◌∙◌}
use Rattle.model.specs.Board.{trailer}
use Rattle.boards.proofs.trailer.Goals as goal

pub returns : goal.returns
unfolding trailer
returns g c = c.cell.ensures ∙ rw (c.last.ensures, g.met.L.Layout.figures.bits.is)
