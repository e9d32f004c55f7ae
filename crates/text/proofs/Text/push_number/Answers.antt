use Rattle.text.proofs.Numbers.{same_decimal}
use Rattle.text.proofs.Writing.{both, loose}
use Rattle.text.proofs.Text.push_number.Goals as goal

pub returns : goal.returns
returns c =
    both c.push_str.ensures (rw (← same_decimal c.args.n c.ranges.n.fits, ← c.format.ensures.text) (loose c.format.ensures.fits c.push_str-2.ensures))
