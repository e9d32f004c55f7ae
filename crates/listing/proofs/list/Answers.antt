use Rattle.std.proofs.Common.{refl, rules}
use Rattle.listing.proofs.Listing.{listed}
use Rattle.listing.proofs.list.Goals as goal

pub returns : goal.returns
returns c = listed c.args.image.now c.load-board.ensures refl c.lines.ensures (search rules)
