use Rattle.listing.proofs.Listing.{board, refusal}
use Rattle.listing.proofs.lines.Goals as goal

pub returns-in-Ok : goal.returns-in-Ok
returns-in-Ok c = board _ c.free_count.ensures c.in-Ok.is c.block_count-blocks.ensures c.board_line.ensures c.files.ensures

pub returns-in-Err : goal.returns-in-Err
returns-in-Err c = refusal _ c.free_count.ensures c.in-Err.is c.from-n.ensures c.refused_line.ensures
