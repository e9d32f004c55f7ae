use Rattle.listing.proofs.Listing.{no_files, one_file_more}
use Rattle.listing.proofs.files.Goals as goal

pub loop-f-init : goal.loop-f-init
loop-f-init c = no_files c.args.board.now

pub loop-f-preserved : goal.loop-f-preserved
loop-f-preserved c = one_file_more c.args.board.now c.loop-f.f c.loop-f.invariant c.file.ensures
