use Rattle.model.specs.Layout.{layout_of}
use Rattle.surveying.proofs.Inodes.{all_inode, all_leaves, all_files}
use Rattle.surveying.proofs.live.Goals as goal

pub returns-then-not-claim : goal.returns-then-not-claim
returns-then-not-claim g c = let a = c.args in
    all_inode (layout_of g.L.Layout.kind) a.board.now c.last-top.ensures c.trailer.ensures c.block_in-k.ensures c.claim.ensures (c.if-not-claim.true)

pub returns-then-not-pointers : goal.returns-then-not-pointers
returns-then-not-pointers g c =
    let a = c.args in
    all_leaves (layout_of g.L.Layout.kind) a.board.now c.last-top.ensures c.trailer.ensures c.block_in-k.ensures c.claim.ensures (c.if-not-claim.false)
    c.pointers.ensures (c.if-not-pointers.true)

pub returns : goal.returns
returns g c = let a = c.args in
    all_files (layout_of g.L.Layout.kind) a.board.now c.last-top.ensures c.trailer.ensures c.block_in-k.ensures c.claim.ensures (c.if-not-claim.false) c.pointers.ensures
    (c.if-not-pointers.false) c.files.ensures
