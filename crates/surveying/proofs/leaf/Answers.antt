use Rattle.model.specs.Layout.{layout_of}
use Rattle.surveying.proofs.Inodes.{leaf_low, leaf_null, leaf_claim}
use Rattle.surveying.proofs.leaf.Goals as goal

pub returns-then-low_in-ne0 : goal.returns-then-low_in-ne0
returns-then-low_in-ne0 g c = let a = c.args in
    leaf_low (layout_of g.L.Layout.kind) a.board.now a.l c.inode_pointer-p.ensures c.low_in.ensures c.if-low_in-ne0.true

pub returns-then-k-eq0 : goal.returns-then-k-eq0
returns-then-k-eq0 g c = let a = c.args in
    leaf_null (layout_of g.L.Layout.kind) a.board.now a.l c.inode_pointer-p.ensures c.low_in.ensures c.block_in-k.ensures c.if-low_in-ne0.false c.if-k-eq0.true

pub returns : goal.returns
returns g c =
    let a = c.args in
    leaf_claim (layout_of g.L.Layout.kind) a.board.now a.l c.inode_pointer-p.ensures c.low_in.ensures c.block_in-k.ensures c.if-low_in-ne0.false c.if-k-eq0.false c.last-top.ensures c.claim.ensures
