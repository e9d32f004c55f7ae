use Rattle.model.specs.Layout.{layout_of}
use Rattle.surveying.proofs.Inodes.{inodes_spare, inodes_leaves}
use Rattle.surveying.proofs.pointers.Goals as goal

pub returns-then-not-spares_sound : goal.returns-then-not-spares_sound
returns-then-not-spares_sound g c = let a = c.args in
    inodes_spare (layout_of g.L.Layout.kind) a.board.now c.spares_sound.ensures (c.if-not-spares_sound.true)

pub returns : goal.returns
returns g c = let a = c.args in
    inodes_leaves (layout_of g.L.Layout.kind) a.board.now c.spares_sound.ensures (c.if-not-spares_sound.false) c.leaves.ensures
