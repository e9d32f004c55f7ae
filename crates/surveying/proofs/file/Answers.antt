use mathlib.Core.Path.{◌∙◌}
use Rattle.model.specs.Layout.{layout_of}
use Rattle.kinds.proofs.Figures.{reach}
use Rattle.surveying.proofs.Inodes.{file_large, file_empty, file_high, file_tree}
use Rattle.surveying.proofs.file.Goals as goal

pub returns-then-SIZE-n : goal.returns-then-SIZE-n
returns-then-SIZE-n g c =
    let a = c.args in
    file_large (layout_of g.L.Layout.kind) a.board.now a.f c.size-n.ensures (c.SIZE.ensures ∙ g.met.L.Layout.figures.size) c.if-SIZE-n.true

pub returns-then-n-eq0 : goal.returns-then-n-eq0
returns-then-n-eq0 g c =
    let a = c.args in
    file_empty (layout_of g.L.Layout.kind) a.board.now a.f c.size-n.ensures c.if-n-eq0.true

pub returns-then-HEIGHT-h : goal.returns-then-HEIGHT-h
returns-then-HEIGHT-h g c =
    let a = c.args in
    file_high (layout_of g.L.Layout.kind) a.board.now a.f c.size-n.ensures (c.SIZE.ensures ∙ g.met.L.Layout.figures.size) c.if-SIZE-n.false
    c.if-n-eq0.false c.root-p.ensures c.low_in-h.ensures (c.HEIGHT.ensures ∙ g.met.L.Layout.figures.height) c.if-HEIGHT-h.true

pub crawl-requires : goal.crawl-requires
crawl-requires g c =
    reach g.L.Layout.kind g.met.L.Layout.figures.bits (rw (c.HEIGHT.ensures, g.met.L.Layout.figures.height) at c.if-HEIGHT-h.false)

pub returns : goal.returns
returns g c =
    let a = c.args in
    file_tree (layout_of g.L.Layout.kind) a.board.now a.f c.size-n.ensures (c.SIZE.ensures ∙ g.met.L.Layout.figures.size) c.if-SIZE-n.false
    c.if-n-eq0.false c.root-p.ensures c.low_in-h.ensures (c.HEIGHT.ensures ∙ g.met.L.Layout.figures.height) c.if-HEIGHT-h.false c.last-top.ensures c.block_in.ensures g.met.L.Layout.figures.bits.is c.crawl.ensures
