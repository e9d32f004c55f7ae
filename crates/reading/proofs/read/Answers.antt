use Rattle.std.proofs.lemmas.Result.{err_from_is_err_and}
use Rattle.model.specs.Layout.{layout_of}
use Rattle.model.proofs.Accepting.{facts}
use Rattle.model.proofs.Formatted.{fits}
use Rattle.kinds.proofs.Figures.{reach}
use Rattle.reading.proofs.Answering.{read_refused, read_bytes}
use Rattle.surveying.proofs.FileNumbers.{file_found}
use Rattle.reading.proofs.read.Goals as goal

pub returns-in_err-check_file : goal.returns-in_err-check_file
returns-in_err-check_file g c =
    let p = err_from_is_err_and c.from_residual.result c.from_residual.ensures.1 in rw (p.1, p.2) (rw (← c.in_err-check_file.was) (read_refused c.check_file.ensures c.in_err-check_file.was))

pub fill-count-requires : goal.fill-count-requires
fill-count-requires g c =
    let a = c.args in
    let found = file_found (layout_of g.L.Layout.kind) a.board.now a.file c.check_file.ensures c.in_ok-check_file.was in
    record {
      width = g.met.L.Layout.figures.bits.width;
      reach = λ live. reach g.L.Layout.kind g.met.L.Layout.figures.bits (rw (c.root-root.ensures, ← g.met.L.Layout.figures.bits.is)
          ((facts (layout_of g.L.Layout.kind) (fits g.L.Layout.kind) a.board.now found.0).low a.file found.1 (rw c.size-n.ensures at live)));
    }

pub returns : goal.returns
returns g c =
    let filled = rw (← g.met.L.Layout.figures.bits.is) at c.fill-count.ensures in
    read_bytes c.check_file.ensures c.in_ok-check_file.was c.root-root.ensures c.size-n.ensures filled
