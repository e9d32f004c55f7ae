use borrow.Author.Rules.{rules}
use Prim.Native.Nat.{◌<◌, ◌*◌, ◌+◌}
use native.Mathlib.Omega.{arith}
use native.Mathlib.Nat.{mod-lt}
use lib.Pow.{pow_pos}
use Rattle.words.proofs.Widths as Widths
use Rattle.model.specs.Layout.{layout_of}
use Rattle.ways.proofs.SingleWord.{single_laid}
use Rattle.ways.proofs.single.Goals as goal

pub returns : goal.returns
returns g c = let a = c.args in let e = g.met.L.Layout.figures.bits.is in
    single_laid (layout_of g.L.Layout.kind) a.board.now a.new.now a.k a.o (rw (c.start_of.ensures, c.width.ensures.is, e)) c.word.ensures c.spliced.ensures c.pair.ensures
