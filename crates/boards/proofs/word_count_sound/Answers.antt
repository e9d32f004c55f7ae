use Prim.Native.Nat.{◌*◌}
use native.Mathlib.Nat.{mul_comm}
use native.Mathlib.Omega.{arith}
use lib.ListN.{length}
use borrow.Author.Tests.{le-leb, lt-leb}
use Rattle.model.specs.Layout.{layout_of}
use Rattle.model.specs.Board.{word_count_sound}
use Rattle.model.proofs.Formatted.{fits}
use Rattle.kinds.proofs.Figures.{few_words}
use Rattle.boards.proofs.word_count_sound.Goals as goal

pub start_in-requires : goal.start_in-requires
start_in-requires g c = omega (arith, few_words g.L.Layout.kind)

pub returns-then-n-start_in : goal.returns-then-n-start_in
unfolding word_count_sound
returns-then-n-start_in g c = let a = c.args in
    rw (lt-leb (16 * (layout_of g.L.Layout.kind).words) (length a.board.now) (omega (arith, c.start_in.ensures, c.if-n-start_in.true)))

pub start_in-requires-2 : goal.start_in-requires-2
start_in-requires-2 g c = let k = layout_of g.L.Layout.kind in
    rw (c.MOST.ensures, g.met.L.Layout.figures.most.is) (omega (arith, (fits g.L.Layout.kind).addresses_fit, mul_comm k.words k.most))

pub returns-then-start_in-n : goal.returns-then-start_in-n
unfolding word_count_sound
returns-then-start_in-n g c =
    let a = c.args in
    let W = (layout_of g.L.Layout.kind).words in
    let n = length a.board.now in
    rw (
      le-leb (16 * W) n (omega (arith, c.start_in.ensures, c.if-n-start_in.false)),
      ← g.met.L.Layout.figures.most.is,
      ← c.MOST.ensures,
      lt-leb n (c.MOST.result * W) (omega (arith, c.start_in-2.ensures, c.if-start_in-n.true, mul_comm c.MOST.result W)),
    )

pub returns : goal.returns
unfolding word_count_sound
returns g c =
    let a = c.args in
    let W = (layout_of g.L.Layout.kind).words in
    let n = length a.board.now in
    rw (
      c.low_in.ensures,
      le-leb (16 * W) n (omega (arith, c.start_in.ensures, c.if-n-start_in.false)),
      ← g.met.L.Layout.figures.most.is,
      ← c.MOST.ensures,
      le-leb n (c.MOST.result * W) (omega (arith, c.start_in-2.ensures, c.if-start_in-n.false, mul_comm c.MOST.result W)),
    )
