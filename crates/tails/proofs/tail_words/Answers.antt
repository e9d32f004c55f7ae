use native.Mathlib.Omega.{arith}
use borrow.Author.Rules.{rules}
use Rattle.words.proofs.Widths as Widths
use Rattle.plans.proofs.Laying as Laying
use Rattle.taking.proofs.Ends.{here, next, done}
use Rattle.tails.proofs.TailStores.{begin, one_more, over, all}
use Rattle.tails.proofs.tail_words.Goals as goal

pub loop-j-init : goal.loop-j-init
loop-j-init g c = begin c.width-w.result

pub loop-j-preserved : goal.loop-j-preserved
loop-j-preserved g c =
    next c.loop-j.invariant c.loop-j-test.true
    (one_more (here c.loop-j.invariant c.loop-j-test.true) c.part_length.ensures c.if-part_length-eq0.false c.data_word-value.ensures c.pair.ensures (omega (arith, c.start_of-to.ensures)))

pub returns-then-part_length-eq0 : goal.returns-then-part_length-eq0
returns-then-part_length-eq0 g c = all (over c.loop-j.invariant c.loop-j-test.true c.part_length.ensures c.if-part_length-eq0.true) c.width-w.ensures.is

pub returns : goal.returns
returns g c = all (done c.loop-j.invariant (omega arith)) c.width-w.ensures.is
