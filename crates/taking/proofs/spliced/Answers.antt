use native.Mathlib.Omega.{arith}
use Rattle.taking.proofs.Splicing.{word_new, word_kept, word_gone}
use Rattle.taking.proofs.spliced.Goals as goal

pub returns-then-first-n : goal.returns-then-first-n
returns-then-first-n c =
    let a = c.args in
    word_kept a.x a.n a.o a.new.now a.j c.beside.ensures c.if-beside.true (omega arith) c.if-first-n.true

pub returns-then-n-first : goal.returns-then-n-first
returns-then-n-first c =
    let a = c.args in
    word_gone a.x a.n a.o a.new.now a.j c.beside.ensures c.if-beside.true c.if-n-first.true

pub returns-then-d-new : goal.returns-then-d-new
returns-then-d-new c =
    let a = c.args in
    word_new a.x a.n a.o a.new.now a.j c.if-o-first.true c.if-d-new.true c.word_at.ensures
