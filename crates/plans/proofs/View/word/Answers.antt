use mathlib.Core.Path.{sym, ◌∙◌}
use Prim.Native.Nat.{◌^◌}
use native.Mathlib.Omega.{arith}
use lib.Pow.{pow_pos}
use borrow.Author.Rules.{rules}
use Rattle.words.proofs.Off.{past}
use Rattle.plans.specs.Onto.{taking, onto}
use Rattle.plans.proofs.Onto.{length_onto, word_root, word_own, word_rest, word_pointer, below_small}
use Rattle.plans.proofs.View.word.Goals as goal

pub returns-then-self-at : goal.returns-then-self-at
returns-then-self-at g c = let a = c.args in
    past (onto (2 ^ g.B.BlockSize.BITS) a.self.now.free.now a.self.now.board.now a.self.now.grown) a.at (omega (arith, length_onto (2 ^ g.B.BlockSize.BITS) a.self.now.free.now a.self.now.board.now a.self.now.grown))

pub returns-then-at-self : goal.returns-then-at-self
returns-then-at-self g c = let a = c.args in
    word_root (2 ^ g.B.BlockSize.BITS) a.self.now.free.now a.self.now.board.now a.self.now.grown a.at (omega arith) c.if-at-self.true

pub returns-in_default : goal.returns-in_default
unfolding taking
returns-in_default g c = let a = c.args in
    c.word.ensures ∙ word_own (2 ^ g.B.BlockSize.BITS) a.self.now.free.now a.self.now.board.now a.self.now.grown a.at (omega arith) c.if-at-self.false (rw c.block_of.ensures at c.in_default.ensures)

pub returns-then-low_of-ne0 : goal.returns-then-low_of-ne0
unfolding taking
returns-then-low_of-ne0 g c = let a = c.args in
    word_rest (2 ^ g.B.BlockSize.BITS) a.self.now.free.now a.self.now.board.now a.self.now.grown a.at (omega arith) c.if-at-self.false (pow_pos g.B.BlockSize.BITS) (rw c.block_of.ensures at c.in-Some.ensures)
    (λ z. c.if-low_of-ne0.true (c.low_of.ensures ∙ z))

pub returns : goal.returns
unfolding taking
returns g c = let a = c.args in
    c.start_of.ensures ∙ rw c.level_below.ensures (
    word_pointer (2 ^ g.B.BlockSize.BITS) a.self.now.free.now a.self.now.board.now a.self.now.grown a.at (omega arith) c.if-at-self.false (pow_pos g.B.BlockSize.BITS) (rw c.block_of.ensures at c.in-Some.ensures)
    (sym c.low_of.ensures ∙ c.if-low_of-ne0.false))

pub start_of-requires : goal.start_of-requires
start_of-requires g c =
    let p = c.args.self.now.pointers in
    below_small _ _ p.width p.blocks p.below c.level_below.ensures
