use mathlib.Core.Path.{◌∙◌}
use Prim.Native.Nat.{◌^◌}
use native.Mathlib.Omega.{arith}
use lib.ListN.{length}
use Rattle.model.specs.Tree.{cell}
use Rattle.words.proofs.Off.{off_block, off_word}
use Rattle.words.proofs.Widths as Widths
use Rattle.plans.specs.Onto.{onto}
use Rattle.plans.proofs.Onto.{length_onto}
use Rattle.plans.proofs.View.cell.Goals as goal

pub returns-then-block_of-k : goal.returns-then-block_of-k
returns-then-block_of-k g c = let a = c.args in
    off_block (onto (2 ^ g.B.BlockSize.BITS) a.self.now.free.now a.self.now.board.now a.self.now.grown) (length_onto (2 ^ g.B.BlockSize.BITS) a.self.now.free.now a.self.now.board.now a.self.now.grown) g.B.BlockSize.BITS a.k a.j
    (rw c.block_of.ensures at c.if-block_of-k.true)

pub returns-then-n-start : goal.returns-then-n-start
returns-then-n-start g c = let a = c.args in
    off_word (onto (2 ^ g.B.BlockSize.BITS) a.self.now.free.now a.self.now.board.now a.self.now.grown) (length_onto (2 ^ g.B.BlockSize.BITS) a.self.now.free.now a.self.now.board.now a.self.now.grown) g.B.BlockSize.BITS a.k a.j
    (rw c.start_of-start.ensures at c.if-n-start.true)

pub returns : goal.returns
unfolding cell
returns g c = c.word.ensures ∙ rw c.start_of-start.ensures
