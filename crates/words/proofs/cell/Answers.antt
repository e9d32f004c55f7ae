use mathlib.Core.Path.{refl, ap, ◌∙◌}
use mathlib.Core.List.{List}
use Prim.Native.Nat.{ℕ, ◌+◌}
use lib.ListN.{get_or}
use lib.Seq.{get_or-drop}
use borrow.Author.Rules.{part_to_end}
use Rattle.model.specs.Tree.{cell}
use Rattle.words.proofs.Off.{off_block}
use Rattle.words.proofs.cell.Goals as goal

pub returns-then-block_of-k : goal.returns-then-block_of-k
returns-then-block_of-k g c = let a = c.args in off_block a.board.now refl g.B.BlockSize.BITS a.k a.j (rw c.block_of.ensures at c.if-block_of-k.true)

pub returns : goal.returns
unfolding cell
returns g c = let a = c.args in
    c.word.ensures
    ∙ ap (λ (l : List ℕ). get_or l a.j 0) (part_to_end a.board.now c.start_of-start.result)
    ∙ get_or-drop c.start_of-start.result a.board.now a.j 0
    ∙ ap (λ (x : ℕ). get_or a.board.now (x + a.j) 0) c.start_of-start.ensures
