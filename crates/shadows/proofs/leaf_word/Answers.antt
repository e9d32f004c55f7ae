use borrow.Author.Tests.{eq-eqb, ne_eqb}
use mathlib.Core.Path.{sym, ◌∙◌}
use Prim.Native.Nat.{◌+◌, ◌%◌, ◌^◌}
use native.Mathlib.Omega.{arith}
use native.Mathlib.Nat.{mod-lt}
use lib.Pow.{pow_pos}
use Rattle.words.proofs.Widths as Widths
use Rattle.model.specs.Change.{replaced, copied_leaf, leaf_page}
use Rattle.shadows.proofs.leaf_word.Goals as goal

pub returns-then-j-slot : goal.returns-then-j-slot
unfolding leaf_page copied_leaf replaced
returns-then-j-slot g c = let a = c.args in sym (rw (eq-eqb a.j (a.inode.at % 2 ^ g.B.BlockSize.BITS) (c.if-j-slot.true ∙ c.low_of-slot.ensures)))

pub returns-then-j-slot-2 : goal.returns-then-j-slot-2
unfolding leaf_page copied_leaf replaced
returns-then-j-slot-2 g c = let a = c.args in let e = c.low_of-slot.ensures in
    sym (rw (ne_eqb a.j (a.inode.at % 2 ^ g.B.BlockSize.BITS) (rw e at c.if-j-slot.false), eq-eqb a.j (a.inode.at % 2 ^ g.B.BlockSize.BITS + 1) (rw e at c.if-j-slot-2.true)))

pub returns : goal.returns
unfolding leaf_page copied_leaf replaced
returns g c = let a = c.args in let e = c.low_of-slot.ensures in
    sym (rw (
      ne_eqb a.j (a.inode.at % 2 ^ g.B.BlockSize.BITS) (rw e at c.if-j-slot.false),
      ne_eqb a.j (a.inode.at % 2 ^ g.B.BlockSize.BITS + 1) (rw e at c.if-j-slot-2.false),
      c.cell.ensures,
      c.block_of.ensures,
    ))
