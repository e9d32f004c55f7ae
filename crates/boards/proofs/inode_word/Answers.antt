use mathlib.Core.Path.{◌∙◌}
use Prim.Native.Nat.{◌*◌, ◌<◌}
use native.Mathlib.Nat.{add_assoc, mod-lt}
use native.Mathlib.Omega.{arith}
use Rattle.model.specs.Tree.{cell}
use Rattle.model.specs.Board.{leaf, root_address}
use Rattle.model.proofs.Formatted.{fits}
use Rattle.kinds.proofs.Figures.{few_words}
use Rattle.boards.proofs.inode_word.Goals as goal

-- the place of an inode in its leaf
place : (g : _) (c : goal.After-inode_in g) → 2 * c.inode_in.result < 512
place g c = let a = c.args in
    rw c.inode_in.ensures (omega (arith, mod-lt a.f (fits g.L.Layout.kind).inodes_some, (fits g.L.Layout.kind).inodes_fit, few_words g.L.Layout.kind))

pub overflow_mul-inode_in : goal.overflow_mul-inode_in
overflow_mul-inode_in g c = omega (arith, place g c)

pub overflow_add-inode_in : goal.overflow_add-inode_in
overflow_add-inode_in g c = omega (arith, place g c)

pub returns : goal.returns
unfolding root_address leaf cell
returns g c = c.cell.ensures
    ∙ rw (c.inode_in.ensures, c.block_in-k.ensures, c.inode_pointer.ensures, c.leaf_in.ensures, g.met.L.Layout.figures.bits.is, add_assoc)
