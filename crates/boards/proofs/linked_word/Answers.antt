use mathlib.Core.Path.{◌∙◌}
use Prim.Native.Nat.{◌*◌, ◌<◌}
use native.Mathlib.Omega.{arith}
use Rattle.model.specs.Layout.{layout_of}
use Rattle.model.specs.Board.{linked_word}
use Rattle.model.proofs.Shown.{slot}
use Rattle.model.proofs.Formatted.{fits}
use Rattle.kinds.proofs.Figures.{few_words}
use Rattle.boards.proofs.linked_word.Goals as goal

-- the place of an inode in its leaf
place : (g : _) (c : goal.After-inode_in g) → 2 * c.inode_in.result < 512
place g c = let a = c.args in
    rw c.inode_in.ensures (omega (arith, slot (layout_of g.L.Layout.kind) (fits g.L.Layout.kind) a.f, few_words g.L.Layout.kind))

pub overflow_mul-inode_in : goal.overflow_mul-inode_in
overflow_mul-inode_in g c = omega (arith, place g c)

pub overflow_add-inode_in : goal.overflow_add-inode_in
overflow_add-inode_in g c = omega (arith, place g c)

pub returns : goal.returns
unfolding linked_word
returns g c = c.link.ensures ∙ rw (c.inode_in.ensures, c.linked_leaf-k.ensures)
