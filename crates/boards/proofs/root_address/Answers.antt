use native.Mathlib.Omega.{arith}
use Rattle.model.specs.Board.{leaf, root_address}
use Rattle.boards.proofs.Inodes.{place}
use Rattle.boards.proofs.root_address.Goals as goal

pub start_in-requires : goal.start_in-requires
start_in-requires g c = let a = c.args in let p = c.inode_pointer-p.result in
    rw c.block_in.ensures (omega (arith, place g.L.Layout.kind p a.file (omega arith)))

pub overflow_mul-result : goal.overflow_mul-result
overflow_mul-result g c = let a = c.args in
    omega (arith, c.inode_in.ensures, place g.L.Layout.kind c.inode_pointer-p.result a.file (omega arith))

pub overflow_add-result : goal.overflow_add-result
overflow_add-result g c = let a = c.args in let p = c.inode_pointer-p.result in
    rw (c.start_in.ensures, c.block_in.ensures, c.inode_in.ensures) (omega (arith, place g.L.Layout.kind p a.file (omega arith)))

pub returns : goal.returns
unfolding root_address leaf
returns g c = let a = c.args in let p = c.inode_pointer-p.result in record {
  is = rw (c.start_in.ensures, c.block_in.ensures, c.inode_in.ensures, c.inode_pointer-p.ensures, c.leaf_in.ensures);
  small = rw (c.start_in.ensures, c.block_in.ensures, c.inode_in.ensures) (omega (arith, place g.L.Layout.kind p a.file (omega arith)));
}
