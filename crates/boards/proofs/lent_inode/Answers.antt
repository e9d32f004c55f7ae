use native.Mathlib.Omega.{arith}
use Rattle.boards.proofs.Inodes.{pointer_room, inode_is}
use Rattle.boards.proofs.lent_inode.Goals as goal

pub start_in-pointers-requires : goal.start_in-pointers-requires
start_in-pointers-requires g c = rw c.block_in.ensures (omega (arith, pointer_room g.L.Layout.kind c.trailer.result c.args.file (omega arith) c.requires))

pub overflow_add-pointer : goal.overflow_add-pointer
overflow_add-pointer g c = rw (c.start_in-pointers.ensures, c.block_in.ensures, c.leaf_in.ensures)
    (omega (arith, pointer_room g.L.Layout.kind c.trailer.result c.args.file (omega arith) c.requires))

pub returns : goal.returns
returns g c = inode_is c.trailer.ensures (rw (c.start_in-pointers.ensures, c.block_in.ensures, c.leaf_in.ensures))
    c.root_address-at.ensures c.word-root.ensures c.word-size.ensures
