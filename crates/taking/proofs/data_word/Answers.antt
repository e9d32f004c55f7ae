use Prim.Native.Nat.{◌^◌}
use Rattle.plans.specs.Onto.{onto}
use Rattle.taking.proofs.Splicing.{data_word_law}
use Rattle.taking.proofs.data_word.Goals as goal

pub returns : goal.returns
returns g c = let a = c.args in
    data_word_law (2 ^ g.B.BlockSize.BITS) (onto (2 ^ g.B.BlockSize.BITS) a.view.now.free.now a.view.now.board.now a.view.now.grown) a.tree.block a.tree.left a.o a.new.now a.j c.link.ensures c.spliced.ensures
