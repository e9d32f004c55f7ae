use mathlib.Core.Path.{sym, ◌∙◌}
use Prim.Native.Nat.{◌^◌}
use native.Mathlib.Omega.{arith}
use lib.Pow.{pow_pos}
use Rattle.model.specs.Tree.{link}
use Rattle.model.proofs.Agree.{link_cell}
use Rattle.plans.specs.Onto.{onto}
use Rattle.plans.proofs.View.link.Goals as goal

pub returns-then-k-eq0 : goal.returns-then-k-eq0
unfolding link
returns-then-k-eq0 g c = rw c.if-k-eq0.true

pub returns : goal.returns
returns g c =
    let a = c.args in
    c.cell.ensures ∙ sym (link_cell (2 ^ g.B.BlockSize.BITS) (pow_pos g.B.BlockSize.BITS) (onto (2 ^ g.B.BlockSize.BITS) a.self.now.free.now a.self.now.board.now a.self.now.grown) a.k a.j (omega arith))
