use mathlib.Core.Path.{◌∙◌}
use Prim.Native.Nat.{◌^◌}
use native.Mathlib.Omega.{arith}
use Rattle.plans.specs.Onto.{onto}
use Rattle.trees.proofs.Reaching.{lower}
use Rattle.trees.proofs.Ending.{end_null, end_dead, end_here}
use Rattle.tails.proofs.Walking.{walk_data, walk_first, walk_follow}
use Rattle.tails.proofs.+walk_live.Goals as goal
use Rattle.tails.proofs.+walk_live.Goals.{then-h-ne0+else-n-s-ne0, else-h-ne0}

-- The measure is the height.

pub returns-then-n-s-ne0 : goal.returns-then-n-s-ne0
returns-then-n-s-ne0 g t c =
    let a = c.args in
    c.walk_live.ensures
    ∙ walk_follow (2 ^ g.B.BlockSize.BITS) (onto (2 ^ g.B.BlockSize.BITS) a.view.now.free.now a.view.now.board.now a.view.now.grown) a.h a.k a.n c.span-s.result c.link.result c.block_of-below.result
    c.if-h-ne0.true c.span-s.ensures.is c.if-n-s-ne0.true c.link.ensures c.block_of-below.ensures

-- the walk ends where no pointer is followed

pub returns-then-k-eq0 : goal.returns-then-k-eq0
returns-then-k-eq0 g t c = let a = c.args in let b = onto (2 ^ g.B.BlockSize.BITS) a.view.now.free.now a.view.now.board.now a.view.now.grown in
    end_null a.k a.n c.if-k-eq0.true ∙ (elim c.if-h-ne0.branch [
      | then-h-ne0+else-n-s-ne0 w ↦ walk_first (2 ^ g.B.BlockSize.BITS) b a.h a.k a.n w.span-s.result w.if-h-ne0.true w.span-s.ensures.is (omega arith)
      | else-h-ne0 w ↦ walk_data (2 ^ g.B.BlockSize.BITS) b a.h a.k a.n (omega arith)
    ])

pub returns-then-n-eq0 : goal.returns-then-n-eq0
returns-then-n-eq0 g t c = let a = c.args in let b = onto (2 ^ g.B.BlockSize.BITS) a.view.now.free.now a.view.now.board.now a.view.now.grown in
    end_dead a.k a.n c.if-n-eq0.true ∙ (elim c.if-h-ne0.branch [
      | then-h-ne0+else-n-s-ne0 w ↦ walk_first (2 ^ g.B.BlockSize.BITS) b a.h a.k a.n w.span-s.result w.if-h-ne0.true w.span-s.ensures.is (omega arith)
      | else-h-ne0 w ↦ walk_data (2 ^ g.B.BlockSize.BITS) b a.h a.k a.n (omega arith)
    ])

pub returns : goal.returns
returns g t c = let a = c.args in let b = onto (2 ^ g.B.BlockSize.BITS) a.view.now.free.now a.view.now.board.now a.view.now.grown in
    end_here a.k a.n c.if-k-eq0.false c.if-n-eq0.false ∙ (elim c.if-h-ne0.branch [
      | then-h-ne0+else-n-s-ne0 w ↦ walk_first (2 ^ g.B.BlockSize.BITS) b a.h a.k a.n w.span-s.result w.if-h-ne0.true w.span-s.ensures.is (omega arith)
      | else-h-ne0 w ↦ walk_data (2 ^ g.B.BlockSize.BITS) b a.h a.k a.n (omega arith)
    ])

pub span-s-requires : goal.span-s-requires
span-s-requires g t c = lower c.requires
