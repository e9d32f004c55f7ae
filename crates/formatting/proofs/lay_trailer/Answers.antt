use mathlib.Core.Path.{◌≡◌}
use Prim.Native.Nat.{◌+◌, ◌-◌}
use native.Mathlib.Omega.{arith}
use native.Mathlib.Nat.{add-zero}
use lib.ListN.{length}
use Rattle.model.specs.Layout.{layout_of}
use Rattle.model.specs.Board.{block_count}
use Rattle.model.specs.Format.{trailer_stores}
use Rattle.kinds.proofs.Figures.{words_pos}
use Rattle.boards.proofs.Trailing.{trailer_room}
use Rattle.formatting.proofs.Formatting.{trailer_none, trailer_more}
use Rattle.formatting.proofs.lay_trailer.Goals as goal

pub start_in-at-requires : goal.start_in-at-requires
unfolding block_count
start_in-at-requires g c =
    let a = c.args in
    rw c.last.ensures (omega (arith, words_pos g.L.Layout.kind, trailer_room g.L.Layout.kind (length a.board.now) (omega arith)))

pub loop-j-init : goal.loop-j-init
loop-j-init g c =
    let a = c.args in
    rw (add-zero c.trailer_place-p.result) (trailer_none (layout_of g.L.Layout.kind) a.board.now)

pub loop-j-preserved : goal.loop-j-preserved
loop-j-preserved g c =
    let a = c.args in
    let next : c.trailer_place-p.result + (c.loop-j.j + 1) ≡ c.trailer_place-p.result + c.loop-j.j + 1 = omega arith in
    rw next (trailer_more (layout_of g.L.Layout.kind) a.board.now c.loop-j.j c.block_count-blocks.ensures c.last.ensures c.start_in-at.ensures
    c.trailer_word.ensures c.loop-j.invariant c.pair.ensures)

pub returns : goal.returns
unfolding trailer_stores
returns g c =
    let a = c.args in
    let all : c.loop-j.j ≡ (layout_of g.L.Layout.kind).words - 1 = omega (arith, c.words_in-n.ensures.is) in
    rw (← c.trailer_place-p.ensures.is, ← all) c.loop-j.invariant.is
