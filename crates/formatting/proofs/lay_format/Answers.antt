use native.Mathlib.Omega.{arith}
use mathlib.Core.Path.{ap}
use Prim.Native.Nat.{ℕ, ◌+◌}
use lib.ListN.{length}
use Rattle.model.specs.Layout.{layout_of}
use Rattle.model.specs.Board.{block_count}
use Rattle.model.proofs.Formatted.{fits}
use Rattle.kinds.proofs.Figures.{words_pos}
use Rattle.boards.proofs.Trailing.{trailer_room}
use Rattle.formatting.proofs.Formatting.{format_laid}
use Rattle.formatting.proofs.lay_format.Goals as goal

pub start_in-at-requires : goal.start_in-at-requires
unfolding block_count
start_in-at-requires g c = let a = c.args in rw c.last.ensures (omega (arith, words_pos g.L.Layout.kind, trailer_room g.L.Layout.kind (length a.board.now) (omega arith)))

pub returns : goal.returns
returns g c =
    let a = c.args in
    let p : ℕ = c.trailer_place.result in
    format_laid (layout_of g.L.Layout.kind) (fits g.L.Layout.kind) a.board.now a.plan.now p (p + c.words_in-w.result) c.last.ensures c.start_in-at.ensures
    (ap (λ (x : ℕ). x + 1) c.words_in-w.ensures.is) c.trailer_place.ensures.is (ap (λ (x : ℕ). p + x) c.words_in-w.ensures.is) c.pair.ensures c.barrier.ensures
    c.lay_pointers.ensures c.lay_leaves.ensures c.lay_trailer.ensures c.barrier-2.ensures c.pair-2.ensures
