use mathlib.Core.Path.{◌≡◌, ◌∙◌}
use native.Mathlib.Omega.{arith}
use Rattle.std.proofs.Common.{rules, fold, bit_or, slice_range}
use Rattle.boards.proofs.Trailing.{zeros_or}
use Rattle.boards.proofs.zeros.Goals as goal

pub returns : goal.returns
returns c =
    let e : c.fold.result ≡ fold bit_or 0 (slice_range c.args.board.now c.min-start.result c.min-end.result) = search rules in
    let a = c.args in zeros_or a.board.now a.at a.from a.to (c.min-end.ensures ∙ rw c.saturating_add.ensures) (c.min-start.ensures ∙ rw c.saturating_add-2.ensures) (omega arith) e
