use Rattle.std.specs.Prelude.{Some}
use mathlib.Core.Path.{◌≡◌, sym, ◌∙◌}
use Prim.Native.Nat.{◌^◌, ◌<◌}
use native.Mathlib.Omega.{arith}
use Rattle.model.specs.Layout.{house}
use Rattle.model.specs.Board.{walk_to}
use Rattle.reading.proofs.Bounds.{walk_small}
use Rattle.hosts.proofs.Ends.{ended_hole, ended_block}
use Rattle.hosts.proofs.montebeech_words_walk.Goals as goal

pub returns-in_default : goal.returns-in_default
returns-in_default c = ended_hole (sym c.walk_to-end.ensures ∙ c.in_default.is)

pub overflow_cast-result : goal.overflow_cast-result
overflow_cast-result c =
    let there : let a = c.args in walk_to house a.board.now a.file a.byte ≡ Some c.in-Some.k = sym c.walk_to-end.ensures ∙ c.in-Some.is in
    let small : c.in-Some.k < 2 ^ 63 = let a = c.args in
    walk_small a.board.now (λ i. omega (arith, c.type_inv.board i)) a.file a.byte c.in-Some.k there in
    record { sfits = small }

pub returns : goal.returns
returns c =
    let there : let a = c.args in walk_to house a.board.now a.file a.byte ≡ Some c.in-Some.k = sym c.walk_to-end.ensures ∙ c.in-Some.is in
    let small : c.in-Some.k < 2 ^ 63 = let a = c.args in
    walk_small a.board.now (λ i. omega (arith, c.type_inv.board i)) a.file a.byte c.in-Some.k there in
    ended_block there small
