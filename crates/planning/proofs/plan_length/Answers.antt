use mathlib.Core.Path.{ap}
use Prim.Native.Nat.{◌≤◌}
use native.Mathlib.Omega.{arith}
use Rattle.model.specs.Layout.{layout_of}
use Rattle.words.proofs.Widths as Widths
use Rattle.kinds.proofs.Figures.{reach, height_low}
use Rattle.trees.specs.declared.Tree.{Tree}
use Rattle.planning.proofs.Lengths as Lengths
use Rattle.planning.proofs.plan_length.Goals as goal

-- By the tests of the old size; what each lays is what the definition has for it.

pub returns-then-n-s : goal.returns-then-n-s
returns-then-n-s g c = Lengths.length_kept c.root_address-at.ensures c.word-s.ensures _ c.if-n-s.true

pub returns-then-n-s-2 : goal.returns-then-n-s-2
returns-then-n-s-2 g c = Lengths.length_cut c.root_address-at.ensures c.word-s.ensures _ c.if-n-s.false c.if-n-s-2.true c.commit.ensures

pub returns-then-s-eq0 : goal.returns-then-s-eq0
returns-then-s-eq0 g c =
    Lengths.length_from_empty c.root_address-at.ensures c.word-s.ensures _ c.if-n-s.false c.if-n-s-2.false c.if-s-eq0.true c.pair.ensures c.commit-then-s-eq0.ensures

pub returns : goal.returns
returns g c =
    Lengths.length_more c.root_address-at.ensures c.word-s.ensures _ c.if-n-s.false c.if-n-s-2.false g.met.L.Layout.figures.bits.is c.if-s-eq0.false c.word-root.ensures
    c.of_root-tree.ensures c.clear_in_place-q.ensures c.commit-2.ensures

pub clear_in_place-q-requires : goal.clear_in_place-q-requires
clear_in_place-q-requires g c =
    let low : c.of_root-tree.result.height ≤ (layout_of g.L.Layout.kind).height = height_low c.word-root.result g.met.L.Layout.figures.bits (Lengths.low c.requires.0 c.root_address-at.ensures c.word-s.ensures c.word-root.ensures c.if-s-eq0.false) (ap (λ (t : Tree). t.height) c.of_root-tree.ensures) in (
      reach g.L.Layout.kind g.met.L.Layout.figures.bits low,
      rw c.of_root-tree.ensures (Widths.address_room g.met.L.Layout.figures.bits.width c.word-root.result (omega arith)),
      Lengths.place_room g.met.L.Layout.figures.bits low _ _ _ _ _ _ _,
    )

pub commit-requires-2 : goal.commit-requires-2
commit-requires-2 g c =
    let low : c.of_root-tree.result.height ≤ (layout_of g.L.Layout.kind).height = height_low c.word-root.result g.met.L.Layout.figures.bits (Lengths.low c.requires.0 c.root_address-at.ensures c.word-s.ensures c.word-root.ensures c.if-s-eq0.false) (ap (λ (t : Tree). t.height) c.of_root-tree.ensures) in
    Lengths.place_behind c.clear_in_place-q.ensures (Lengths.place_room g.met.L.Layout.figures.bits low _ _ _ _ _ _ _)
