use mathlib.Core.Path.{◌≡◌, refl, sym, ◌∙◌}
use mathlib.Core.Bool.{Bool, ◌&&◌}
use mathlib.Core.List.{List}
use Prim.Native.Nat.{ℕ, ◌/◌, ◌%◌, ◌^◌}
use native.Mathlib.Omega.{arith}
use lib.Dec.{eqb}
use borrow.Author.Tests.{eqb-true}
use Rattle.model.specs.Layout.{Kind}
use Rattle.model.specs.Layout.{layout_of}
use Rattle.model.specs.InPlace.{at_block, walk_live}
use Rattle.model.proofs.Cases.{true_left}
use Rattle.kinds.specs.Figures.{Bits}
use Rattle.kinds.proofs.Figures.{reach, small_sizes}
use Rattle.plans.specs.Onto.{onto}
use Rattle.shadows.proofs.ReadyWrites as ReadyWrites
use Rattle.ways.proofs.Ways as Ways
use Rattle.ways.proofs.way.Goals as goal

-- By the size, by whether the write is a tail, and by where it ends: each way is the definition's.

-- the test by the layout's words
tested : {kind : Kind} {bits : ℕ} {r : Bool} → Bits kind bits → (c : List ℕ) (root o size : ℕ) → r ≡ (eqb o size && at_block (walk_live (2 ^ bits) c (root % 2 ^ bits) (root / 2 ^ bits) size))
    → let W = (layout_of kind).words in r ≡ (eqb o size && at_block (walk_live W c (root % W) (root / W) size))
tested wide c root o size e = rw wide.is e

-- the file is empty
pub returns-then-s-eq0 : goal.returns-then-s-eq0
returns-then-s-eq0 g c = let a = c.args in
    Ways.same_plan (Ways.chosen_empty (layout_of g.L.Layout.kind) (onto (2 ^ g.L.BlockSize.BITS) a.view.now.free.now a.view.now.board.now a.view.now.grown) a.target.inode a.target.offset a.new.now a.view.now.free.now a.view.now.grown.levels c.if-s-eq0.true) c.fill_empty.ensures

pub returns-then-is_tail : goal.returns-then-is_tail
returns-then-is_tail g c = let a = c.args in
    Ways.same_plan (Ways.chosen_tail (layout_of g.L.Layout.kind) (onto (2 ^ g.L.BlockSize.BITS) a.view.now.free.now a.view.now.board.now a.view.now.grown) a.target.inode a.target.offset a.new.now a.view.now.free.now a.view.now.grown.levels c.if-s-eq0.false (tested c.requires.pages.wide _ _ _ _ c.is_tail.ensures) (eqb-true _ _ (true_left _ _ (sym c.is_tail.ensures ∙ c.if-is_tail.true))) c.if-is_tail.true) c.append.ensures

pub returns-then-o-new : goal.returns-then-o-new
returns-then-o-new g c = let a = c.args in
    Ways.same_plan (Ways.chosen_inside (layout_of g.L.Layout.kind) (onto (2 ^ g.L.BlockSize.BITS) a.view.now.free.now a.view.now.board.now a.view.now.grown) a.target.inode a.target.offset a.new.now a.view.now.free.now a.view.now.grown.levels c.if-s-eq0.false (tested c.requires.pages.wide _ _ _ _ c.is_tail.ensures) c.if-is_tail.false c.if-o-new.true) c.shadow_inside.ensures

pub returns : goal.returns
returns g c = let a = c.args in
    Ways.same_plan (Ways.chosen_past (layout_of g.L.Layout.kind) (onto (2 ^ g.L.BlockSize.BITS) a.view.now.free.now a.view.now.board.now a.view.now.grown) a.target.inode a.target.offset a.new.now a.view.now.free.now a.view.now.grown.levels c.if-s-eq0.false (tested c.requires.pages.wide _ _ _ _ c.is_tail.ensures) c.if-is_tail.false c.if-o-new.false) c.shadow_with_length.ensures

pub is_tail-requires : goal.is_tail-requires
is_tail-requires g c = reach g.L.Layout.kind c.requires.pages.wide (ReadyWrites.root_height_law c.requires (omega arith) refl)

pub overflow_add-o : goal.overflow_add-o
overflow_add-o g c = omega (arith, c.requires.end, small_sizes g.L.Layout.kind)
