use mathlib.Core.Path.{◌≡◌, ap}
use mathlib.Core.List.{List}
use Prim.Native.Nat.{ℕ, ◌/◌, ◌%◌, ◌^◌, ◌≤◌, ◌<◌}
use native.Mathlib.Omega.{arith}
use native.Mathlib.Nat.{mod-lt}
use lib.Pow.{pow_pos}
use Rattle.model.specs.declared.Inode.{Inode}
use Rattle.model.specs.Layout.{Kind}
use Rattle.model.specs.Layout.{layout_of}
use Rattle.words.proofs.Widths as Widths
use Rattle.kinds.proofs.Figures.{reach, small_sizes}
use Rattle.trees.specs.declared.Tree.{Tree}
use Rattle.model.specs.Fresh.{build}
use Rattle.plans.specs.declared.Grown.{Grown}
use Rattle.plans.specs.Onto.{taking, onto}
use Rattle.taking.specs.Taking.{Took}
use Rattle.shadows.specs.declared.Spot.{Spot}
use Rattle.shadows.specs.Planning.{Ready, Descended}
use Rattle.shadows.proofs.ReadyWrites as ReadyWrites
use Rattle.shadows.proofs.Shadows as Shadows
use Rattle.shadows.proofs.shadow_inside.Goals as goal

-- The pages of the tree where the descent ends are laid; the commit is the pointer to it, with the low bits of the word that stood there.

module _ {kind : Kind} {bits : ℕ} {n : Inode} {o : ℕ} {new pages : List ℕ} {base t : ℕ} (ready : Ready kind bits n o new pages base t) (live : 0 < n.size)
    {c : List ℕ} {u : Tree} {spot : Spot} (e : u ≡ record { height = n.root % 2 ^ bits; block = n.root / 2 ^ bits; left = n.size })
    (d : Descended (2 ^ bits) c u.height u.block u.left o new n.at spot) where
  -- the height of the tree where the descent ends
  low : spot.tree.height ≤ (layout_of kind).height
  low = omega (arith, d.low, ReadyWrites.root_height_law ready live (ap (λ (t : Tree). t.height) e))

  -- the blocks that it takes
  some : {free plan plan' : List ℕ} {t' : ℕ} → Took (2 ^ bits) free plan base t (build (2 ^ bits) (taking free) c spot.tree.height spot.tree.block spot.tree.left spot.offset new t) plan' t' → ReadyWrites.Some bits base t t'
  some took = ReadyWrites.some_built ready low c spot.tree.block spot.tree.left spot.offset took

pub returns : goal.returns
returns g c = let a = c.args in
    Shadows.inside_laid (layout_of g.L.Layout.kind) c.requires.1.pages.wide.is (onto (2 ^ g.L.BlockSize.BITS) a.view.now.free.now a.view.now.board.now a.view.now.grown) a.target.inode c.place-from.ensures c.place-end.ensures c.of_root.ensures
    c.descend-spot.ensures c.build-taken.ensures c.word.ensures c.low_of-low.ensures c.pointer.ensures.is c.commit-pairs.ensures

pub descend-spot-requires : goal.descend-spot-requires
descend-spot-requires g c = let a = c.args in let r = c.requires.1 in (
  reach g.L.Layout.kind r.pages.wide (ReadyWrites.root_height_law r c.requires.0 (ap (λ (t : Tree). t.height) c.of_root.ensures)),
  rw c.of_root.ensures (Widths.address_room r.pages.wide.width a.target.inode.root (omega arith)),
  rw c.of_root.ensures (omega (arith, r.some, rw r.pages.wide.is at (r.spans c.requires.0))),
  omega (arith, r.end, small_sizes g.L.Layout.kind),
)

pub build-taken-requires : goal.build-taken-requires
build-taken-requires g c = let a = c.args in let r = c.descend-spot.result in
    ReadyWrites.may_build c.requires.1 (low c.requires.1 c.requires.0 c.of_root.ensures c.descend-spot.ensures) (onto (2 ^ g.L.BlockSize.BITS) a.view.now.free.now a.view.now.board.now a.view.now.grown) r.tree.block r.tree.left r.offset

pub overflow_sub-taken : goal.overflow_sub-taken
overflow_sub-taken g c = omega (arith, (some c.requires.1 c.requires.0 c.of_root.ensures c.descend-spot.ensures c.build-taken.ensures).low)

pub place-end-requires : goal.place-end-requires
place-end-requires g c = omega (arith, (some c.requires.1 c.requires.0 c.of_root.ensures c.descend-spot.ensures c.build-taken.ensures).place)

pub commit-pairs-requires : goal.commit-pairs-requires
commit-pairs-requires g c = omega (arith, c.place-end.ensures, (some c.requires.1 c.requires.0 c.of_root.ensures c.descend-spot.ensures c.build-taken.ensures).place)
