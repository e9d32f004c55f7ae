use mathlib.Core.Path.{◌≡◌, refl, ap}
use mathlib.Core.List.{List}
use Prim.Native.Nat.{ℕ, ◌+◌, ◌*◌, ◌/◌, ◌%◌, ◌^◌, ◌≤◌, ◌<◌}
use native.Mathlib.Omega.{arith}
use native.Mathlib.Nat.{mul-add, mul-one}
use Rattle.model.specs.declared.Inode.{Inode}
use Rattle.model.specs.Layout.{Kind}
use Rattle.model.specs.Layout.{layout_of}
use Rattle.model.specs.Fresh.{build}
use Rattle.words.specs.Width.{Width}
use Rattle.words.proofs.Widths as Widths
use Rattle.kinds.proofs.Figures.{low_height, small_sizes}
use Rattle.trees.specs.declared.Tree.{Tree}
use Rattle.plans.specs.declared.Grown.{Grown}
use Rattle.plans.specs.Onto.{taking, onto}
use Rattle.taking.specs.Taking.{Took}
use Rattle.shadows.specs.Planning.{Ready}
use Rattle.shadows.proofs.ReadyWrites as ReadyWrites
use Rattle.shadows.proofs.Shadows as Shadows
use Rattle.shadows.proofs.shadow_with_length.Goals as goal

-- The pages of the tree and of the leaf's copy are laid; the commit is the pointer to that copy.

-- the blocks that the file's tree takes
some : {kind : Kind} {bits : ℕ} {n : Inode} {o : ℕ} {new pages : List ℕ} {base t : ℕ} → Ready kind bits n o new pages base t → 0 < n.size
    → {u : Tree} → u ≡ record { height = n.root % 2 ^ bits; block = n.root / 2 ^ bits; left = n.size } → (c : List ℕ) {free plan plan' : List ℕ} {t' : ℕ}
    → Took (2 ^ bits) free plan base t (build (2 ^ bits) (taking free) c u.height u.block u.left o new t) plan' t' → ReadyWrites.Some bits base t t'
some {o = o} ready live {u} e c took = ReadyWrites.some_built ready (ReadyWrites.root_height_law ready live (ap (λ (t : Tree). t.height) e)) c u.block u.left o took

-- the place after the leaf's pairs
behind : {bits base t t' all : ℕ} → Width bits → ReadyWrites.Some bits base t t' → all ≡ t' + 1 → base + 2 ^ bits * all ≤ 2 ^ 32
behind {bits} {t' = t'} wide s e = rw e (omega (arith, s.place, mul-add (2 ^ bits) t' 1, mul-one (2 ^ bits), Widths.most wide))

pub returns : goal.returns
returns g c = let a = c.args in
    Shadows.with_length_laid (layout_of g.L.Layout.kind) c.requires.1.pages.wide.is (onto (2 ^ g.L.BlockSize.BITS) a.view.now.free.now a.view.now.board.now a.view.now.grown) a.target.inode c.place-from.ensures c.place-end.ensures a.target.offset a.new.now
    c.of_root-tree.ensures c.build-taken.ensures c.pointer.ensures.is c.max.ensures
    c.take_leaf-all.ensures c.pointer-value.ensures.is c.commit-pairs.ensures

pub overflow_add-e : goal.overflow_add-e
overflow_add-e g c = omega (arith, c.requires.1.end, small_sizes g.L.Layout.kind)

pub build-taken-requires : goal.build-taken-requires
build-taken-requires g c = let a = c.args in
    let u = c.of_root-tree.result in
    ReadyWrites.may_build c.requires.1 (ReadyWrites.root_height_law c.requires.1 c.requires.0 (ap (λ (t : Tree). t.height) c.of_root-tree.ensures)) (onto (2 ^ g.L.BlockSize.BITS) a.view.now.free.now a.view.now.board.now a.view.now.grown) u.block u.left a.target.offset

pub overflow_sub-taken : goal.overflow_sub-taken
overflow_sub-taken g c = omega (arith, (some c.requires.1 c.requires.0 c.of_root-tree.ensures _ c.build-taken.ensures).low)

pub take_leaf-all-requires : goal.take_leaf-all-requires
take_leaf-all-requires g c = (behind c.requires.1.pages.wide.width (some c.requires.1 c.requires.0 c.of_root-tree.ensures _ c.build-taken.ensures) refl)

pub place-end-requires : goal.place-end-requires
place-end-requires g c = behind c.requires.1.pages.wide.width (some c.requires.1 c.requires.0 c.of_root-tree.ensures _ c.build-taken.ensures) c.take_leaf-all.ensures.next

pub commit-pairs-requires : goal.commit-pairs-requires
commit-pairs-requires g c = omega (arith, c.place-end.ensures, behind c.requires.1.pages.wide.width (some c.requires.1 c.requires.0 c.of_root-tree.ensures _ c.build-taken.ensures) c.take_leaf-all.ensures.next)
