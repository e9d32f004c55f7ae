use mathlib.Core.Path.{◌≡◌, ap}
use mathlib.Core.List.{List}
use Prim.Native.Nat.{ℕ, ◌+◌, ◌*◌, ◌/◌, ◌%◌, ◌^◌, ◌≤◌, ◌<◌}
use native.Mathlib.Omega.{arith}
use Rattle.model.specs.declared.Inode.{Inode}
use Rattle.model.specs.Layout.{Kind}
use Rattle.model.specs.Layout.{layout_of}
use Rattle.model.specs.InPlace.{tail_pages}
use Rattle.words.proofs.Widths as Widths
use Rattle.kinds.proofs.Figures.{small_sizes}
use Rattle.trees.specs.declared.Tree.{Tree}
use Rattle.plans.specs.declared.Grown.{Grown}
use Rattle.plans.specs.Onto.{taking, onto}
use Rattle.taking.specs.Taking.{Took}
use Rattle.tails.proofs.Padding.{padded_all}
use Rattle.shadows.specs.Planning.{Ready}
use Rattle.shadows.proofs.ReadyWrites as ReadyWrites
use Rattle.ways.proofs.Ways as Ways
use Rattle.ways.proofs.append.Goals as goal

-- The fresh pages are laid, then the stores in place; the size is the commit.

-- the place after the pages of a file's tree
place : {kind : Kind} {bits : ℕ} {n : Inode} {o : ℕ} {new pages : List ℕ} {base t : ℕ} → Ready kind bits n o new pages base t → 0 < n.size → {u : Tree} → u ≡ record { height = n.root % 2 ^ bits; block = n.root / 2 ^ bits; left = n.size }
    → (c : List ℕ) {free plan plan' : List ℕ} {t' : ℕ} → Took (2 ^ bits) free plan base t (tail_pages (2 ^ bits) c (taking free) u.height u.block u.left new t) plan' t' → base + 2 ^ bits * t' ≤ 2 ^ 31
place ready live {u} e c took = Ways.tail_place ready (ReadyWrites.root_height_law ready live (ap (λ (t : Tree). t.height) e)) c u.block u.left took

pub returns : goal.returns
returns g c = let a = c.args in
    Ways.tail_laid (layout_of g.L.Layout.kind) c.requires.1.pages.wide.is (onto (2 ^ g.L.BlockSize.BITS) a.view.now.free.now a.view.now.board.now a.view.now.grown) a.target.inode c.place-from.ensures c.place-p.ensures c.of_root-tree.ensures
    a.new.now c.requires.0 c.tail_pages-taken.ensures (rw (padded_all a.new.now) at c.in_place-q.ensures) c.commit-pairs.ensures

pub tail_pages-taken-requires : goal.tail_pages-taken-requires
tail_pages-taken-requires g c = Ways.may_tail c.requires.1 (ReadyWrites.root_height_law c.requires.1 c.requires.0 (ap (λ (t : Tree). t.height) c.of_root-tree.ensures)) c.of_root-tree.result.left

pub place-p-requires : goal.place-p-requires
place-p-requires g c = omega (arith, place c.requires.1 c.requires.0 c.of_root-tree.ensures _ c.tail_pages-taken.ensures)

pub in_place-q-requires : goal.in_place-q-requires
in_place-q-requires g c = let a = c.args in let n = a.target.inode in let u = c.of_root-tree.result in
    Ways.may_store c.requires.1 (ReadyWrites.root_height_law c.requires.1 c.requires.0 (ap (λ (t : Tree). t.height) c.of_root-tree.ensures)) (onto (2 ^ g.L.BlockSize.BITS) a.view.now.free.now a.view.now.board.now a.view.now.grown) a.view.now.free.now u.block u.left n.at c.place-p.result
    (rw c.of_root-tree.ensures (Widths.address_room c.requires.1.pages.wide.width n.root (omega arith))) (omega (arith, c.place-p.ensures, place c.requires.1 c.requires.0 c.of_root-tree.ensures _ c.tail_pages-taken.ensures))

pub overflow_add-s : goal.overflow_add-s
overflow_add-s g c = omega (arith, c.requires.1.end, small_sizes g.L.Layout.kind)

pub commit-pairs-requires : goal.commit-pairs-requires
commit-pairs-requires g c = let a = c.args in
    let small : c.place-p.result ≤ 2 ^ 31 = omega (arith, c.place-p.ensures, place c.requires.1 c.requires.0 c.of_root-tree.ensures _ c.tail_pages-taken.ensures) in
    let u = c.of_root-tree.result in
    Ways.store_place c.requires.1 (ReadyWrites.root_height_law c.requires.1 c.requires.0 (ap (λ (t : Tree). t.height) c.of_root-tree.ensures)) (onto (2 ^ g.L.BlockSize.BITS) a.view.now.free.now a.view.now.board.now a.view.now.grown) a.view.now.free.now u.block u.left a.target.inode.at small (rw (padded_all a.new.now) at c.in_place-q.ensures)
