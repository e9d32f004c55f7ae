use mathlib.Core.Path.{◌≡◌}
use mathlib.Core.List.{List}
use Prim.Native.Nat.{ℕ, ◌+◌, ◌^◌, ◌≤◌}
use native.Mathlib.Omega.{arith}
use lib.ListN.{length}
use lib.Pow.{pow_pos}
use Rattle.model.specs.declared.Inode.{Inode}
use Rattle.model.specs.Layout.{Kind}
use Rattle.model.specs.Layout.{layout_of}
use Rattle.model.specs.Tree.{least}
use Rattle.model.specs.Fresh.{build}
use Rattle.model.proofs.Spans.{least_within}
use Rattle.kinds.proofs.Figures.{words_pos, low_height, small_sizes}
use Rattle.plans.specs.declared.Grown.{Grown}
use Rattle.plans.specs.Onto.{taking, onto}
use Rattle.taking.specs.Taking.{Took}
use Rattle.shadows.specs.Planning.{Ready}
use Rattle.shadows.proofs.ReadyWrites as ReadyWrites
use Rattle.ways.proofs.Ways as Ways
use Rattle.ways.proofs.fill_empty.Goals as goal

-- The tree's pages are laid, then the store of its root word; the size is the commit.

-- the height of the tree
low : (kind : Kind) (e : ℕ) {h : ℕ} → h ≡ least (layout_of kind).words (layout_of kind).height e → h ≤ (layout_of kind).height
low kind e eh = omega (arith, eh, least_within (layout_of kind).words (words_pos kind) (layout_of kind).height e)

-- the blocks that it takes
some : {kind : Kind} {bits : ℕ} {n : Inode} {o : ℕ} {new pages : List ℕ} {base t : ℕ} → Ready kind bits n o new pages base t → {h : ℕ} → h ≡ least (layout_of kind).words (layout_of kind).height (o + length new)
    → (c : List ℕ) {free plan plan' : List ℕ} {t' : ℕ} → Took (2 ^ bits) free plan base t (build (2 ^ bits) (taking free) c h 0 0 o new t) plan' t' → ReadyWrites.Some bits base t t'
some {kind} {o = o} {new = new} ready eh c took = ReadyWrites.some_built ready (low kind (o + length new) eh) c 0 0 o took

pub returns : goal.returns
returns g c = let a = c.args in
    Ways.empty_laid (layout_of g.L.Layout.kind) c.requires.pages.wide.is (onto (2 ^ g.L.BlockSize.BITS) a.view.now.free.now a.view.now.board.now a.view.now.grown) a.target.inode c.place-from.ensures c.place-q.ensures (pow_pos g.L.BlockSize.BITS) a.target.offset a.new.now
    c.least_height-h.ensures c.build-taken.ensures c.pointer.ensures.is c.pair.ensures c.commit-pairs.ensures

pub overflow_add-e : goal.overflow_add-e
overflow_add-e g c = omega (arith, c.requires.end, small_sizes g.L.Layout.kind)

pub build-taken-requires : goal.build-taken-requires
build-taken-requires g c = let a = c.args in ReadyWrites.may_build c.requires (low g.L.Layout.kind _ c.least_height-h.ensures) (onto (2 ^ g.L.BlockSize.BITS) a.view.now.free.now a.view.now.board.now a.view.now.grown) 0 0 a.target.offset

pub place-q-requires : goal.place-q-requires
place-q-requires g c = omega (arith, (some c.requires c.least_height-h.ensures _ c.build-taken.ensures).place)

pub overflow_sub-taken : goal.overflow_sub-taken
overflow_sub-taken g c = omega (arith, (some c.requires c.least_height-h.ensures _ c.build-taken.ensures).low)

pub overflow_add-root : goal.overflow_add-root
overflow_add-root g c = omega (arith, c.pointer.ensures.small, low_height g.L.Layout.kind c.least_height-h.result (low g.L.Layout.kind _ c.least_height-h.ensures))

pub overflow_add-q : goal.overflow_add-q
overflow_add-q g c = omega (arith, c.place-q.ensures, (some c.requires c.least_height-h.ensures _ c.build-taken.ensures).place)

pub commit-pairs-requires : goal.commit-pairs-requires
commit-pairs-requires g c = omega (arith, c.place-q.ensures, (some c.requires c.least_height-h.ensures _ c.build-taken.ensures).place)
