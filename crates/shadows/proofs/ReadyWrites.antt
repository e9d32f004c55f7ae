-- A write that is ready to be planned: how many blocks it takes at most, and where their pairs stand.
use mathlib.Core.Path.{◌≡◌}
use mathlib.Core.List.{List}
use Prim.Native.Nat.{ℕ, ◌+◌, ◌*◌, ◌%◌, ◌^◌, ◌≤◌, ◌<◌}
use native.Mathlib.Omega.{arith}
use native.Mathlib.Nat.{mul-add, mul-le-mul, mul-le-mul_left}
use lib.ListN.{length}
use lib.Pow.{pow_pos}
use Rattle.model.specs.declared.Inode.{Inode}
use Rattle.model.specs.Layout.{Kind}
use Rattle.model.specs.Layout.{Layout, layout_of}
use Rattle.model.specs.Tree.{span}
use Rattle.model.specs.Board.{greatest}
use Rattle.model.specs.Fresh.{fresh_need, build}
use Rattle.model.proofs.Spans.{span_mono}
use Rattle.model.proofs.Paths.{touched_new, fresh_pos}
use Rattle.model.proofs.Built.{length_build}
use Rattle.words.proofs.Widths as Widths
use Rattle.kinds.specs.Figures.{Bits}
use Rattle.kinds.proofs.Figures.{words_pos, small_sizes, height_low, reach}
use Rattle.trees.specs.Trees.{Reach}
use Rattle.trees.proofs.Reaching.{two}
use Rattle.plans.specs.declared.Grown.{Grown}
use Rattle.plans.specs.Onto.{taking, Pointers}
use Rattle.taking.specs.Taking.{Took, whole}
use Rattle.taking.proofs.Room.{fresh_most}
use Rattle.taking.proofs.WholeTrees.{whole_small}
use Rattle.shadows.specs.Planning.{Ready}

-- a tree of a kind's height has fewer blocks than the greatest file has bytes
pub whole_few : {k : Kind} {r h : ℕ} → Bits k r → h ≤ (layout_of k).height → whole (2 ^ r) h ≤ 2 ^ 21
unfolding greatest
whole_few {k} {r} {h} b l =
    let g : Layout = layout_of k in
    let top : span g.words g.height ≤ 2 ^ 21 = small_sizes k in
    omega (arith, whole_small (2 ^ r) (two (reach k b l)) h, rw b.is at (span_mono g.words (words_pos k) h g.height l), rw b.is at top)

-- the height of the file's tree
pub root_height_law : {kind : Kind} {bits : ℕ} {n : Inode} {o : ℕ} {new pages : List ℕ} {base t h : ℕ} → Ready kind bits n o new pages base t
    → 0 < n.size → h ≡ n.root % 2 ^ bits → h ≤ (layout_of kind).height
root_height_law {n = n} ready live e = height_low n.root ready.pages.wide (ready.height live) e

-- the same write, its offset said another way
pub ready_at : {kind : Kind} {bits : ℕ} {n : Inode} {o o' : ℕ} {new pages : List ℕ} {base t : ℕ} → o ≡ o' → Ready kind bits n o new pages base t
    → Ready kind bits n o' new pages base t
ready_at e ready = rw e at ready

-- a tree takes at least one block, and so few that the place after their pairs is small
pub record Some (bits base t t' : ℕ) : Type 0 where
  pub low : t < t'
  pub place : base + 2 ^ bits * t' ≤ 2 ^ 31

-- those of a tree of height h
module _ {kind : Kind} {bits : ℕ} {n : Inode} {o : ℕ} {new pages : List ℕ} {base t : ℕ} (ready : Ready kind bits n o new pages base t)
    {h : ℕ} (l : h ≤ (layout_of kind).height) where
  abbrev W : ℕ
  W = 2 ^ bits

  -- the place after m of them
  pub place_after : {m : ℕ} → m ≤ whole W h → base + W * (t + m) ≤ 2 ^ 31
  place_after {m} few =
      let most : m ≤ 2 ^ 21 = omega (arith, whole_few ready.pages.wide l) in
      omega (arith, mul-add W t m, mul-le-mul (Widths.most ready.pages.wide.width) most, ready.place)

  -- what is asked where m are taken
  pub may_take : {m : ℕ} → m ≤ whole W h → Reach bits h × (W * h ≤ length pages) × (base + W * (t + m) ≤ 2 ^ 32)
  may_take few = (reach kind ready.pages.wide l, omega (arith, mul-le-mul_left W l, ready.pages.room), omega (arith, place_after few))

  -- what `build` asks
  pub may_build : (c : List ℕ) (k m o' : ℕ) → Reach bits h × (W * h ≤ length pages) × (base + W * (t + fresh_need W c h k m o' (length new)) ≤ 2 ^ 32)
  may_build c k m o' = may_take (fresh_most W c h k m o' (length new))

  pub some_built : {free plan plan' : List ℕ} {t' : ℕ} (c : List ℕ) (k m o' : ℕ) → Took W free plan base t (build W (taking free) c h k m o' new t) plan' t' → Some bits base t t'
  some_built {free = free} {t' = t'} c k m o' took =
      let e : t' ≡ t + fresh_need W c h k m o' (length new) = omega (arith, took.next, length_build W (pow_pos bits) c (taking free) h k m o' new t) in
      record {
        low = omega (arith, e, fresh_pos W c h k m o' (length new) (touched_new W h k m o' (length new) ready.some));
        place = rw e (place_after (fresh_most W c h k m o' (length new)));
      }
