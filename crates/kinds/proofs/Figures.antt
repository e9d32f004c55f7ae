-- What every kind's figures have in common.
use mathlib.Core.Path.{◌≡◌, refl}
use Prim.Native.Nat.{ℕ, ◌+◌, ◌*◌, ◌/◌, ◌%◌, ◌^◌, ◌≤◌, ◌<◌}
use native.Mathlib.Omega.{arith}
use Rattle.model.specs.Layout.{Kind}
use Rattle.model.specs.Layout.{House, Published}
use Rattle.model.specs.Layout.{layout_of, files}
use Rattle.model.specs.Tree.{span}
use Rattle.model.specs.Board.{greatest}
use Rattle.model.proofs.Spans.{span_mono}
use Rattle.model.proofs.Formatted.{fits}
use Rattle.trees.specs.Trees.{Reach}
use Rattle.kinds.specs.Figures.{Bits}

-- a block has words
pub words_pos : (k : Kind) → 0 < (layout_of k).words
words_pos k = omega (arith, (fits k).trailer_fits)

-- at most 512
pub few_words : (k : Kind) → (layout_of k).words ≤ 512
few_words House = omega arith
few_words Published = omega arith

-- the words of the block that a word points to have addresses
pub block_room : (k : Kind) (v : ℕ) → v < 2 ^ 64 → (layout_of k).words * (v / (layout_of k).words) + (layout_of k).words ≤ 2 ^ 64
block_room House v l = omega arith
block_room Published v l = omega arith

-- 1,024 marks are enough for every board
pub few_blocks : (k : Kind) → (layout_of k).most ≤ 1024
few_blocks House = omega arith
few_blocks Published = omega arith

-- there are 32 files
pub files_32 : (k : Kind) → files (layout_of k) ≡ 32
unfolding files
files_32 House = refl
files_32 Published = refl

-- a height that a root may have is at most 3
pub low_height : (k : Kind) (h : ℕ) → h ≤ (layout_of k).height → h ≤ 3
low_height House h l = l
low_height Published h l = omega arith

-- sizes are at most 512 blocks of 512 words
pub small_sizes : (k : Kind) → greatest (layout_of k) ≤ 2097152
unfolding greatest span
small_sizes House = omega arith
small_sizes Published = omega arith

-- the span of every height that a root may have can be computed
spans : (k : Kind) (h : ℕ) → h ≤ (layout_of k).height → span (layout_of k).words h ≤ 134217728
unfolding greatest
spans k h l = omega (arith, span_mono (layout_of k).words (words_pos k) h (layout_of k).height l, small_sizes k)

-- its tree is one that code can compute with
pub reach : (k : Kind) {r h : ℕ} → Bits k r → h ≤ (layout_of k).height → Reach r h
reach k {r} {h} b l = record { width = b.width; spans = rw b.is at (spans k h l) }

-- the height in a root word x, by the width
pub height_low : {k : Kind} {r h : ℕ} (x : ℕ) → Bits k r → x % (layout_of k).words ≤ (layout_of k).height → h ≡ x % 2 ^ r → h ≤ (layout_of k).height
height_low x b l e = rw (e, ← b.is) l
