use mathlib.Core.Path.{◌≡◌, ◌∙◌}
use Prim.Native.Nat.{ℕ, ◌/◌, ◌%◌}
use native.Mathlib.Omega.{arith}
use borrow.Author.Tests.{eq-eqb, ne_eqb, lt-ltb, le-ltb}
use Rattle.model.specs.Layout.{layout_of}
use Rattle.model.specs.Board.{inode_block, in_range, trailer_sound}
use Rattle.boards.proofs.trailer_sound.Goals as goal

-- the low bits of the inode root, and its block
low : (W : ℕ) {p q k : ℕ} → p ≡ q → k ≡ p % W → k ≡ q % W
low W e h = h ∙ rw e

block : (W : ℕ) {p q k : ℕ} → p ≡ q → k ≡ p / W → k ≡ q / W
block W e h = h ∙ rw e

pub returns-then-low_in-ne1 : goal.returns-then-low_in-ne1
unfolding trailer_sound
returns-then-low_in-ne1 g c = rw (← low (layout_of g.L.Layout.kind).words c.trailer-p.ensures c.low_in.ensures, ne_eqb c.low_in.result 1 c.if-low_in-ne1.true)

pub returns-then-k-eq0 : goal.returns-then-k-eq0
unfolding trailer_sound in_range inode_block
returns-then-k-eq0 g c = rw (← low (layout_of g.L.Layout.kind).words c.trailer-p.ensures c.low_in.ensures, ← block (layout_of g.L.Layout.kind).words c.trailer-p.ensures c.block_in-k.ensures, eq-eqb c.low_in.result 1 c.if-low_in-ne1.false, c.if-k-eq0.true)

pub returns-then-last-k : goal.returns-then-last-k
unfolding trailer_sound in_range inode_block
returns-then-last-k g c = let t = c.last in rw (← low (layout_of g.L.Layout.kind).words c.trailer-p.ensures c.low_in.ensures, ← block (layout_of g.L.Layout.kind).words c.trailer-p.ensures c.block_in-k.ensures, ← t.ensures, eq-eqb c.low_in.result 1 c.if-low_in-ne1.false, lt-ltb 0 c.block_in-k.result (omega arith), le-ltb c.block_in-k.result t.result c.if-last-k.true)

pub returns : goal.returns
unfolding trailer_sound in_range inode_block
returns g c = let t = c.last in c.trailer_words_sound.ensures
    ∙ rw (← low (layout_of g.L.Layout.kind).words c.trailer-p.ensures c.low_in.ensures, ← block (layout_of g.L.Layout.kind).words c.trailer-p.ensures c.block_in-k.ensures, ← t.ensures, eq-eqb c.low_in.result 1 c.if-low_in-ne1.false, lt-ltb 0 c.block_in-k.result (omega arith), lt-ltb c.block_in-k.result t.result c.if-last-k.false)
