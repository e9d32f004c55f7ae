use mathlib.Core.Path.{◌≡◌, refl, ◌∙◌}
use Prim.Native.Nat.{ℕ, ◌-◌, ◌/◌, ◌%◌, ◌^◌}
use native.Mathlib.Omega.{arith}
use borrow.Author.Rules.{rules}
use Rattle.model.specs.Change.{level_below}
use Rattle.words.proofs.Widths as Widths
use Rattle.plans.specs.Onto.{taking}
use Rattle.growing.proofs.Growth.{root_room, null_root, top_root}
use Rattle.growing.proofs.grown_root.Goals as goal

pub returns-then-k-eq0 : goal.returns-then-k-eq0
returns-then-k-eq0 g c = let a = c.args in null_root (2 ^ g.B.BlockSize.BITS) (taking a.free.now) (a.root / 2 ^ g.B.BlockSize.BITS) (a.h - a.root % 2 ^ g.B.BlockSize.BITS) a.h
    (rw c.block_of-k.ensures at c.if-k-eq0.true)

-- the level on top, by the root word
top : (W h r : ℕ) {k m v : ℕ} (fresh : ℕ → ℕ) → k ≡ r / W → m ≡ r % W → v ≡ level_below fresh k (h - m) → v ≡ level_below fresh (r / W) (h - r % W)
top W h r fresh ek em e = rw (ek, em) at e

pub returns : goal.returns
returns g c = let a = c.args in
    top_root (2 ^ g.B.BlockSize.BITS) (taking a.free.now) (a.root / 2 ^ g.B.BlockSize.BITS) (a.h - a.root % 2 ^ g.B.BlockSize.BITS) a.h
    (λ e. c.if-k-eq0.false (c.block_of-k.ensures ∙ e)) (top (2 ^ g.B.BlockSize.BITS) a.h a.root (taking a.free.now) c.block_of-k.ensures c.low_of.ensures c.level_below-top.ensures) c.start_of.ensures

pub start_of-requires : goal.start_of-requires
start_of-requires g c = let a = c.args in
    let e = top (2 ^ g.B.BlockSize.BITS) a.h a.root (taking a.free.now) c.block_of-k.ensures c.low_of.ensures c.level_below-top.ensures in
    (omega (arith, root_room {r = a.root} (Widths.most g.B.BlockSize.width) c.requires.0 (omega arith) c.requires.2 (a.h - a.root % 2 ^ g.B.BlockSize.BITS) refl c.requires.1 e))

pub overflow_add-result : goal.overflow_add-result
overflow_add-result g c = let a = c.args in
    let e = top (2 ^ g.B.BlockSize.BITS) a.h a.root (taking a.free.now) c.block_of-k.ensures c.low_of.ensures c.level_below-top.ensures in
    omega (arith, root_room {r = a.root} (Widths.most g.B.BlockSize.width) c.requires.0 (omega arith) c.requires.2 (a.h - a.root % 2 ^ g.B.BlockSize.BITS) refl c.requires.1 e, c.start_of.ensures)
