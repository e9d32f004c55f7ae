use Rattle.std.specs.Prelude.{Option}
use mathlib.Core.Path.{◌≡◌}
use mathlib.Core.Bool.{and-false}
use mathlib.Core.List.{List}
use Prim.Native.Nat.{ℕ, ◌/◌, ◌%◌, ◌^◌}
use native.Mathlib.Omega.{arith}
use borrow.Author.Tests.{eq-eqb, ne_eqb}
use Rattle.model.specs.InPlace.{at_block, walk_live}
use Rattle.plans.specs.Onto.{onto}
use Rattle.ways.proofs.is_tail.Goals as goal

-- what the walk tells, by the root's bits
told : (W : ℕ) (b : List ℕ) (r n : ℕ) {h k : ℕ} {u v : Option ℕ} → h ≡ r % W → k ≡ r / W → u ≡ walk_live W b h k n → u ≡ v → at_block v ≡ at_block (walk_live W b (r % W) (r / W) n)
told W b r n eh ek eu ev = rw (← eh, ← ek, ← eu, ev)

pub returns-then-o-s : goal.returns-then-o-s
returns-then-o-s g c = let a = c.args in rw (ne_eqb a.target.offset a.target.inode.size (λ e. omega (arith, e)))

pub returns-in_default : goal.returns-in_default
unfolding at_block
returns-in_default g c = let a = c.args in
    let e = told (2 ^ g.L.BlockSize.BITS) (onto (2 ^ g.L.BlockSize.BITS) a.view.now.free.now a.view.now.board.now a.view.now.grown) a.target.inode.root a.target.inode.size c.low_of-h.ensures c.block_of-k.ensures c.walk_live.ensures c.in_default.is in
    rw (← e, and-false)

pub returns : goal.returns
unfolding at_block
returns g c = let a = c.args in
    let e = told (2 ^ g.L.BlockSize.BITS) (onto (2 ^ g.L.BlockSize.BITS) a.view.now.free.now a.view.now.board.now a.view.now.grown) a.target.inode.root a.target.inode.size c.low_of-h.ensures c.block_of-k.ensures c.walk_live.ensures c.in-Some.is in
    rw (eq-eqb a.target.offset a.target.inode.size (omega arith), ← e)
