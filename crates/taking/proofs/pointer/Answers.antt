use mathlib.Core.Path.{◌≡◌}
use mathlib.Core.List.{List}
use Prim.Native.Nat.{ℕ, ◌+◌, ◌*◌, ◌^◌, ◌≤◌}
use native.Mathlib.Omega.{arith}
use lib.ListN.{get_or}
use borrow.Author.Rules.{rules}
use Rattle.words.specs.Width.{Width}
use Rattle.words.proofs.Widths as Widths
use Rattle.plans.specs.Onto.{taking, Blocks}
use Rattle.taking.proofs.Taken as Taken
use Rattle.taking.proofs.pointer.Goals as goal

-- the words of the block have addresses
address : {b k : ℕ} (i : ℕ) {free : List ℕ} → Width b → Blocks free → k ≡ get_or free i 0 → 2 ^ b * k + 512 ≤ 2 ^ 63
address i w blocks e = Widths.address w (Taken.block_small i blocks e)

pub returns : goal.returns
unfolding taking
returns g c = record { is = rw (c.start_of.ensures, c.word.ensures); small = rw c.start_of.ensures (address c.args.i g.B.BlockSize.width c.requires c.word.ensures) }

pub start_of-requires : goal.start_of-requires
start_of-requires g c = omega (arith, address c.args.i g.B.BlockSize.width c.requires c.word.ensures)
