use native.Mathlib.Omega.{arith}
use Rattle.trees.proofs.Reaching.{shift_small, height_small, shifted}
use Rattle.trees.proofs.span.Goals as goal

pub overflow_add-result : goal.overflow_add-result
overflow_add-result g c = omega (arith, height_small c.requires)

pub overflow_mul-result : goal.overflow_mul-result
overflow_mul-result g c = rw c.BITS.ensures (omega (arith, shift_small c.requires))

pub overflow_shl-result : goal.overflow_shl-result
overflow_shl-result g c = rw c.BITS.ensures (omega (arith, shift_small c.requires))

pub returns : goal.returns
returns g c = rw c.BITS.ensures (shifted c.requires)
