use native.Mathlib.Omega.{arith}
use Rattle.std.proofs.lemmas.Grind.{common_steps}
use Rattle.taking.proofs.Splicing.{byte_new, byte_none, byte_old}
use Rattle.taking.proofs.spliced_byte.Goals as goal

pub returns-in-Some : goal.returns-in-Some
returns-in-Some c = grind (arith, common_steps, byte_new)

pub returns-then-at-n : goal.returns-then-at-n
returns-then-at-n c = grind (arith, common_steps, byte_old)

pub returns-else-at-n : goal.returns-else-at-n
returns-else-at-n c = grind (arith, common_steps, byte_none)
