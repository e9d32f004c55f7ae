use Rattle.std.proofs.Common.{arith}
use Rattle.std.proofs.lemmas.Bool.Decides.{nat_tests}
use Rattle.model.proofs.Paths.{touched_new, untouched_within, untouched_null, untouched_dead, touched_span}
use Rattle.taking.proofs.touched.Goals as goal

pub returns-then-l-ne0 : goal.returns-then-l-ne0
returns-then-l-ne0 g c = grind (arith, nat_tests, touched_new)

pub returns-then-n-ne0 : goal.returns-then-n-ne0
returns-then-n-ne0 g c = grind (arith, nat_tests, touched_span)

pub returns-else-n-ne0 : goal.returns-else-n-ne0
returns-else-n-ne0 g c = grind (arith, nat_tests, untouched_within, untouched_null, untouched_dead)
