use Rattle.std.proofs.Common.{take}
use Rattle.text.specs.Wrote.{Wrote}
use Rattle.text.proofs.Text.push_str.Given as goal

abbrev pub invariant-loop-b : goal.invariant-loop-b
invariant-loop-b l = Wrote l.b-index (take l.b-index l.b-items) l.initial.self l.self
