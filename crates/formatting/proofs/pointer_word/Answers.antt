use mathlib.Core.Path.{◌∙◌}
use native.Mathlib.Omega.{arith}
use Rattle.model.specs.Layout.{layout_of}
use Rattle.formatting.proofs.Formatting.{few_leaves, pointer_room, word_some, word_none}
use Rattle.formatting.proofs.pointer_word.Goals as goal

pub overflow_add-j : goal.overflow_add-j
overflow_add-j g c = omega (arith, c.LEAVES.ensures, g.met.L.Layout.figures.leaves, few_leaves g.L.Layout.kind)

pub start_in-requires : goal.start_in-requires
start_in-requires g c = let a = c.args in pointer_room g.L.Layout.kind a.j (omega (arith, c.LEAVES.ensures, g.met.L.Layout.figures.leaves, c.if-j-LEAVES.true))

pub returns-then-j-LEAVES : goal.returns-then-j-LEAVES
returns-then-j-LEAVES g c = word_some (layout_of g.L.Layout.kind) (c.LEAVES.ensures ∙ g.met.L.Layout.figures.leaves) c.if-j-LEAVES.true c.start_in.ensures

pub returns : goal.returns
returns g c = word_none (layout_of g.L.Layout.kind) (c.LEAVES.ensures ∙ g.met.L.Layout.figures.leaves) c.if-j-LEAVES.false
