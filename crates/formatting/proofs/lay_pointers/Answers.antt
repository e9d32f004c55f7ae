use mathlib.Core.Path.{◌≡◌}
use native.Mathlib.Omega.{arith}
use Rattle.model.specs.Layout.{layout_of}
use Rattle.formatting.proofs.Formatting.{pointers_none, pointers_more, pointers_all}
use Rattle.formatting.proofs.lay_pointers.Goals as goal

pub loop-j-init : goal.loop-j-init
loop-j-init g c = let a = c.args in pointers_none (layout_of g.L.Layout.kind) a.plan.now

pub loop-j-preserved : goal.loop-j-preserved
loop-j-preserved g c =
    let a = c.args in
    pointers_more (layout_of g.L.Layout.kind) a.plan.now c.loop-j.j c.words_in-w.ensures.is c.pointer_word.ensures c.loop-j.invariant c.pair.ensures

pub returns : goal.returns
returns g c =
    let a = c.args in
    let all : c.loop-j.j ≡ (layout_of g.L.Layout.kind).words = omega (arith, c.words_in-w.ensures.is) in
    pointers_all (layout_of g.L.Layout.kind) a.plan.now all c.loop-j.invariant
