use mathlib.Core.Path.{◌≡◌, refl, sym, ◌∙◌}
use Prim.Native.Nat.{◌+◌, ◌*◌}
use native.Mathlib.Omega.{arith}
use native.Mathlib.Nat.{mul-suc, mul-zero}
use Rattle.formatting.proofs.Formatting.{leaves_none, leaves_more}
use Rattle.formatting.proofs.lay_leaves.Goals as goal

pub loop-l-init : goal.loop-l-init
loop-l-init g c = let w = c.words_in-w.result in let e : 2 + w + w * 0 ≡ 2 + w = omega (arith, mul-zero w) in rw e (leaves_none w)

pub loop-l-preserved : goal.loop-l-preserved
loop-l-preserved g c =
    let w = c.words_in-w.result in
    let e = sym (c.words_in-w.ensures.is ∙ g.met.L.Layout.figures.bits.is) in
    let next : 2 + w + w * (c.loop-l.l + 1) ≡ 2 + w + w * c.loop-l.l + w = omega (arith, mul-suc w c.loop-l.l) in
    rw next (leaves_more w c.loop-l.l c.loop-l.invariant refl (rw e at c.block.ensures))
