use mathlib.Core.Path.{refl}
use Prim.Native.Nat.{◌+◌, ◌*◌}
use native.Mathlib.Omega.{arith}
use Rattle.formatting.specs.Places.{Place}
use Rattle.formatting.proofs.Formatting.{few_leaves, small_place}
use Rattle.formatting.proofs.trailer_place.Goals as goal

pub overflow_add-result : goal.overflow_add-result
overflow_add-result g c = omega (arith, c.LEAVES.ensures, g.met.L.Layout.figures.leaves, few_leaves g.L.Layout.kind)

pub overflow_mul-result : goal.overflow_mul-result
overflow_mul-result g c =
    let place : Place g.L.Layout.kind (2 + c.words_in.result * (1 + c.LEAVES.result)) = rw (c.words_in.ensures.is, c.LEAVES.ensures, g.met.L.Layout.figures.leaves) (record { is = refl; most = small_place g.L.Layout.kind }) in
    omega (arith, place.most)

pub overflow_add-result-2 : goal.overflow_add-result-2
overflow_add-result-2 g c =
    let place : Place g.L.Layout.kind (2 + c.words_in.result * (1 + c.LEAVES.result)) = rw (c.words_in.ensures.is, c.LEAVES.ensures, g.met.L.Layout.figures.leaves) (record { is = refl; most = small_place g.L.Layout.kind }) in
    omega (arith, place.most)
