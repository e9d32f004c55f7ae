use mathlib.Core.Path.{◌≡◌, sym, ap, ◌∙◌}
use mathlib.Core.Bool.{Bool, true, false}
use mathlib.Core.List.{List}
use Prim.Native.Nat.{ℕ, ◌+◌, ◌<◌}
use native.Mathlib.Omega.{arith}
use lib.ListN.{length}
use Rattle.model.specs.Lists.{cons_if}
use Rattle.surveying.specs.Survey.{spare}
use Rattle.surveying.proofs.Reached.{pick_next, pick_none}
use Rattle.surveying.proofs.unmarked.Goals as goal
use Rattle.surveying.proofs.unmarked.Goals.{then-spare, else-spare}
use Rattle.surveying.proofs.unmarked.Invariants.{ahead}

module _ (m : List ℕ) {top k : ℕ} (l : k < top) {r : Bool} (er : r ≡ spare m k) where
  free_one : r ≡ true → ahead m top k ≡ ahead m top (k + 1) + 1
  unfolding cons_if
  free_one e = ap length (pick_next k top (spare m) l) ∙ rw (sym er ∙ e) (omega arith)

  used_one : r ≡ false → ahead m top k ≡ ahead m top (k + 1)
  unfolding cons_if
  used_one e = ap length (pick_next k top (spare m) l) ∙ rw (sym er ∙ e)

pub loop-k-preserved : goal.loop-k-preserved
loop-k-preserved c = let m = c.args.marks.now in let t = c.loop-k-test.true in
    elim c.if-spare.branch [
      | then-spare w ↦ rw w.count-is (omega arith, omega (arith, free_one m t c.spare.ensures w.if-spare.true, c.loop-k.invariant.1))
      | else-spare w ↦ rw w.count-is (omega arith, omega (arith, used_one m t c.spare.ensures w.if-spare.false, c.loop-k.invariant.1))
    ]

pub returns : goal.returns
returns c = let a = c.args in
    omega (arith, ap length (pick_none c.loop-k.k a.top (spare a.marks.now) c.loop-k-test.false), c.loop-k.invariant.1)
