use Rattle.model.specs.Layout.{Kind}
use mathlib.Core.Path.{◌≡◌, sym, ap, ◌∙◌}
use mathlib.Core.Bool.{Bool}
use mathlib.Core.List.{List, [], ◌∷◌}
use Prim.Native.Nat.{ℕ}
use native.Mathlib.Omega.{arith}
use Rattle.model.specs.Lists.{tabulate, joined, every}
use Rattle.model.specs.Layout.{layout_of}
use Rattle.model.specs.Board.{leaf, leaf_sound}
use Rattle.model.proofs.Cases.{tabulate_joined}
use Rattle.trees.specs.Marks.{Marked}
use Rattle.trees.proofs.Marking
use Rattle.surveying.proofs.leaves.Goals as goal

pub loop-l-init : goal.loop-l-init
loop-l-init g c = Marking.start

-- so many leaves there are
all : (kind : Kind) (b : List ℕ) {N : ℕ} {ok : Bool} {m₀ m : List ℕ} → let g = layout_of kind in N ≡ g.leaves
    → Marked (every N (leaf_sound g b)) (joined N (λ l. leaf g b l ∷ [])) m₀ ok m → Marked (every g.leaves (leaf_sound g b)) (tabulate g.leaves (leaf g b)) m₀ ok m
all kind b e d = let g = layout_of kind in
    Marking.same (ap (λ (n : ℕ). every n (leaf_sound g b)) (sym e)) (tabulate_joined g.leaves (leaf g b) ∙ ap (λ (n : ℕ). joined n (λ l. leaf g b l ∷ [])) (sym e)) d

pub returns-then-not-leaf : goal.returns-then-not-leaf
returns-then-not-leaf g c = all g.L.Layout.kind c.args.board.now (c.LEAVES-n.ensures ∙ g.met.L.Layout.figures.leaves) (Marking.stop c.loop-l.invariant c.leaf.ensures c.loop-l-test.true (c.if-not-leaf.true))

pub loop-l-preserved : goal.loop-l-preserved
loop-l-preserved g c = Marking.step c.loop-l.invariant c.leaf.ensures c.if-not-leaf.false

pub returns : goal.returns
returns g c = all g.L.Layout.kind c.args.board.now (c.LEAVES-n.ensures ∙ g.met.L.Layout.figures.leaves) (Marking.all c.loop-l.invariant (omega arith))
