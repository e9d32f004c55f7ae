use mathlib.Core.Path.{◌∙◌}
use native.Mathlib.Nat.{mod-lt}
use native.Mathlib.Omega.{arith}
use borrow.Author.Tests.{lt-ltb, le-ltb}
use Rattle.model.specs.Layout.{files}
use Rattle.model.specs.Board.{walk_to}
use Rattle.trees.proofs.Reaching.{house_reach}
use Rattle.reading.proofs.walk_to.Goals as goal

pub returns-then-file-ge32 : goal.returns-then-file-ge32
unfolding walk_to files
returns-then-file-ge32 c = rw (le-ltb c.args.file 32 (omega (arith, c.if-file-ge32.true)))

pub root_walk-requires : goal.root_walk-requires
root_walk-requires c = house_reach _ (mod-lt _ (omega arith))

pub returns : goal.returns
unfolding walk_to files
returns c = c.root_walk.ensures ∙ rw (c.linked_word-root.ensures, c.linked_word-n.ensures, lt-ltb c.args.file 32 (omega (arith, c.if-file-ge32.false)))
