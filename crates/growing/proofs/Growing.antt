-- Whether a write makes the tree grow first.
use mathlib.Core.Path.{◌≡◌}
use mathlib.Core.Bool.{true, false}
use Prim.Native.Nat.{ℕ, ◌%◌, ◌≤◌, ◌<◌}
use native.Mathlib.Omega.{arith}
use lib.Dec.{ltb}
use borrow.Author.Tests.{ltb-true, ltb-false}
use Rattle.model.specs.declared.Inode.{Inode}
use Rattle.model.specs.Layout.{Layout}
use Rattle.model.specs.Tree.{live, span, least}
use Rattle.model.specs.Board.{greatest}
use Rattle.model.specs.Change.{growing}
use Rattle.model.proofs.Cases.{true_right}
use Rattle.model.proofs.Spans.{least_within, least_above}
use Rattle.model.proofs.Trees.{live_some}
use Rattle.trees.specs.Trees.{Spanned}

-- ---- Whether a tree grows

module _ (g : Layout) (n : Inode) (e : ℕ) where
  pub empty_stays : n.size ≡ 0 → false ≡ growing g n e
  unfolding live
  empty_stays none = rw none

  pub spans_less : {W h s : ℕ} → g.words ≡ W → (n.size ≡ 0 → ⊥) → h ≡ n.root % W → Spanned W h s → ltb s e ≡ growing g n e
  spans_less is d eh sp = rw (live_some n.size (omega (arith, d)), is, ← eh, sp.is)

  past_span : growing g n e ≡ true → span g.words (n.root % g.words) < e
  past_span t = let s : ℕ = span g.words (n.root % g.words) in ltb-true s e (true_right (live n.size) (ltb s e) t)

  -- where it does not grow, it spans the write
  pub spanned : growing g n e ≡ false → 0 < n.size → e ≤ span g.words (n.root % g.words)
  spanned t some = ltb-false (span g.words (n.root % g.words)) e (rw (live_some n.size some) at t)

  -- the height that is reached is the least one, and higher
  pub grown_height : {h : ℕ} → 0 < g.words → growing g n e ≡ true → h ≡ least g.words g.height e → e ≤ greatest g → (n.root % g.words ≤ h) × (h ≤ g.height)
  unfolding greatest
  grown_height pos t eh l = rw eh (least_above g.words pos g.height e (n.root % g.words) l (past_span t), least_within g.words pos g.height e)
