-- A write's plan with the height chosen by any function `tall`, where `write_plan` of Change has *the least sufficient height*: in growth, and in a tail
-- of an empty file. No other way asks for a height.
use Rattle.std.specs.Prelude.{cond, List, [], ◌∷◌, ℕ, suc, ◌+◌, length, Option, Some, None}
use Rattle.model.specs.declared.Inode.{Inode}
use Rattle.model.specs.Lists.{concat}
use Rattle.model.specs.Layout.{Layout}
use Rattle.model.specs.Tree.{live}
use Rattle.model.specs.Board.{inode_of}
use Rattle.model.specs.Store.{performed}
use Rattle.model.specs.Plan.{Plan, plan, plan_epochs, afterwards}
use Rattle.model.specs.Change.{growing, grown_root, growth_to, single_block, single_word, empty_tail_to, chosen_way}

module _ (g : Layout) (tall : ℕ → ℕ) (fresh : ℕ → ℕ) (b : List ℕ) where
  -- *With s = 0 the old root is ignored and the least sufficient height is used*
  unfoldable pub way_by : Inode → ℕ → List ℕ → ℕ → Plan
  way_by n o new c = cond (live n.size) (chosen_way g fresh b n o new c) (empty_tail_to g fresh b n (tall (o + length new)) o new c)

module _ (g : Layout) (tall : ℕ → ℕ) (fresh : ℕ → ℕ) (n : Inode) where
  -- *If s > 0 and e exceeds the span, the least sufficient height is reached first*
  unfoldable pub growth_by : ℕ → Plan
  growth_by e = cond (growing g n e) (growth_to g fresh n (tall e)) (plan [] 0)

  -- *What follows sees the grown tree*
  unfoldable pub grown_inode_by : ℕ → Inode
  grown_inode_by e = record { pointer = n.pointer; at = n.at; root = cond (growing g n e) (grown_root g fresh n (tall e)) n.root; size = n.size }

module _ (g : Layout) (tall : ℕ → ℕ) (fresh : ℕ → ℕ) (b : List ℕ) (f : ℕ) where
  unfoldable pub some_plan_by : Option ℕ → ℕ → List ℕ → Plan
  some_plan_by (Some k) o new = single_word g b k o new
  some_plan_by None o new =
      let p : Plan = growth_by g tall fresh (inode_of g b f) (o + length new) in
      let grown : List ℕ = performed b (concat (plan_epochs p.steps)) in
      afterwards p (way_by g tall fresh grown (grown_inode_by g tall fresh (inode_of g b f) (o + length new)) o new p.taken)

  unfoldable pub write_plan_by : ℕ → List ℕ → Plan
  write_plan_by o [] = plan [] 0
  write_plan_by o (x ∷ new) = some_plan_by (single_block g b f o (o + suc (length new))) o (x ∷ new)
