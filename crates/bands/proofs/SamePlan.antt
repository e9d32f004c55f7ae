-- A write's plan is the same with every function that gives the least sufficient height where the write ends.
use Rattle.std.specs.Prelude.{Option, Some, None}
use mathlib.Core.Path.{◌≡◌, refl, ap}
use mathlib.Core.Bool.{cond}
use mathlib.Core.List.{List, [], ◌∷◌}
use Prim.Native.Nat.{ℕ, zero, suc, ◌+◌}
use lib.ListN.{length}
use Rattle.model.specs.declared.Inode.{Inode}
use Rattle.model.specs.Lists.{concat}
use Rattle.model.specs.Layout.{Layout, house}
use Rattle.model.specs.Tree.{live, least}
use Rattle.model.specs.Board.{inode_of}
use Rattle.model.specs.Store.{performed}
use Rattle.model.specs.Plan.{Plan, plan, plan_epochs, afterwards}
use Rattle.model.specs.Change.{growing, grown_root, growth_to, growth, grown_inode, single_block, is_tail, empty_tail_to, empty_tail, tail, chosen_way, grown_plan, some_plan, write_plan}
use Rattle.bands.specs.Sheet.{sheet_height}
use Rattle.bands.specs.Planned.{way_by, growth_by, grown_inode_by, some_plan_by, write_plan_by}
use Rattle.bands.specs.Claims.{SameHeightRule, SamePlanRule}
use Rattle.bands.proofs.Bands.{least_rule}

-- with s = 0 the way is the tail's
way_same : (g : Layout) (tall fresh : ℕ → ℕ) (b : List ℕ) (n : Inode) (o : ℕ) (new : List ℕ) (c : ℕ) → tall (o + length new) ≡ least g.words g.height (o + length new)
    → way_by g tall fresh b n o new c ≡ chosen_way g fresh b n o new c
unfolding way_by chosen_way is_tail live tail empty_tail_to empty_tail
way_same g tall fresh b n o new c same = go n.size refl
  where
    go : (s : ℕ) → n.size ≡ s → way_by g tall fresh b n o new c ≡ chosen_way g fresh b n o new c
    go zero e = rw e (ap (λ (h : ℕ). empty_tail_to g fresh b n h o new c) same)
    go (suc s) e = rw e

module _ (g : Layout) (tall fresh : ℕ → ℕ) (n : Inode) (e : ℕ) (same : tall e ≡ least g.words g.height e) where
  growth_same : growth_by g tall fresh n e ≡ growth g fresh n e
  unfolding growth_by growth
  growth_same = ap (λ (h : ℕ). cond (growing g n e) (growth_to g fresh n h) (plan [] 0)) same

  inode_same : grown_inode_by g tall fresh n e ≡ grown_inode g fresh n e
  unfolding grown_inode_by grown_inode
  inode_same = λ t. record { pointer = n.pointer; at = n.at; root = cond (growing g n e) (grown_root g fresh n (same t)) n.root; size = n.size }

some_same : (g : Layout) (tall fresh : ℕ → ℕ) (b : List ℕ) (f : ℕ) (end : Option ℕ) (o : ℕ) (new : List ℕ) → tall (o + length new) ≡ least g.words g.height (o + length new)
    → some_plan_by g tall fresh b f end o new ≡ some_plan g fresh b f end o new
unfolding some_plan_by some_plan grown_plan
some_same g tall fresh b f (Some k) o new same = refl
some_same g tall fresh b f None o new same =
    let n : Inode = inode_of g b f in
    let p : Plan = growth g fresh n (o + length new) in
    rw (growth_same g tall fresh n (o + length new) same, inode_same g tall fresh n (o + length new) same)
    (ap (afterwards p) (way_same g tall fresh (performed b (concat (plan_epochs p.steps))) (grown_inode g fresh n (o + length new)) o new p.taken same))

pub same_height_rule : SameHeightRule
unfolding write_plan_by write_plan
same_height_rule g tall fresh b f o [] same = refl
same_height_rule g tall fresh b f o (x ∷ new) same = some_same g tall fresh b f (single_block g b f o (o + suc (length new))) o (x ∷ new) same

pub same_plan_rule : SamePlanRule
same_plan_rule fresh b f o new l = same_height_rule house sheet_height fresh b f o new (least_rule (o + length new) l)
