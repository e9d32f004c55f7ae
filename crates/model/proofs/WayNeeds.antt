-- How many fresh blocks each way of planning takes; and after a plan the live and the free blocks still make B.
use mathlib.Core.Path.{◌≡◌, ◌∙◌, ap}
use mathlib.Core.Logic.{inl, inr}
use mathlib.Core.List.{List}
use Prim.Native.Nat.{ℕ, zero, suc, ◌+◌, ◌-◌, ◌*◌, ◌/◌, ◌%◌, ◌≤◌, ◌<◌}
use native.Mathlib.Omega.{arith}
use native.Mathlib.Nat.{div-add-mod'}
use lib.ListN.{length}
use lib.Dec.{T}
use Rattle.model.specs.declared.Inode.{Inode}
use Rattle.model.specs.Layout.{Layout, Fits}
use Rattle.model.specs.Tree.{span, least, cell}
use Rattle.model.specs.Board.{free, accepted, live_blocks, block_count}
use Rattle.model.specs.Store.{Store, performed, stores}
use Rattle.model.specs.Plan.{plan}
use Rattle.model.specs.Fresh.{fresh_need, need}
use Rattle.model.specs.InPlace.{tail_need}
use Rattle.model.specs.Change.{growth_to, empty_tail_to, empty_tail, tail, descend, shadow_inside, shadow_with_length}
use Rattle.model.specs.Cut.{Change, called, plan_of}
use Rattle.model.proofs.Cases.{split}
use Rattle.model.proofs.Perform.{length_performed}
use Rattle.model.proofs.Built.{length_build, length_build_null}
use Rattle.model.proofs.Paths.{fresh_quiet}
use Rattle.model.proofs.Tailed.{length_tail}
use Rattle.model.proofs.Descent.{descend_on, descend_stop}
use Rattle.model.proofs.Levels.{length_levels}
use Rattle.model.proofs.Shown.{count_kept}
use Rattle.model.proofs.Census.{census}
use Rattle.model.proofs.Rules.{accuracy_rule}

-- after a plan the free blocks are those of 1 to B − 2 that are not live, as before
pub census_after : (g : Layout) → Fits g → (b : List ℕ) → T (accepted g b) → (c : Change) (slice : List ℕ)
    → let b' : List ℕ = performed b (stores (plan_of (called g b c slice))) in
    length (live_blocks g b') + length (free g b') + 2 ≡ block_count g b
census_after g fit b t c slice =
    let ss : List Store = stores (plan_of (called g b c slice)) in
    census g fit (performed b ss) (accuracy_rule g fit b t c slice).board ∙ count_kept g (performed b ss) b (length_performed b ss)

-- ---- How many a way takes: a block for each level of growth, those that `need` counts on paths to written bytes, and one for a leaf

descend_need : (W : ℕ) → 0 < W → (fresh : ℕ → ℕ) (b : List ℕ) (h k n o : ℕ) (new : List ℕ) (c a : ℕ) → o ≤ n → (h' : ℕ) × (o' : ℕ) × (length (descend W fresh b h k n o new c a).pages ≡ need W h' o' (length new))
unfolding descend
descend_need W pos fresh b zero k n o new c a within = (0, o, length_build W pos b fresh 0 k n o new c ∙ fresh_quiet W b 0 k n o (length new) (inr (inr within)))
descend_need W pos fresh b (suc h) zero n o new c a within = (suc h, o, length_build_null W pos b fresh (suc h) n o new c)
descend_need W pos fresh b (suc h) (suc k) n o new c a within = elim (split (o % span W h + length new) (span W h)) [
  | inl fits ↦
      let at : o / span W h * span W h + o % span W h ≡ o = div-add-mod' o (span W h) in
      rw (descend_on W fresh b new c h k n o a fits)
      (descend_need W pos fresh b h (cell W b (suc k) (o / span W h) / W) (n - o / span W h * span W h) (o % span W h) new c (W * suc k + o / span W h) (omega arith))
  | inr more ↦ rw (descend_stop W fresh b new c h k n o a more) (suc h, o, length_build W pos b fresh (suc h) (suc k) n o new c ∙ fresh_quiet W b (suc h) (suc k) n o (length new) (inr (inr within)))
]

pub growth_takes_levels : (g : Layout) (fresh : ℕ → ℕ) (n : Inode) (h : ℕ) → 0 < n.root / g.words → (growth_to g fresh n h).taken ≡ h - n.root % g.words
unfolding growth_to plan
growth_takes_levels g fresh n h there = length_levels g.words fresh (n.root / g.words) (h - n.root % g.words) there

module _ (g : Layout) (pos : 0 < g.words) (fresh : ℕ → ℕ) (b : List ℕ) (n : Inode) where
  module _ (new : List ℕ) (c : ℕ) where
    pub empty_tail_needs : (o : ℕ) → (empty_tail g fresh b n o new c).taken ≡ c + need g.words (least g.words g.height (o + length new)) o (length new)
    unfolding empty_tail_to empty_tail plan
    empty_tail_needs o = ap (λ (x : ℕ). c + x) (length_build_null g.words pos b fresh (least g.words g.height (o + length new)) 0 o new c)

    pub tail_needs : (s o : ℕ) → (tail g fresh b n (suc s) o new c).taken ≡ c + tail_need g.words (n.root % g.words) (suc s) (length new)
    unfolding tail plan
    tail_needs s o = ap (λ (x : ℕ). c + x) (length_tail g.words pos b fresh (n.root % g.words) (n.root / g.words) (suc s) new c)

    -- for the tree under the word that commits
    pub inside_needs : (o : ℕ) → o ≤ n.size → (h' : ℕ) × (o' : ℕ) × ((shadow_inside g fresh b n o new c).taken ≡ c + need g.words h' o' (length new))
    unfolding shadow_inside plan
    inside_needs o within =
        let d = descend_need g.words pos fresh b (n.root % g.words) (n.root / g.words) n.size o new c n.at within in
        (d.0, d.1, ap (λ (x : ℕ). c + x) d.2)

    -- where o lies past the size, the path to byte s − 1 is counted too
    pub leaf_needs : (o : ℕ) → (shadow_with_length g fresh b n o new c).taken ≡ c + fresh_need g.words b (n.root % g.words) (n.root / g.words) n.size o (length new) + 1
    unfolding shadow_with_length plan
    leaf_needs o = ap (λ (x : ℕ). c + x + 1) (length_build g.words pos b fresh (n.root % g.words) (n.root / g.words) n.size o new c)
