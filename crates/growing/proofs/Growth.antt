-- Growth of a file's tree: the levels, and the plan.
use mathlib.Core.Path.{◌≡◌, refl}
use mathlib.Core.Logic.{◌≢◌}
use mathlib.Core.List.{List, [], ◌∷◌}
use Prim.Native.Nat.{ℕ, zero, suc, ◌+◌, ◌-◌, ◌*◌, ◌/◌, ◌%◌, ◌^◌, ◌≤◌, ◌<◌}
use native.Mathlib.Omega.{arith}
use native.Mathlib.Nat.{zero-add, mul-zero, mul_comm, mul-le-mul_right, div-add-mod'}
use native.Mathlib.Numerals.{sub-one}
use lib.ListN.{length, get_or}
use Rattle.model.specs.Lists.{tabulate}
use Rattle.model.specs.declared.Inode.{Inode}
use Rattle.model.specs.Layout.{Layout}
use Rattle.model.specs.Store.{store}
use Rattle.model.specs.Fresh.{Page}
use Rattle.model.specs.Change.{level_page, level_below, levels, level_top, growth_to}
use Rattle.model.proofs.Perform.{length_tabulate}
use Rattle.plans.specs.Laying.{closing, Laid, PlanLaid}
use Rattle.plans.specs.Onto.{taking, Blocks}
use Rattle.taking.specs.Taking.{Took}
use Rattle.taking.proofs.Taken as Taken
use Rattle.plans.proofs.OneStep.{one_step}

-- ---- Levels

-- the page of level i over the tree at block k
abbrev level_at : ℕ → (ℕ → ℕ) → ℕ → ℕ → Page
level_at W fresh k i = level_page W (level_below fresh k i)

levels_some : (W : ℕ) (fresh : ℕ → ℕ) (k d : ℕ) → k ≢ 0 → levels W fresh k d ≡ tabulate d (level_at W fresh k)
unfolding levels
levels_some W fresh zero d f = absurd (f refl)
levels_some W fresh (suc k) d f = refl

-- the words of a level's page: the code's slice has the first, and a word off it is 0
level_words : (W below j : ℕ) → get_or (W * below ∷ []) j 0 ≡ level_page W below j
unfolding level_page
level_words W below zero = refl
level_words W below (suc j) = refl

module _ {W : ℕ} {free plan : List ℕ} {k : ℕ} where
  -- a null root has none
  pub null : (d : ℕ) → k ≡ 0 → Took W free plan 0 0 (levels W (taking free) k d) plan 0
  unfolding levels
  null d e = rw e Taken.none

  pub no_levels : (d : ℕ) → k ≢ 0 → d ≡ 0 → Took W free plan 0 0 (levels W (taking free) k d) plan 0
  unfolding tabulate
  no_levels d f e = rw (levels_some W (taking free) k d f, e) Taken.none

  -- the last level, over d - 1: *its first pointer the old tree and the rest 0*
  pub last_level : {plan₁ plan₂ : List ℕ} (d : ℕ) {t below c v : ℕ} → k ≢ 0 → d ≢ 0 → Took W free plan 0 0 (levels W (taking free) k (d - 1)) plan₁ t
      → below ≡ level_below (taking free) k t → v ≡ W * below → Took W free plan₁ 0 t ((λ j. get_or (v ∷ []) j 0) ∷ []) plan₂ c
      → Took W free plan 0 0 (levels W (taking free) k d) plan₂ c
  unfolding tabulate
  last_level zero f g l eb ev u = absurd (g refl)
  last_level {plan₁} (suc d) {t} {below} {v = v} f g l eb ev u =
      let l' : Took W free plan 0 0 (tabulate d (level_at W (taking free) k)) plan₁ t = rw (sub-one, levels_some W (taking free) k d f) at l in
      let et : t ≡ d = omega (arith, l'.next, length_tabulate d (level_at W (taking free) k)) in
      let words : (j : ℕ) → j < W → get_or (v ∷ []) j 0 ≡ level_at W (taking free) k d j = λ j m. rw (ev, eb, et) (level_words W (level_below (taking free) k d) j) in
      rw (levels_some W (taking free) k (suc d) f) (Taken.more l' (Taken.by_words (v ∷ []) {p = level_at W (taking free) k d} words u))

-- at most one for each of d levels
pub levels_most : (W : ℕ) (fresh : ℕ → ℕ) (k d : ℕ) → length (levels W fresh k d) ≤ d
unfolding levels
levels_most W fresh zero d = omega arith
levels_most W fresh (suc k) d = omega (arith, length_tabulate d (level_at W fresh (suc k)))

pub few_levels : {W : ℕ} {free plan plan' : List ℕ} (k d : ℕ) {t : ℕ} → Took W free plan 0 0 (levels W (taking free) k d) plan' t → t ≤ d
few_levels {W} {free} k d t = omega (arith, t.next, levels_most W (taking free) k d)

-- ---- The block at the top

-- its address is a word, with room for the height: where the root is over no level, the height is the root's own
pub root_room : {W r h v : ℕ} {free : List ℕ} → W ≤ 512 → Blocks free → r < 2 ^ 64 → h < 8 → (d : ℕ) → d ≡ h - r % W → r % W ≤ h → v ≡ level_below (taking free) (r / W) d → W * v + h < 2 ^ 64
unfolding level_below
root_room {W} {r} wide b small low zero ed least e = rw e (omega (arith, ed, div-add-mod' r W, mul_comm W (r / W)))
root_room {W} {free = free} wide b small low (suc d) ed least e = rw e (omega (arith, mul-le-mul_right (taking free d) wide, b.small d))

-- the root word of a null tree, and of another
pub null_root : (W : ℕ) (fresh : ℕ → ℕ) (k d h : ℕ) → k ≡ 0 → h ≡ W * level_top fresh k d + h
unfolding level_top
null_root W fresh zero d h e = omega (arith, mul-zero W)
null_root W fresh (suc k) d h e = absurd (omega arith)

pub top_root : {v x : ℕ} (W : ℕ) (fresh : ℕ → ℕ) (k d h : ℕ) → k ≢ 0 → v ≡ level_below fresh k d → x ≡ W * v → x + h ≡ W * level_top fresh k d + h
unfolding level_top
top_root W fresh zero d h f e ex = absurd (f refl)
top_root W fresh (suc k) d h f e ex = rw (ex, e)

-- ---- The plan

-- the levels were laid, then the commit of the root word v
pub growth_laid : (g : Layout) {free slice slice₁ slice₂ : List ℕ} {t v p : ℕ} (n : Inode) (h : ℕ)
    → Took g.words free slice 0 0 (levels g.words (taking free) (n.root / g.words) (h - n.root % g.words)) slice₁ t
    → v ≡ g.words * level_top (taking free) (n.root / g.words) (h - n.root % g.words) + h
    → Laid slice₁ (g.words * t) (closing (g.words * t - 0) (store n.at v)) slice₂ p
    → PlanLaid slice 0 (growth_to g (taking free) n h) slice₂ (record { pairs = p; taken = t })
unfolding growth_to
growth_laid g {free} {t = t} {v} n h l ev commit =
    let W : ℕ = g.words in
    let all : length (levels W (taking free) (n.root / W) (h - n.root % W)) ≡ t = omega (arith, l.next) in
    rw (← ev, all) (one_step n.at v t (rw (mul-zero W, zero-add (W * t)) at (Taken.laid_pages l)) commit refl)
