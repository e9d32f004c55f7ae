-- The house's figures, and the claims: how many stores a write may cost.
use mathlib.Core.Path.{◌≡◌, refl, ap}
use mathlib.Core.Logic.{inl, inr}
use mathlib.Core.List.{List, [], ◌∷◌}
use Prim.Native.Nat.{ℕ, zero, suc, ◌+◌, ◌-◌, ◌*◌, ◌/◌, ◌≤◌, ◌<◌}
use native.Mathlib.Omega.{arith}
use native.Mathlib.Nat.{mul-le-mul_left, div-mul-le_self, le-div_iff_mul-le, mul-pos}
use lib.ListN.{length, length-append}
use lib.Dec.{T, leb}
use Rattle.model.specs.Lists.{sum, filter, cons_if, concat}
use Rattle.model.specs.declared.Fault.TheVariants.{FileNumber}
use Rattle.model.specs.Layout.{Layout, Fits, files, house}
use Rattle.model.specs.Tree.{span}
use Rattle.model.specs.Board.{size, inode_of, accepted}
use Rattle.model.specs.Store.{Store, store, is_barrier, barrier, stores, fenced}
use Rattle.model.specs.Plan.{Plan, pairs, plan_epochs}
use Rattle.model.specs.Fresh.{need}
use Rattle.model.specs.Change.{write_plan}
use Rattle.model.specs.Cut.{plan_of}
use Rattle.model.specs.Calls.{Planned, board_faults, file_faults, check_answer, lowest, write_faults, write_from, write}
use Rattle.model.proofs.Cases.{either}
use Rattle.model.proofs.Sums.{sum_mono}
use Rattle.model.proofs.Perform.{All, stores_append}
use Rattle.model.proofs.Addresses.{all_left}
use Rattle.model.proofs.Accepting.{facts}
use Rattle.model.proofs.Refusals.{check_accepts}
use Rattle.model.proofs.Epochs.{Passed, answered_passed, planned_either}
use Rattle.model.proofs.Rules.{file_passed}
use Rattle.model.proofs.Formatted.{house_fits}
use Rattle.bounds.specs.Bounds.{t, u, v, most_blocks, most_stores, sharp_stores, store_count}
use Rattle.bounds.specs.Claims.{StoresRule, PairsRule, SharpRule}
use Rattle.bounds.proofs.Stretches.{met, need_met}
use Rattle.bounds.proofs.Stores.{Low, extra, cost, pairs_most, write_bounded}
use Rattle.bounds.proofs.Writes.{write_most, write_most_past}

-- ---- The house's figures

-- the stretches of w × s bytes, by those of s
met_over : (w s l : ℕ) → 2 ≤ w → 2 ≤ s → met (w * s) l ≤ met w (met s l)
unfolding met
met_over w s l wide long = by ((l + (w * s - 2)) / (w * s)) (div-mul-le_self (l + (w * s - 2)) (w * s))
  where
    by : (x : ℕ) → x * (w * s) ≤ l + (w * s - 2) → x + 1 ≤ ((l + (s - 2)) / s + 1 + (w - 2)) / w + 1
    by zero h = omega arith
    by (suc y) h =
        let pw : 0 < w = omega arith in
        let ps : 0 < s = omega arith in
        let some : 0 < w * s = mul-pos pw ps in
        let many : 2 ≤ w * s = omega (arith, mul-le-mul_left w long) in
        let each : (y * w + 1) * s ≤ l + (s - 2) = omega arith in
        let below : y * w + 1 ≤ (l + (s - 2)) / s = (le-div_iff_mul-le ps).1 each in
        let over : suc y ≤ ((l + (s - 2)) / s + 1 + (w - 2)) / w = (le-div_iff_mul-le pw).1 (omega arith) in
        omega arith

met_t : (l : ℕ) → met 64 l ≡ t l
unfolding met t
met_t l = refl

met_u : (l : ℕ) → met 512 l ≤ u l
unfolding u met
met_u l = over (met_over 8 64 l (omega arith) (omega arith))
  where
    over : met (8 * 64) l ≤ met 8 (met 64 l) → met 512 l ≤ (t l + 6) / 8 + 1
    over h = rw met_t at h

met_mono : (s k l : ℕ) → 0 < s → k ≤ l → met s k ≤ met s l
unfolding met
met_mono s k l pos le =
    let over : (k + (s - 2)) / s ≤ (l + (s - 2)) / s = (le-div_iff_mul-le pos).1 (omega (arith, div-mul-le_self (k + (s - 2)) s)) in
    omega arith

met_v : (l : ℕ) → met 4096 l ≤ v l
unfolding v met
met_v l = over (met_over 8 512 l (omega arith) (omega arith)) (met_mono 8 (met 512 l) (u l) (omega arith) (met_u l))
  where
    over : met (8 * 512) l ≤ met 8 (met 512 l) → met 8 (met 512 l) ≤ met 8 (u l) → met 4096 l ≤ (u l + 6) / 8 + 1
    over h k = omega arith

-- what written bytes take in a tree of height 3 at most
house_need : (h o l : ℕ) → h ≤ 3 → need 8 h o l ≤ t l + u l + v l + 1
unfolding sum span
house_need h o l low = omega (arith, need_met 8 (omega arith) h o l, sum_mono (λ d. met (span 8 d) l) h 3 low, met_t l, met_u l, met_v l)

-- ---- How many stores a write may cost

-- barriers are no stores
length_stores : (ss : List Store) → length (stores ss) ≤ length ss
unfolding stores filter cons_if
length_stores [] = omega arith
length_stores (s ∷ ss) = elim (either (is_barrier s)) [ inl e ↦ rw e (omega (arith, length_stores ss)) | inr e ↦ rw e (omega (arith, length_stores ss)) ]

barrier_none : (ss : List Store) → length (stores (barrier ∷ ss)) ≡ length (stores ss)
unfolding stores filter cons_if is_barrier barrier store
barrier_none ss = refl

-- so the pairs of epochs have no more stores than these
fenced_stores : (es : List (List Store)) → length (stores (fenced es)) ≤ length (concat es)
unfolding fenced concat
fenced_stores [] = length_stores []
fenced_stores (e ∷ []) = omega (arith, length_stores e, length-append e [])
fenced_stores (e ∷ d ∷ es) = omega (
  arith,
  ap length (stores_append e (barrier ∷ fenced (d ∷ es))),
  length-append (stores e) (stores (barrier ∷ fenced (d ∷ es))),
  length_stores e,
  barrier_none (fenced (d ∷ es)),
  fenced_stores (d ∷ es),
  length-append e (concat (d ∷ es)),
)

-- past the faults of a file the board is accepted
pub file_accepts : (g : Layout) (b : List ℕ) (f : ℕ) → All Passed (file_faults g b f) → T (accepted g b)
unfolding file_faults check_answer
file_accepts g b f h = check_accepts g b (answered_passed (board_faults g b) 0 (all_left Passed (board_faults g b) ((FileNumber, leb (files g) f) ∷ []) h))

pub write_accepts : (g : Layout) (b : List ℕ) (f o : ℕ) (new : List ℕ) (p : Plan) → All Passed (write_faults g b f o new p) → T (accepted g b)
unfolding write_faults
write_accepts g b f o new p h = file_accepts g b f (all_left Passed (file_faults g b f) _ h)

-- so once no fault of a write was found its root is of a height that the board may have
pub write_low : (g : Layout) → Fits g → (b : List ℕ) (f o : ℕ) (new : List ℕ) (p : Plan) → All Passed (write_faults g b f o new p) → Low g (inode_of g b f)
unfolding write_faults
write_low g fit b f o new p h =
    let board : All Passed (file_faults g b f) = all_left Passed (file_faults g b f) _ h in
    (facts g fit b (file_accepts g b f board)).low f (file_passed g b f board)

module _ (b : List ℕ) (fresh : ℕ → ℕ) (f o : ℕ) (new : List ℕ) where
  abbrev p : Plan
  p = write_plan house fresh b f o new

  abbrev l : ℕ
  l = length new

  module _ (passed : All Passed (write_faults house b f o new p)) where
    low : Low house (inode_of house b f)
    low = write_low house house_fits b f o new p passed

    -- within the size, and wherever it is: three blocks more
    few_stores : o ≤ size house b f → cost p ≤ sharp_stores l
    unfolding sharp_stores most_blocks
    few_stores within = omega (arith, write_most house house_fits fresh b f low o new (t l + u l + v l + 1) (λ h o' le. house_need h o' l le) within)

    pub few_pairs : length (pairs p) ≤ most_stores l
    unfolding most_stores most_blocks
    few_pairs = omega (
      arith,
      write_most_past house house_fits fresh b f low o new (t l + u l + v l + 1) (λ h o' le. house_need h o' l le),
      pairs_most 8 (extra house) p (write_bounded house house_fits fresh b f low o new),
    )

    done_stores : o ≤ size house b f → store_count (pairs p) ≤ sharp_stores l
    unfolding store_count pairs cost
    done_stores within = omega (arith, few_stores within, fenced_stores (plan_epochs p.steps))

pub sharp_rule : SharpRule
unfolding write_from store_count stores filter
sharp_rule b fresh f o new slice within =
    let p : Plan = write_plan house fresh b f o new.values in
    elim (planned_either (write_faults house b f o new.values p) (pairs p) slice) [
      | inl d ↦ rw d.plans (done_stores b fresh f o new.values d.passed (omega arith))
      | inr r ↦ rw r.plans (omega arith)
    ]

pub pairs_rule : PairsRule
unfolding write_from
pairs_rule b fresh f o new slice =
    let p : Plan = write_plan house fresh b f o new.values in
    elim (planned_either (write_faults house b f o new.values p) (pairs p) slice) [
      | inl d ↦ rw d.plans (few_pairs b fresh f o new.values d.passed)
      | inr r ↦ rw r.plans (omega arith)
    ]

pub stores_rule : StoresRule
unfolding write store_count
stores_rule b f o new slice =
    let p : Planned = write_from house b (lowest house b) f o new.values slice in
    omega (arith, length_stores (plan_of p), pairs_rule b (lowest house b) f o new slice)
