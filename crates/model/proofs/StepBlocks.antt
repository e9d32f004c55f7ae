-- Which free blocks a step stores to: the fresh ones that it takes, and no other.
use mathlib.Core.Path.{◌≡◌, refl, sym, ap}
use mathlib.Core.List.{List, [], ◌∷◌, ◌++◌, map, map-append}
use Prim.Native.Nat.{ℕ, zero, suc, ◌+◌, ◌-◌, ◌*◌, ◌/◌, ◌≤◌, ◌<◌}
use native.Mathlib.Omega.{arith}
use native.Mathlib.Nat.{zero-mul, suc-mul, mul-zero, mul-add}
use lib.ListN.{length}
use Rattle.model.specs.Lists.{tabulate, sum, concat, one, occ}
use Rattle.model.specs.Layout.{Layout, files}
use Rattle.model.specs.Tree.{blocks}
use Rattle.model.specs.Board.{live_blocks, root_blocks, root_address, root_height, root_block, size, file_blocks}
use Rattle.model.specs.Store.{Store, store}
use Rattle.model.specs.Plan.{Step, plan_epochs}
use Rattle.model.specs.Fresh.{Page, stored}
use Rattle.model.specs.InPlace.{in_place}
use Rattle.model.proofs.Counting.{one_other, occ_append}
use Rattle.model.proofs.Perform.{All, address_block, page_store}
use Rattle.model.proofs.Addresses.{used_first, all_map}
use Rattle.model.proofs.Built.{used}
use Rattle.model.proofs.InPlaceStores.{in_place_blocks}
use Rattle.model.proofs.Shown.{file_live}
use Rattle.model.proofs.Steps.{steps_stores}

-- the blocks that stores go to
abbrev pub blocks_of : Layout → List Store → List ℕ
blocks_of g ss = map (λ s. s.at / g.words) ss

-- A step stores pages to the fresh blocks of numbers c to c' - 1, and otherwise to live blocks only
pub record Takes (g : Layout) (b : List ℕ) (fresh : ℕ → ℕ) (c c' : ℕ) (p : Step) : Type 0 where
  pub pages : List Page
  pub others : List Store
  pub is : p.hidden ≡ stored g.words fresh pages c ++ others
  pub count : c' ≡ c + length pages
  pub others_live : All (λ s. 0 < occ (s.at / g.words) (live_blocks g b)) others
  pub commit_live : 0 < occ (p.commit.at / g.words) (live_blocks g b)

module _ (g : Layout) (pos : 0 < g.words) (fresh : ℕ → ℕ) (q : ℕ) where
  pub blocks_append : (xs ys : List Store) → occ q (blocks_of g (xs ++ ys)) ≡ occ q (blocks_of g xs) + occ q (blocks_of g ys)
  blocks_append xs ys = rw (map-append (λ (s : Store). s.at / g.words) xs ys) (occ_append q (blocks_of g xs) (blocks_of g ys))

  -- W stores to one block
  page_blocks : (k m : ℕ) (p : Page) → m ≤ g.words → occ q (blocks_of g (tabulate m (page_store g.words k p))) ≡ m * one q k
  unfolding tabulate occ store
  page_blocks k zero p l = sym (zero-mul (one q k))
  page_blocks k (suc m) p l = omega (
    arith,
    blocks_append (tabulate m (page_store g.words k p)) (page_store g.words k p m ∷ []),
    page_blocks k m p (omega arith),
    ap (one q) (address_block g.words k m (omega arith)),
    suc-mul m (one q k),
  )

  none_taken : (c : ℕ) → occ q [] ≡ g.words * used fresh q c 0
  unfolding occ used sum
  none_taken c = sym (mul-zero g.words)

  -- the stores of pages go to their fresh blocks, W each
  pub stored_blocks_of : (ps : List Page) (c : ℕ) → occ q (blocks_of g (stored g.words fresh ps c)) ≡ g.words * used fresh q c (length ps)
  unfolding stored
  stored_blocks_of [] c = none_taken c
  stored_blocks_of (p ∷ ps) c = rw (used_first fresh q c (length ps), mul-add g.words (one q (fresh c)) (used fresh q (suc c) (length ps))) (omega (
    arith,
    blocks_append (tabulate g.words (page_store g.words (fresh c) p)) (stored g.words fresh ps (suc c)),
    page_blocks (fresh c) g.words p (omega arith),
    stored_blocks_of ps (suc c),
  ))

  -- stores to live blocks
  live_blocks_of : (b : List ℕ) (ss : List Store) → occ q (live_blocks g b) ≡ 0 → All (λ s. 0 < occ (s.at / g.words) (live_blocks g b)) ss → occ q (blocks_of g ss) ≡ 0
  unfolding occ All
  live_blocks_of b [] z a = refl
  live_blocks_of b (s ∷ ss) z a = omega (arith, live_blocks_of b ss z a.1, one_other q (s.at / g.words) (λ e. omega (arith, z, a.0, ap (λ (x : ℕ). occ x (live_blocks g b)) e)))

  -- a block that is not live is stored to as often as it is taken, W times each
  pub takes_blocks : (b : List ℕ) (c c' : ℕ) (p : Step) → Takes g b fresh c c' p → occ q (live_blocks g b) ≡ 0
      → occ q (blocks_of g (p.hidden ++ (p.commit ∷ []))) ≡ g.words * used fresh q c (c' - c)
  unfolding All
  takes_blocks b c c' p t z =
      let n : c' - c ≡ length t.pages = omega (arith, t.count) in
      rw (n, t.is) (omega (
        arith,
        blocks_append (stored g.words fresh t.pages c ++ t.others) (p.commit ∷ []),
        blocks_append (stored g.words fresh t.pages c) t.others,
        stored_blocks_of t.pages c,
        live_blocks_of b t.others z t.others_live,
        live_blocks_of b (p.commit ∷ []) z (t.commit_live, tt),
      ))

  pub steps_blocks : (s : Step) (ps : List Step) → occ q (blocks_of g (concat (plan_epochs (s ∷ ps)))) ≡ occ q (blocks_of g (s.hidden ++ (s.commit ∷ []))) + occ q (blocks_of g (concat (plan_epochs ps)))
  unfolding occ
  steps_blocks s ps = rw (steps_stores s ps) (omega (
    arith,
    blocks_append s.hidden (s.commit ∷ concat (plan_epochs ps)),
    blocks_append s.hidden (s.commit ∷ []),
  ))

-- what is stored in place in a file's tree goes to live blocks
pub in_place_live : (g : Layout) (b : List ℕ) (f : ℕ) → f < files g → (hook : ℕ → ℕ → ℕ → ℕ) (new : List ℕ) (c : ℕ) → 0 < size g b f
    → All (λ s. 0 < occ (s.at / g.words) (live_blocks g b)) (in_place g.words b hook (root_height g b f) (root_block g b f) (size g b f) new c (root_address g b f))
unfolding file_blocks root_blocks
in_place_live g b f f_lt hook new c live =
    all_map {A = Store} (λ s. 0 < occ (s.at / g.words) (blocks g.words b (root_height g b f) (root_block g b f) (size g b f))) (λ s. 0 < occ (s.at / g.words) (live_blocks g b))
    (λ s z. omega (arith, z, file_live g b f (s.at / g.words) f_lt)) (in_place g.words b hook (root_height g b f) (root_block g b f) (size g b f) new c (root_address g b f))
    (in_place_blocks g.words b hook (root_height g b f) (root_block g b f) (size g b f) new c (root_address g b f) live)
