-- Where stores go. `occ x (addresses ss)` is how many of them go to word x. Where none of these counts is above 1, each store stands once all are performed.
use mathlib.Core.Path.{◌≡◌, refl, sym, ap, ap₂, subst, ◌∙◌}
use mathlib.Core.Logic.{◌≢◌, inl, inr}
use mathlib.Core.Bool.{Bool}
use mathlib.Core.List.{List, [], ◌∷◌, ◌++◌, map}
use Prim.Native.Nat.{ℕ, zero, suc, ◌+◌, ◌*◌, ◌/◌, ◌≤◌, ◌<◌}
use native.Mathlib.Omega.{arith}
use native.Mathlib.Nat.{zero-add}
use lib.ListN.{length, get_or, set, length-set}
use lib.Seq.{get_or-set_same, get_or-set_other}
use lib.Dec.{T}
use Rattle.model.specs.Lists.{tabulate, joined, sum, all, concat, one, occ}
use Rattle.model.specs.Tree.{cell}
use Rattle.model.specs.Store.{Store, store, performed}
use Rattle.model.specs.Fresh.{Page, stored}
use Rattle.model.proofs.Cases.{decide, and_left, and_right, and_both}
use Rattle.model.proofs.Counting.{one_same, one_other, sum_none, sum_once}
use Rattle.model.proofs.Perform.{All, all_append, performed_away, address_block, page_store}
use Rattle.model.proofs.Built.{held, used, used_add, used_one}

-- ---- P of each

module _ {A : Type 0} (P : A → Type 0) where
  pub all_left : (xs ys : List A) → All P (xs ++ ys) → All P xs
  unfolding All
  all_left [] ys p = tt
  all_left (x ∷ xs) ys p = (p.0, all_left xs ys p.1)

  pub all_right : (xs ys : List A) → All P (xs ++ ys) → All P ys
  unfolding All
  all_right [] ys p = p
  all_right (x ∷ xs) ys p = all_right xs ys p.1

  pub all_joined : (m : ℕ) (f : ℕ → List A) → ((j : ℕ) → j < m → All P (f j)) → All P (joined m f)
  unfolding All joined
  all_joined zero f p = tt
  all_joined (suc m) f p = all_append P (joined m f) (f m) (all_joined m f (λ j l. p j (omega arith))) (p m (omega arith))

  -- and of those that turn j of a loop makes
  pub joined_at : (m : ℕ) (f : ℕ → List A) → All P (joined m f) → (j : ℕ) → j < m → All P (f j)
  unfolding joined
  joined_at zero f p j l = absurd (omega arith)
  joined_at (suc m) f p j l = elim (decide m j) [
    | inl e ↦ subst (λ (x : ℕ). All P (f x)) e (all_right (joined m f) (f m) p)
    | inr n ↦ joined_at m f (all_left (joined m f) (f m) p) j (omega arith)
  ]

  pub tabulate_at : (m : ℕ) (f : ℕ → A) → All P (tabulate m f) → (j : ℕ) → j < m → P (f j)
  unfolding All tabulate
  tabulate_at zero f p j l = absurd (omega arith)
  tabulate_at (suc m) f p j l = elim (decide m j) [
    | inl e ↦ subst (λ (x : ℕ). P (f x)) e (all_right (tabulate m f) (f m ∷ []) p).0
    | inr n ↦ tabulate_at m f (all_left (tabulate m f) (f m ∷ []) p) j (omega arith)
  ]

pub all_concat : {A : Type 0} (P : A → Type 0) (xss : List (List A)) → All (All P) xss → All P (concat xss)
unfolding All concat
all_concat P [] h = tt
all_concat P (xs ∷ xss) h = all_append P xs (concat xss) h.0 (all_concat P xss h.1)

pub all_map : {A : Type 0} (P Q : A → Type 0) → ((x : A) → P x → Q x) → (xs : List A) → All P xs → All Q xs
unfolding All
all_map P Q f [] p = tt
all_map P Q f (x ∷ xs) p = (f x p.0, all_map P Q f xs p.1)

-- as a test
pub all_holds : {A : Type 0} (p : A → Bool) (xs : List A) → All (λ x. T (p x)) xs → T (all p xs)
unfolding All all
all_holds p [] h = tt
all_holds p (x ∷ xs) h = and_both (p x) (all p xs) h.0 (all_holds p xs h.1)

pub holds_all : {A : Type 0} (p : A → Bool) (xs : List A) → T (all p xs) → All (λ x. T (p x)) xs
unfolding All all
holds_all p [] h = tt
holds_all p (x ∷ xs) h = (and_left (p x) (all p xs) h, holds_all p xs (and_right (p x) (all p xs) h))

-- ---- counting addresses

abbrev pub addresses : List Store → List ℕ
addresses ss = map (λ s. s.at) ss

pub occ_addresses_append : (x : ℕ) (ss ts : List Store) → occ x (addresses (ss ++ ts)) ≡ occ x (addresses ss) + occ x (addresses ts)
unfolding occ
occ_addresses_append x [] ts = sym (zero-add (occ x (addresses ts)))
occ_addresses_append x (s ∷ ss) ts = omega (arith, occ_addresses_append x ss ts)

pub occ_addresses_joined : (x m : ℕ) (f : ℕ → List Store) → occ x (addresses (joined m f)) ≡ sum m (λ j. occ x (addresses (f j)))
unfolding joined sum occ
occ_addresses_joined x zero f = refl
occ_addresses_joined x (suc m) f = omega (arith, occ_addresses_joined x m f, occ_addresses_append x (joined m f) (f m))

pub occ_addresses_tabulate : (x m : ℕ) (f : ℕ → Store) → occ x (addresses (tabulate m f)) ≡ sum m (λ j. one x (f j).at)
unfolding tabulate sum occ
occ_addresses_tabulate x zero f = refl
occ_addresses_tabulate x (suc m) f = omega (arith, occ_addresses_tabulate x m f, occ_addresses_append x (tabulate m f) (f m ∷ []))

-- the count is 0 where no store goes to x, and only there
pub addresses_away : (x : ℕ) (ss : List Store) → All (λ s. x ≢ s.at) ss → occ x (addresses ss) ≡ 0
unfolding occ All
addresses_away x [] a = refl
addresses_away x (s ∷ ss) a = omega (arith, one_other x s.at a.0, addresses_away x ss a.1)

pub away_addresses : (x : ℕ) (ss : List Store) → occ x (addresses ss) ≡ 0 → All (λ s. x ≢ s.at) ss
unfolding occ All
away_addresses x [] e = tt
away_addresses x (s ∷ ss) e = (
  λ d. omega (arith, one_same x, subst (λ (y : ℕ). one x y + occ x (addresses ss) ≡ 0) (sym d) e),
  away_addresses x ss (omega arith),
)

-- each store is counted at its own address
pub addresses_counted : (ss : List Store) → All (λ s. 0 < occ s.at (addresses ss)) ss
unfolding occ All
addresses_counted [] = tt
addresses_counted (s ∷ ss) = (
  omega (arith, one_same s.at),
  all_map (λ t. 0 < occ t.at (addresses ss)) (λ t. 0 < one t.at s.at + occ t.at (addresses ss)) (λ t l. omega arith) ss (addresses_counted ss),
)

-- each store stands on b
abbrev pub Stands : List ℕ → List Store → Type 0
Stands b ss = All (λ s. get_or b s.at 0 ≡ s.value) ss

-- if no address is there twice, each does after all
pub performed_holds : (b : List ℕ) (ss : List Store) → ((x : ℕ) → occ x (addresses ss) ≤ 1) → All (λ s. s.at < length b) ss → Stands (performed b ss) ss
unfolding performed occ All
performed_holds b [] once on = tt
performed_holds b (s ∷ ss) once on =
    let c : List ℕ = set b s.at s.value in (
      performed_away c ss s.at (away_addresses s.at ss (omega (arith, once s.at, one_same s.at))) ∙ get_or-set_same b s.at s.value 0 on.0,
      performed_holds c ss (λ x. omega (arith, once x)) (all_map (λ t. t.at < length b) (λ t. t.at < length c) (λ t l. rw (length-set b s.at s.value) l) ss on.1),
    )

-- also after a store elsewhere
pub stands_set : (b : List ℕ) (ss : List Store) (a v : ℕ) → All (λ s. s.at ≢ a) ss → Stands b ss → Stands (set b a v) ss
unfolding All
stands_set b [] a v d h = tt
stands_set b (s ∷ ss) a v d h = (get_or-set_other b a s.at v 0 d.0 ∙ h.0, stands_set b ss a v d.1 h.1)

-- ---- the stores of pages

-- of the words of a block, one at most has address x, and none where x lies in another block
pub block_once : (W x k : ℕ) → sum W (λ j. one x (W * k + j)) ≤ one (x / W) k
block_once W x k = elim (decide (x / W) k) [
  | inl e ↦ rw e (omega (arith, one_same k, sum_once x W (λ j. W * k + j) (λ i j u v. omega arith)))
  | inr n ↦ omega (arith, sum_none x W (λ j. W * k + j) (λ j l e. n (ap (λ (y : ℕ). y / W) e ∙ address_block W k j l)))
]

module _ (fresh : ℕ → ℕ) where
  -- q is none of the m fresh blocks from c on
  pub used_none : (q c m : ℕ) → ((i : ℕ) → c ≤ i → i < c + m → q ≢ fresh i) → used fresh q c m ≡ 0
  unfolding used
  used_none q c m d = sum_none q m (λ i. fresh (c + i)) (λ i l. d (c + i) (omega arith) (omega arith))

  -- they differ
  pub used_once : (q c m : ℕ) → ((i j : ℕ) → c ≤ i → i < j → j < c + m → fresh i ≢ fresh j) → used fresh q c m ≤ 1
  unfolding used
  used_once q c m d = sum_once q m (λ i. fresh (c + i)) (λ i j u v. d (c + i) (c + j) (omega arith) (omega arith) (omega arith))

  pub used_first : (q c m : ℕ) → used fresh q c (suc m) ≡ one q (fresh c) + used fresh q (suc c) m
  used_first q c m = ap (used fresh q c) (omega arith) ∙ used_add fresh q c 1 m ∙ ap₂ ◌+◌ (used_one fresh q c) (ap (λ (y : ℕ). used fresh q y m) (omega arith))

module _ (W : ℕ) (fresh : ℕ → ℕ) where
  -- as many stores go to a word as fresh blocks hold it, at most
  pub stored_once : (ps : List Page) (c x : ℕ) → occ x (addresses (stored W fresh ps c)) ≤ used fresh (x / W) c (length ps)
  unfolding stored occ store
  stored_once [] c x = omega arith
  stored_once (p ∷ ps) c x = omega (
    arith,
    occ_addresses_append x (tabulate W (page_store W (fresh c) p)) (stored W fresh ps (suc c)),
    occ_addresses_tabulate x W (page_store W (fresh c) p),
    block_once W x (fresh c),
    stored_once ps (suc c) x,
    used_first fresh (x / W) c (length ps),
  )

  -- stores that stand are pages that are held
  pub held_of_all : (b : List ℕ) (ps : List Page) (c : ℕ) → Stands b (stored W fresh ps c) → held W fresh b ps c
  unfolding stored held cell store
  held_of_all b [] c a = tt
  held_of_all b (p ∷ ps) c a =
      let Stood : Store → Type 0 = λ s. get_or b s.at 0 ≡ s.value in
      let page : List Store = tabulate W (page_store W (fresh c) p) in
      let rest : List Store = stored W fresh ps (suc c) in (
        tabulate_at Stood W (page_store W (fresh c) p) (all_left Stood page rest a),
        held_of_all b ps (suc c) (all_right Stood page rest a),
      )
