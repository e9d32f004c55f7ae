-- Performing stores.
use mathlib.Core.Path.{◌≡◌, refl, sym, ap, ap₂, ◌∙◌}
use mathlib.Core.Logic.{◌≢◌, inl, inr}
use mathlib.Core.Bool.{Bool, true, false, not}
use mathlib.Core.List.{List, [], ◌∷◌, ◌++◌, append-nil}
use Prim.Native.Nat.{ℕ, zero, suc, ◌+◌, ◌-◌, ◌*◌, ◌/◌, ◌%◌, ◌^◌, ◌≤◌, ◌<◌}
use native.Mathlib.Omega.{arith}
use native.Mathlib.Nat.{add-zero, add-suc, suc-add, mul_comm, mul-suc, mul-zero, mul-le-mul_left}
use lib.ListN.{length, get_or, set, length-set, length-append}
use lib.Seq.{get_or-set_same, get_or-set_other}
use lib.Arith.{digits_div, digits_mod}
use borrow.Author.Tests.{ne_eqb}
use Rattle.model.specs.Lists.{tabulate, cons_if, filter, concat}
use Rattle.model.specs.Tree.{cell}
use Rattle.model.specs.Store.{Store, store, barrier, is_barrier, performed, stores, fenced}
use Rattle.model.specs.Fresh.{Page, stored}
use Rattle.model.proofs.Cases.{decide}

-- P of each
unfoldable pub All : {A : Type 0} → (A → Type 0) → List A → Type 0
All P [] = Unit
All P (x ∷ xs) = P x × All P xs

module _ {A : Type 0} (P : A → Type 0) where
  pub all_append : (xs ys : List A) → All P xs → All P ys → All P (xs ++ ys)
  unfolding All
  all_append [] ys p q = q
  all_append (x ∷ xs) ys p q = (p.0, all_append xs ys p.1 q)

  pub all_tabulate : (m : ℕ) (f : ℕ → A) → ((j : ℕ) → j < m → P (f j)) → All P (tabulate m f)
  unfolding All tabulate
  all_tabulate zero f p = tt
  all_tabulate (suc m) f p = all_append (tabulate m f) (f m ∷ []) (all_tabulate m f (λ j l. p j (omega arith))) (p m (omega arith), tt)

pub length_tabulate : {A : Type 0} (m : ℕ) (f : ℕ → A) → length (tabulate m f) ≡ m
unfolding tabulate
length_tabulate zero f = refl
length_tabulate (suc m) f = length-append (tabulate m f) (f m ∷ []) ∙ omega (arith, length_tabulate m f)

-- ---- performed

pub length_performed : (b : List ℕ) (ss : List Store) → length (performed b ss) ≡ length b
unfolding performed
length_performed b [] = refl
length_performed b (s ∷ ss) = length_performed (set b s.at s.value) ss ∙ length-set b s.at s.value

pub performed_append : (b : List ℕ) (xs ys : List Store) → performed b (xs ++ ys) ≡ performed (performed b xs) ys
unfolding performed
performed_append b [] ys = refl
performed_append b (x ∷ xs) ys = performed_append (set b x.at x.value) xs ys

-- a word that no store goes to stays
pub performed_away : (b : List ℕ) (ss : List Store) (x : ℕ) → All (λ s. x ≢ s.at) ss → get_or (performed b ss) x 0 ≡ get_or b x 0
unfolding performed All
performed_away b [] x a = refl
performed_away b (s ∷ ss) x a = performed_away (set b s.at s.value) ss x a.1 ∙ get_or-set_other b s.at x s.value 0 a.0

-- stores on the board, to addresses that differ, all stand
pub performed_tabulate : (b : List ℕ) (m : ℕ) (s : ℕ → Store) → ((j : ℕ) → j < m → (s j).at < length b) → ((i j : ℕ) → i < j → j < m → (s i).at ≢ (s j).at)
    → (j : ℕ) → j < m → get_or (performed b (tabulate m s)) (s j).at 0 ≡ (s j).value
unfolding tabulate performed
performed_tabulate b zero s on differ j l = absurd (omega arith)
performed_tabulate b (suc m) s on differ j l =
    let c = performed b (tabulate m s) in
    rw (performed_append b (tabulate m s) (s m ∷ [])) (elim (decide j m) [
      | inl e ↦ rw e (get_or-set_same c (s m).at (s m).value 0 (rw (length_performed b (tabulate m s)) (on m (omega arith))))
      | inr d ↦ get_or-set_other c (s m).at (s j).at (s m).value 0 (differ j m (omega arith) (omega arith))
          ∙ performed_tabulate b m s (λ i u. on i (omega arith)) (λ i k u v. differ i k u (omega arith)) j (omega arith)
    ])

-- ---- barriers

-- no store of these is a barrier
abbrev pub Plain : List Store → Type 0
Plain ss = All (λ s. s.at ≢ 2 ^ 64 - 1) ss

pub stores_plain : (ss : List Store) → Plain ss → stores ss ≡ ss
unfolding stores filter All is_barrier cons_if
stores_plain [] p = refl
stores_plain (s ∷ ss) p = rw (ne_eqb s.at (2 ^ 64 - 1) p.0) (ap (λ (r : List Store). s ∷ r) (stores_plain ss p.1))

cons_if_append : {A : Type 0} (t : Bool) (x : A) (xs ys : List A) → cons_if t x (xs ++ ys) ≡ cons_if t x xs ++ ys
unfolding cons_if
cons_if_append true x xs ys = refl
cons_if_append false x xs ys = refl

pub filter_append : {A : Type 0} (p : A → Bool) (xs ys : List A) → filter p (xs ++ ys) ≡ filter p xs ++ filter p ys
unfolding filter
filter_append p [] ys = refl
filter_append p (x ∷ xs) ys = ap (cons_if (p x) x) (filter_append p xs ys) ∙ cons_if_append (p x) x (filter p xs) (filter p ys)

pub stores_append : (xs ys : List Store) → stores (xs ++ ys) ≡ stores xs ++ stores ys
unfolding stores
stores_append xs ys = filter_append (λ s. not (is_barrier s)) xs ys

stores_barrier : (ss : List Store) → stores (barrier ∷ ss) ≡ stores ss
unfolding stores filter cons_if is_barrier barrier store
stores_barrier ss = refl

-- the stores among the pairs of epochs are the epochs' own
pub stores_fenced : (es : List (List Store)) → All Plain es → stores (fenced es) ≡ concat es
unfolding fenced concat All
stores_fenced [] p = stores_plain [] tt
stores_fenced (e ∷ []) p = stores_plain e p.0 ∙ sym (append-nil e)
stores_fenced (e ∷ d ∷ es) p = stores_append e (barrier ∷ fenced (d ∷ es)) ∙ ap₂ ◌++◌ (stores_plain e p.0) (stores_barrier (fenced (d ∷ es)) ∙ stores_fenced (d ∷ es) p.1)

-- ---- the stores of pages

-- a word's block, from its address
pub address_block : (W k j : ℕ) → j < W → (W * k + j) / W ≡ k
address_block W k j l = rw (mul_comm W k) (digits_div k l)

-- and its place there
pub address_place : (W k j : ℕ) → j < W → (W * k + j) % W ≡ j
address_place W k j l = rw (mul_comm W k) (digits_mod k l)

-- an address in another block than k
pub block_away : (W k j q : ℕ) → j < W → q / W ≢ k → q ≢ W * k + j
block_away W k j q l d e = d (ap (λ (x : ℕ). x / W) e ∙ address_block W k j l)

-- a block below B lies on a board of B blocks
pub block_on : (W k B : ℕ) → k < B → W * k + W ≤ W * B
block_on W k B l = omega (arith, mul-le-mul_left W l, mul-suc W k)

-- words of different blocks have different addresses
pub blocks_differ : (W k k' j j' : ℕ) → j < W → j' < W → k ≢ k' → W * k + j ≢ W * k' + j'
blocks_differ W k k' j j' l l' d = block_away W k' j' (W * k + j) l' (λ e. d (sym (address_block W k j l) ∙ e))

-- word j of a page, stored to block k
abbrev pub page_store : ℕ → ℕ → Page → ℕ → Store
page_store W k p j = store (W * k + j) (p j)

module _ (W : ℕ) (fresh : ℕ → ℕ) where
  pub length_stored : (ps : List Page) (c : ℕ) → length (stored W fresh ps c) ≡ W * length ps
  unfolding stored
  length_stored [] c = sym (mul-zero W)
  length_stored (p ∷ ps) c = rw (length-append (tabulate W (page_store W (fresh c) p)) (stored W fresh ps (suc c)))
      (omega (arith, length_tabulate W (page_store W (fresh c) p), length_stored ps (suc c), mul-suc W (length ps)))

  -- they go to the fresh blocks
  pub stored_blocks : (P : ℕ → Type 0) (ps : List Page) (c : ℕ) → ((i j : ℕ) → c ≤ i → i < c + length ps → j < W → P (W * fresh i + j)) → All (λ s. P s.at) (stored W fresh ps c)
  unfolding stored All store
  stored_blocks P [] c p = tt
  stored_blocks P (f ∷ ps) c p = all_append (λ s. P s.at) (tabulate W (page_store W (fresh c) f)) (stored W fresh ps (suc c))
      (all_tabulate (λ s. P s.at) W (page_store W (fresh c) f) (λ j l. p c j (omega arith) (omega arith) l))
      (stored_blocks P ps (suc c) (λ i j u v l. p i j (omega arith) (omega arith) l))

  -- and once they are performed, those blocks hold the pages
  pub stored_cell : (b : List ℕ) (ps : List Page) (c : ℕ) → ((i : ℕ) → c ≤ i → i < c + length ps → W * fresh i + W ≤ length b)
      → ((i j : ℕ) → c ≤ i → i < j → j < c + length ps → fresh i ≢ fresh j)
      → (i j : ℕ) → i < length ps → j < W → cell W (performed b (stored W fresh ps c)) (fresh (c + i)) j ≡ get_or ps i (λ x. 0) j
  unfolding stored cell store
  stored_cell b [] c on differ i j u l = absurd (omega arith)
  stored_cell b (p ∷ ps) c on differ zero j u l =
      let s : ℕ → Store = page_store W (fresh c) p in
      rw (add-zero c, performed_append b (tabulate W s) (stored W fresh ps (suc c))) (
      performed_away (performed b (tabulate W s)) (stored W fresh ps (suc c)) (W * fresh c + j) (
      stored_blocks (λ x. W * fresh c + j ≢ x) ps (suc c) (λ i i' v w m. blocks_differ W (fresh c) (fresh i) j i' l m (differ c i (omega arith) (omega arith) (omega arith)))
      ) ∙ performed_tabulate b W s (λ i m. omega (arith, on c (omega arith) (omega arith))) (λ i i' v w. omega arith) j l
      )
  stored_cell b (p ∷ ps) c on differ (suc i) j u l =
      let s : ℕ → Store = page_store W (fresh c) p in
      rw (add-suc c i, ← suc-add c i, performed_append b (tabulate W s) (stored W fresh ps (suc c))) (
      stored_cell (performed b (tabulate W s)) ps (suc c)
      (λ k v w. omega (arith, on k (omega arith) (omega arith), length_performed b (tabulate W s)))
      (λ k k' v w m. differ k k' (omega arith) w (omega arith)) i j (omega arith) l
      )
