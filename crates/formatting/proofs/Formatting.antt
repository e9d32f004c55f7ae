-- Format: the parts of its plan as they are laid, and its ways out.
use Rattle.std.specs.Prelude.{Ok, Err}
use mathlib.Core.Path.{◌≡◌, refl, sym, ap, ◌∙◌}
use mathlib.Core.Bool.{Bool, true, false}
use mathlib.Core.List.{List, [], ◌∷◌, ◌++◌}
use Prim.Native.Nat.{ℕ, suc, ◌+◌, ◌-◌, ◌*◌, ◌^◌, ◌≤◌, ◌<◌}
use native.Mathlib.Omega.{arith}
use native.Mathlib.Nat.{mul-one, mul-add, mul-le-mul, mul-le-mul_right}
use native.Mathlib.Numerals.{add-one}
use lib.ListN.{length, replicate, length-replicate, replicate-append-replicate}
use borrow.Author.Tests.{le-ltb, lt-ltb}
use Rattle.model.specs.declared.Fault.TheVariants.{WordCount, PlanLength}
use Rattle.model.specs.Lists.{tabulate}
use Rattle.model.specs.Layout.{Kind}
use Rattle.model.specs.Layout.{Layout, Fits, layout_of}
use Rattle.model.specs.Board.{block_count, trailer_word, word_count_sound}
use Rattle.model.specs.Store.{Store, store, barrier, fenced, laid}
use Rattle.model.specs.Plan.{pairs}
use Rattle.model.specs.Fresh.{Page, stored}
use Rattle.model.specs.Format.{inode_page, format_pages, trailer_address, trailer_stores, format_plan}
use Rattle.model.specs.Answers.{answered}
use Rattle.model.specs.Calls.{word_count_fault, format}
use Rattle.model.proofs.Perform.{length_tabulate, page_store, length_stored}
use Rattle.model.proofs.Formatted.{clears, commits, trailer_store, pages, filling, length_pages, format_epochs_law, format_pairs}
use Rattle.model.proofs.Formatted.{fits}
use Rattle.kinds.proofs.Figures.{few_words}
use Rattle.plans.specs.Laying.{block_stores, Laid, PlanResult}
use Rattle.plans.proofs.Laying as Laying
use Rattle.plans.proofs.Onto.{stored_append, stored_one}
use Rattle.plans.proofs.Refusing.{turned, too_short, long_enough}

-- ---- The figures of each kind

-- at most 13 leaves, and the place of the first trailer word
pub few_leaves : (kind : Kind) → (layout_of kind).leaves ≤ 13
few_leaves kind = omega (arith, (fits kind).format_fits)

pub small_place : (kind : Kind) → 2 + (layout_of kind).words * (1 + (layout_of kind).leaves) ≤ 7170
small_place kind = let l : 1 + (layout_of kind).leaves ≤ 14 = omega (arith, few_leaves kind) in omega (arith, mul-le-mul (few_words kind) l)

-- the leaves have addresses
pub pointer_room : (kind : Kind) (j : ℕ) → j < (layout_of kind).leaves → (layout_of kind).words * (2 + j) < 2 ^ 64
pointer_room kind j l = omega (arith, mul-le-mul_right (2 + j) (few_words kind), few_leaves kind)

-- ---- The inode pointers and the leaves

-- a block all zero
abbrev zeros : Page
zeros j = 0

-- l such from block c on
abbrev pub leaves : ℕ → ℕ → ℕ → List Store
leaves W l c = stored W (λ c. c) (replicate l zeros) c

leaves_last : (W l c : ℕ) → leaves W (l + 1) c ≡ leaves W l c ++ tabulate W (page_store W (c + l) zeros)
leaves_last W l c = rw (← replicate-append-replicate l 1 zeros, stored_append W (λ c. c) (replicate l zeros) (zeros ∷ []) c, length-replicate l zeros, stored_one W (λ c. c) zeros (c + l))

-- a page laid for a block
page_laid : {plan plan' : List ℕ} {p : ℕ} (W k : ℕ) (page : Page) → plan' ≡ laid plan p (tabulate W (page_store W k page)) → Laid plan p (tabulate W (page_store W k page)) plan' (p + W)
page_laid W k page e = record { is = e; next = omega (arith, length_tabulate W (page_store W k page)) }

pub leaves_none : (W : ℕ) {p : ℕ} {plan : List ℕ} → Laid plan p (leaves W 0 2) plan p
unfolding stored
leaves_none W = Laying.none

pub leaves_more : (W : ℕ) {p q k : ℕ} {plan plan₁ plan₂ : List ℕ} (l : ℕ) → Laid plan p (leaves W l 2) plan₁ q → k ≡ 2 + l → plan₂ ≡ laid plan₁ q (block_stores W k [])
    → Laid plan p (leaves W (l + 1) 2) plan₂ (q + W)
unfolding block_stores
leaves_more W l a ek e = rw (leaves_last W l 2) (Laying.more a (page_laid W (2 + l) zeros (rw ek at e)))

module _ (g : Layout) where
  -- the first j inode pointers, and one more
  abbrev pub pointers_part : ℕ → List Store
  pointers_part j = tabulate j (page_store g.words 1 (inode_page g))

  pub pointers_none : (plan : List ℕ) → plan ≡ laid plan 2 (pointers_part 0)
  unfolding tabulate
  pointers_none plan = sym (Laying.laid_none plan 2)

  pub pointers_more : (plan : List ℕ) {plan₁ plan₂ : List ℕ} {w v : ℕ} (j : ℕ) → w ≡ g.words → v ≡ inode_page g j → plan₁ ≡ laid plan 2 (pointers_part j)
      → plan₂ ≡ laid plan₁ (2 + j) (store (w + j) v ∷ []) → plan₂ ≡ laid plan 2 (pointers_part (j + 1))
  pointers_more plan {w = w} {v} j ew ev e₁ e₂ =
      let at : w + j ≡ g.words * 1 + j = omega (arith, ew, mul-one g.words) in
      e₂ ∙ rw (e₁, at, ev) (sym (Laying.laid_more plan 2 j (page_store g.words 1 (inode_page g))))

  -- all of them
  pub pointers_all : (plan : List ℕ) {plan₁ : List ℕ} {j : ℕ} → j ≡ g.words → plan₁ ≡ laid plan 2 (pointers_part j)
      → plan₁ ≡ laid plan 2 (stored g.words (λ c. c) (inode_page g ∷ []) 1)
  pointers_all plan z e = rw (stored_one g.words (λ c. c) (inode_page g) 1) (rw z at e)

  -- a word of the inode pointer block
  pub word_some : {j n v : ℕ} → n ≡ g.leaves → j < n → v ≡ g.words * (2 + j) → v ≡ inode_page g j
  unfolding inode_page
  word_some {j} {n} en l e = e ∙ rw (lt-ltb j g.leaves (omega arith))

  pub word_none : {j n : ℕ} → n ≡ g.leaves → n ≤ j → 0 ≡ inode_page g j
  unfolding inode_page
  word_none {j} {n} en l = rw (le-ltb j g.leaves (omega arith))

  inodes_laid : (plan : List ℕ) {plan₁ plan₂ : List ℕ} → plan₁ ≡ laid plan 2 (stored g.words (λ c. c) (inode_page g ∷ []) 1)
      → plan₂ ≡ laid plan₁ (2 + g.words) (leaves g.words g.leaves 2)
      → plan₂ ≡ laid plan 2 (stored g.words (λ c. c) (format_pages g) 1)
  unfolding stored format_pages
  inodes_laid plan {plan₁} e a =
      let W : ℕ = g.words in
      let one : Laid plan 2 (tabulate W (page_store W 1 (inode_page g))) plan₁ (2 + W) = page_laid W 1 (inode_page g) (rw (stored_one W (λ c. c) (inode_page g) 1) at e) in
      (Laying.more one (record { is = a; next = refl })).is

  -- ---- The trailer

  -- the first j of its words from word 1 on
  abbrev pub trailer_part : List ℕ → ℕ → List Store
  trailer_part b j = tabulate j (trailer_store g b)

  pub trailer_none : {plan : List ℕ} {p : ℕ} (b : List ℕ) → Laid plan p (trailer_part b 0) plan p
  unfolding tabulate
  trailer_none b = Laying.none

  pub trailer_more : {plan plan₁ plan₂ : List ℕ} {p q n k a w : ℕ} (b : List ℕ) (j : ℕ) → n ≡ block_count g b → k ≡ block_count g b - 1 → a ≡ g.words * k → w ≡ trailer_word g n (j + 1)
      → Laid plan p (trailer_part b j) plan₁ q → plan₂ ≡ laid plan₁ q (store (a + j + 1) w ∷ []) → Laid plan p (trailer_part b (j + 1)) plan₂ (q + 1)
  unfolding trailer_address tabulate
  trailer_more {plan} {plan₁} {plan₂} {p} {q} {n} {k} {a} {w} b j en ek ea ew l e =
      let at : a + j + 1 ≡ g.words * (block_count g b - 1) + suc j = rw (ea, ek) (omega arith) in
      let value : w ≡ trailer_word g (block_count g b) (suc j) = ew ∙ rw (en, add-one j) in
      let last : plan₂ ≡ laid plan₁ q (trailer_store g b j ∷ []) = e ∙ rw (at, value) in
      rw (add-one j) (Laying.more l (record { is = last; next = omega arith }))

  -- ---- The plan

  module _ (fit : Fits g) (b : List ℕ) where
    -- its pairs: three epochs with barriers between
    format_fenced : pairs (format_plan g b) ≡ clears g b ∷ barrier ∷ (pages g ++ trailer_stores g b) ++ (barrier ∷ commits g b ∷ [])
    unfolding pairs fenced filling
    format_fenced = ap fenced (format_epochs_law g fit b)

    pub format_laid : (p₀ : List ℕ) {p₁ p₂ p₃ p₄ p₅ p₆ p₇ : List ℕ} {k a v : ℕ} (p q : ℕ) → k ≡ block_count g b - 1
        → a ≡ g.words * k → v ≡ g.words + 1 → p ≡ 2 + g.words * (1 + g.leaves) → q ≡ p + g.words
        → p₁ ≡ laid p₀ 0 (store a 0 ∷ []) → p₂ ≡ laid p₁ 1 (barrier ∷ []) → p₃ ≡ laid p₂ 2 (stored g.words (λ c. c) (inode_page g ∷ []) 1)
        → p₄ ≡ laid p₃ (2 + g.words) (leaves g.words g.leaves 2)
        → p₅ ≡ laid p₄ (2 + g.words * (1 + g.leaves)) (trailer_stores g b)
        → p₆ ≡ laid p₅ (q - 1) (barrier ∷ []) → p₇ ≡ laid p₆ q (store a v ∷ []) → p₇ ≡ laid p₀ 0 (pairs (format_plan g b))
    unfolding trailer_address trailer_stores pages
    format_laid p₀ {p₂ = p₂} {k = k} {a} {v} p q ek ea ev ep eq e₁ e₂ e₃ e₄ e₅ e₆ e₇ =
        let W : ℕ = g.words in
        let at : a ≡ trailer_address g b 0 = rw (ea, ek) (omega arith) in
        let inodes : 2 + W * (1 + g.leaves) ≡ 2 + length (stored W (λ c. c) (format_pages g) 1) =
        omega (arith, length_stored W (λ c. c) (format_pages g) 1, ap (λ (x : ℕ). W * x) (length_pages g)) in
        let trailer : q - 1 ≡ 2 + W * (1 + g.leaves) + length (trailer_stores g b) = omega (arith, length_tabulate (W - 1) (trailer_store g b), fit.trailer_fits) in
        let next : q - 1 + 1 ≡ q = omega (arith, fit.trailer_fits) in
        let ends = Laying.more (Laying.one e₆) (rw (← next) at (Laying.one e₇)) in
        let middle = Laying.more (record { is = inodes_laid p₂ e₃ e₄; next = inodes }) (record { is = e₅; next = trailer }) in
        rw (format_fenced, ← at, ← ev) (Laying.more (Laying.more (Laying.one e₁) (Laying.one e₂)) (Laying.more middle ends)).is

-- ---- Ways out

module _ (kind : Kind) (b : List ℕ) where
  abbrev plan : List Store
  plan = pairs (format_plan (layout_of kind) b)

  pub miscounted : {l : List ℕ} {w : Bool} → w ≡ word_count_sound (layout_of kind) b → w ≡ false → PlanResult (format (layout_of kind) b l) (Err WordCount) l
  unfolding format word_count_fault answered
  miscounted {l} e z = turned (word_count_fault (layout_of kind) b) plan l 0 (sym (rw (← e, z))) refl

  module _ {w : Bool} (e : w ≡ word_count_sound (layout_of kind) b) (z : w ≡ true) (n : ℕ) (en : n ≡ (layout_of kind).words * ((layout_of kind).leaves + 2) + 3) where
    counts : Ok 0 ≡ answered (word_count_fault (layout_of kind) b) 0
    unfolding word_count_fault answered
    counts = sym (rw (← e, z))

    -- *Its plan has 83 pairs*, on a house board
    count : n ≡ 0 + length plan
    count = omega (arith, format_pairs (layout_of kind) (fits kind) b)

    pub short : {l : List ℕ} → length l < 2 * n → PlanResult (format (layout_of kind) b l) (Err PlanLength) l
    unfolding format
    short {l} h = too_short (word_count_fault (layout_of kind) b) plan l 0 counts refl count (omega arith)

    pub done : (l : List ℕ) {l' : List ℕ} → 2 * n ≤ length l → l' ≡ laid l 0 plan → PlanResult (format (layout_of kind) b l) (Ok n) l'
    unfolding format
    done l h e' = long_enough (word_count_fault (layout_of kind) b) plan l 0 counts refl count (omega arith) e'

-- the count by its parts
pub whole : (kind : Kind) {p w : ℕ} → p ≡ 2 + (layout_of kind).words * (1 + (layout_of kind).leaves) → w ≡ (layout_of kind).words
    → p + w + 1 ≡ (layout_of kind).words * ((layout_of kind).leaves + 2) + 3
whole kind e f = let g = layout_of kind in omega (arith, e, f, mul-add g.words 1 g.leaves, mul-add g.words g.leaves 2)
