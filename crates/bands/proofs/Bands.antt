-- The bands for W words a block: that of height h begins one past the span of h - 1, and ends with its own. The house's sheet has those for 8 words.
use mathlib.Core.Path.{◌≡◌, refl, sym, ◌∙◌}
use mathlib.Core.Logic.{inl, inr}
use mathlib.Core.Bool.{Bool, true, false, cond}
use mathlib.Core.List.{List, [], ◌∷◌, ◌++◌, append_assoc, append-nil}
use Prim.Native.Nat.{ℕ, zero, suc, ◌+◌, ◌≤◌, ◌<◌}
use native.Mathlib.Omega.{arith}
use native.Mathlib.Nat.{zero-add}
use lib.ListN.{length}
use lib.Arith.{le-zero}
use lib.Dec.{leb}
use borrow.Author.Tests.{le-leb, lt-leb}
use Rattle.model.specs.Lists.{filter, cons_if}
use Rattle.model.specs.Tree.{span, least}
use Rattle.model.proofs.Cases.{split}
use Rattle.model.proofs.Spans.{house_spans, span_mono, least_reaches, least_least}
use Rattle.bands.specs.Sheet.{Band, row, sheet, lies, height_in, sheet_height}
use Rattle.bands.specs.Claims.{SheetRule, BandsRule, LeastRule}

-- ---- Rows one after another

lying_append : (xs ys : List Band) (e : ℕ) → length (filter (lies e) (xs ++ ys)) ≡ length (filter (lies e) xs) + length (filter (lies e) ys)
unfolding filter cons_if
lying_append [] ys e = omega arith
lying_append (x ∷ xs) ys e = go (lies e x) (lying_append xs ys e)
  where
    go : (t : Bool) → length (filter (lies e) (xs ++ ys)) ≡ length (filter (lies e) xs) + length (filter (lies e) ys)
        → length (cons_if t x (filter (lies e) (xs ++ ys))) ≡ length (cons_if t x (filter (lies e) xs)) + length (filter (lies e) ys)
    go true l = omega (arith, l)
    go false l = l

lying_one : (r : Band) (e : ℕ) → length (filter (lies e) (r ∷ [])) ≡ cond (lies e r) 1 0
unfolding filter cons_if
lying_one r e = go (lies e r)
  where
    go : (t : Bool) → length (cons_if t r []) ≡ cond t 1 0
    go true = refl
    go false = refl

-- ---- The bands

module _ (W : ℕ) where
  -- where the band of height h begins
  unfoldable pub first : ℕ → ℕ
  first zero = 0
  first (suc h) = span W h + 1

  abbrev band : ℕ → Band
  band h = row (first h) (span W h) h

  -- those of heights 0 to h
  unfoldable bands : ℕ → List Band
  bands zero = band 0 ∷ []
  bands (suc h) = bands h ++ (band (suc h) ∷ [])

module _ (W : ℕ) (pos : 0 < W) where
  -- ---- Where a size lies

  lies_from : (h e : ℕ) → first W h ≤ e → lies e (band W h) ≡ leb e (span W h)
  unfolding lies row
  lies_from h e l = rw (le-leb (first W h) e l)

  lies_not : (h e : ℕ) → e ≤ span W h → lies e (band W (suc h)) ≡ false
  unfolding lies row first
  lies_not h e l = rw (lt-leb (span W h + 1) e (omega arith))

  past_first : (h e : ℕ) → span W h < e → first W (suc h) ≤ e
  unfolding first
  past_first h e more = omega arith

  higher : (h e : ℕ) → e ≤ span W h → e ≤ span W (suc h)
  higher h e l = omega (arith, span_mono W pos h (suc h) (omega arith))

  -- ---- The height

  bands_height : (rest : List Band) (h e : ℕ) → height_in (bands W h ++ rest) e ≡ cond (leb e (span W h)) (least W h e) (height_in rest e)
  unfolding bands height_in row least first
  bands_height rest zero e = rw (lies_from 0 e (omega arith))
  bands_height rest (suc h) e = rw (append_assoc (bands W h) (band W (suc h) ∷ []) rest, bands_height (band W (suc h) ∷ rest) h e) (elim (split e (span W h)) [
    | inl l ↦ rw (le-leb e (span W h) l, le-leb e (span W (suc h)) (higher h e l))
    | inr more ↦ rw (lt-leb e (span W h) more, lies_from (suc h) e (past_first h e more))
  ])

  -- the height of the band that e lies in
  least_is : (h H e : ℕ) → h ≤ H → first W h ≤ e → e ≤ span W h → h ≡ least W H e
  unfolding least first
  least_is h zero e l from to = le-zero l
  least_is h (suc H) e l from to = elim (split h H) [
    | inl v ↦ rw (le-leb e (span W H) (omega (arith, span_mono W pos h H v))) (least_is h H e v from to)
    | inr v ↦ let top : h ≡ suc H = omega arith in rw (lt-leb e (span W H) (omega (arith, rw top at from))) top
  ]

  -- ---- Each size up to the greatest span lies in one band, and every other in none

  bands_once : (h e : ℕ) → length (filter (lies e) (bands W h)) ≡ cond (leb e (span W h)) 1 0
  unfolding bands first
  bands_once zero e = rw (lying_one (band W 0) e, lies_from 0 e (omega arith))
  bands_once (suc h) e = lying_append (bands W h) (band W (suc h) ∷ []) e ∙ rw (bands_once h e, lying_one (band W (suc h)) e) (elim (split e (span W h)) [
    | inl l ↦ rw (le-leb e (span W h) l, le-leb e (span W (suc h)) (higher h e l), lies_not h e l)
    | inr more ↦ rw (lt-leb e (span W h) more, lies_from (suc h) e (past_first h e more)) (zero-add (cond (leb e (span W (suc h))) 1 0))
  ])

-- ---- The house's sheet

sheet_bands : sheet ≡ bands 8 3 ++ []
unfolding sheet bands row first span
sheet_bands = refl

sheet_height_law : (e : ℕ) → sheet_height e ≡ cond (leb e 32768) (least 8 3 e) 0
unfolding sheet_height height_in span
sheet_height_law e = rw sheet_bands (bands_height 8 (omega arith) [] 3 e)

pub least_rule : LeastRule
least_rule e l = sheet_height_law e ∙ rw (le-leb e 32768 l)

-- what the code answers in the band of height h, and off the sheet
in_band : (h e : ℕ) → h ≤ 3 → first 8 h ≤ e → e ≤ span 8 h → e ≤ 32768 → sheet_height e ≡ h
in_band h e l from to most = least_rule e most ∙ sym (least_is 8 (omega arith) h 3 e l from to)

pub in_first : (e : ℕ) → e ≤ 64 → sheet_height e ≡ 0
unfolding first span
in_first e to = in_band 0 e (omega arith) (omega arith) (omega arith) (omega arith)

pub in_second : (e : ℕ) → 64 < e → e ≤ 512 → sheet_height e ≡ 1
unfolding first span
in_second e from to = in_band 1 e (omega arith) (omega arith) (omega arith) (omega arith)

pub in_third : (e : ℕ) → 512 < e → e ≤ 4096 → sheet_height e ≡ 2
unfolding first span
in_third e from to = in_band 2 e (omega arith) (omega arith) (omega arith) (omega arith)

pub in_fourth : (e : ℕ) → 4096 < e → e ≤ 32768 → sheet_height e ≡ 3
unfolding first span
in_fourth e from to = in_band 3 e (omega arith) (omega arith) (omega arith) (omega arith)

pub off_sheet : (e : ℕ) → 32768 < e → sheet_height e ≡ 0
off_sheet e more = sheet_height_law e ∙ rw (lt-leb e 32768 more)

pub sheet_rule : SheetRule
sheet_rule e l = rw (least_rule e l) (least_reaches 8 (omega arith) 3 e (rw house_spans.3 l), least_least 8 (omega arith) 3 e)

pub bands_rule : BandsRule
unfolding span
bands_rule e = rw (sheet_bands, append-nil (bands 8 3)) (bands_once 8 (omega arith) 3 e)
