-- Which blocks a walk visits: those of the tree's live blocks that span the byte, and no others.
use Rattle.std.specs.Prelude.{Some}
use mathlib.Core.Path.{◌≡◌, refl, sym, ap, ◌∙◌}
use mathlib.Core.Logic.{◌≢◌, ◌⊎◌, inl, inr}
use mathlib.Core.Bool.{Bool, true, false, and-false}
use mathlib.Core.List.{List, [], ◌∷◌, ◌++◌, map, map-append}
use Prim.Native.Nat.{ℕ, zero, suc, ◌+◌, ◌-◌, ◌*◌, ◌/◌, ◌%◌, ◌≤◌, ◌<◌}
use native.Mathlib.Omega.{arith}
use native.Mathlib.Nat.{mul-le-mul_right}
use lib.ListN.{length}
use lib.Dec.{T}
use borrow.Author.Tests.{le-leb, lt-leb, lt-ltb, le-ltb}
use Rattle.model.specs.Lists.{joined, sum, cons_if, filter, distinct, occ}
use Rattle.model.specs.Tree.{ending, visit, span, cell, link, walk, visits, blocks}
use Rattle.model.proofs.Cases.{either, split, length_joined}
use Rattle.model.proofs.Sums.{sum_at, sum_grow, sum_zero}
use Rattle.model.proofs.Counting.{one_same, occ_joined, occ_distinct}
use Rattle.model.proofs.Perform.{filter_append}
use Rattle.model.proofs.Spans.{child}
use Rattle.model.proofs.Trees.{walk_dead, walk_null}
use Rattle.model.proofs.Descent.{hole≢block, ending_is}
use Rattle.visits.specs.Placed.{Placed, over, placed}
use Rattle.visits.proofs.Levels.{visits_dead, visits_null}

-- ---- Lists and sums

-- where one term alone is not 0
sum_alone : (m : ℕ) (f : ℕ → ℕ) (j : ℕ) → j < m → ((i : ℕ) → i < m → i ≢ j → f i ≡ 0) → sum m f ≡ f j
sum_alone m f j l none = omega (
  arith,
  sum_at m f j l,
  sum_grow m f (λ i. 0) j (f j) (omega arith) (λ i u d. omega (arith, none i u d)),
  sum_zero m (λ i. 0) (λ i u. refl),
)

module _ {A : Type 0} where
  map_joined : (f : A → ℕ) (m : ℕ) (x : ℕ → List A) → map f (joined m x) ≡ joined m (λ j. map f (x j))
  unfolding joined
  map_joined f zero x = refl
  map_joined f (suc m) x = map-append f (joined m x) (x m) ∙ ap (λ (l : List ℕ). l ++ map f (x m)) (map_joined f m x)

  module _ (p : A → Bool) where
    filter_joined : (m : ℕ) (x : ℕ → List A) → filter p (joined m x) ≡ joined m (λ j. filter p (x j))
    unfolding joined filter
    filter_joined zero x = refl
    filter_joined (suc m) x = filter_append p (joined m x) (x m) ∙ ap (λ (l : List A). l ++ filter p (x m)) (filter_joined m x)

    -- how many of each list are kept
    kept_joined : (m : ℕ) (x : ℕ → List A) → length (filter p (joined m x)) ≡ sum m (λ j. length (filter p (x j)))
    kept_joined m x = rw (filter_joined m x) (length_joined m (λ j. filter p (x j)))

    -- how often something occurs among those that are kept of each
    occ_kept_joined : (f : A → ℕ) (q m : ℕ) (x : ℕ → List A) → occ q (map f (filter p (joined m x))) ≡ sum m (λ j. occ q (map f (filter p (x j))))
    occ_kept_joined f q m x = rw (filter_joined m x, map_joined f m (λ j. filter p (x j))) (occ_joined q m (λ j. map f (filter p (x j))))

    -- none occurs more often among those that are kept
    occ_kept : (f : A → ℕ) (q : ℕ) (l : List A) → occ q (map f (filter p l)) ≤ occ q (map f l)
    unfolding filter cons_if occ
    occ_kept f q [] = omega arith
    occ_kept f q (x ∷ l) = elim (either (p x)) [ inl e ↦ rw e (omega (arith, occ_kept f q l)) | inr e ↦ rw e (omega (arith, occ_kept f q l)) ]

    pub distinct_kept : (f : A → ℕ) (l : List A) → ((q : ℕ) → occ q (map f l) ≤ 1) → T (distinct (map f (filter p l)))
    distinct_kept f l once = occ_distinct (map f (filter p l)) (λ q. omega (arith, once q, occ_kept f q l))

-- ---- Blocks over a byte

-- byte x is none of the s bytes from a on
abbrev pub Outside : ℕ → ℕ → ℕ → Type 0
Outside x a s = (x < a) ⊎ (a + s ≤ x)

over_outside : (x : ℕ) (p : Placed) → Outside x p.from p.bytes → over x p ≡ false
unfolding over
over_outside x p (inl l) = rw (lt-leb p.from x l)
over_outside x p (inr l) = rw (le-ltb x (p.from + p.bytes) l, and-false)

over_inside : (a i k s : ℕ) → i < s → over (a + i) (record { block = k; from = a; bytes = s }) ≡ true
unfolding over
over_inside a i k s l =
    let low : a ≤ a + i = omega arith in
    let high : a + i < a + s = omega arith in
    rw (le-leb a (a + i) low, lt-ltb (a + i) (a + s) high)

module _ (W : ℕ) (b : List ℕ) where
  -- child j of block k, where children have height h
  abbrev child_placed : ℕ → ℕ → ℕ → ℕ → ℕ → List Placed
  child_placed h k n a j = placed W b h (cell W b k j / W) (n - j * span W h) (a + j * span W h)

  -- what is placed are the live blocks
  pub placed_blocks : (h k n a : ℕ) → map (λ p. p.block) (placed W b h k n a) ≡ blocks W b h k n
  unfolding placed blocks
  placed_blocks zero zero n a = refl
  placed_blocks zero (suc k) zero a = refl
  placed_blocks zero (suc k) (suc n) a = refl
  placed_blocks (suc h) zero n a = refl
  placed_blocks (suc h) (suc k) zero a = refl
  placed_blocks (suc h) (suc k) (suc n) a =
      let s : ℕ = span W h in
      ap (λ (l : List ℕ). suc k ∷ l) (map_joined (λ p. p.block) W (child_placed h (suc k) (suc n) a)
      ∙ (λ t. joined W (λ j. placed_blocks h (cell W b (suc k) j / W) (suc n - j * s) (a + j * s) t)))

  -- a byte outside the tree is outside its children
  child_outside : (h j x a : ℕ) → j < W → Outside x a (span W (suc h)) → Outside x (a + j * span W h) (span W h)
  unfolding span
  child_outside h j x a l (inl u) = inl (omega arith)
  child_outside h j x a l (inr u) = inr (omega (arith, mul-le-mul_right (span W h) l))

  -- none of it lies over such a byte
  pub none_over : (h k n a x : ℕ) → Outside x a (span W h) → length (filter (over x) (placed W b h k n a)) ≡ 0
  unfolding placed filter cons_if
  none_over zero zero n a x out = refl
  none_over zero (suc k) zero a x out = refl
  none_over zero (suc k) (suc n) a x out = rw (over_outside x (record { block = suc k; from = a; bytes = span W zero }) out)
  none_over (suc h) zero n a x out = refl
  none_over (suc h) (suc k) zero a x out = refl
  none_over (suc h) (suc k) (suc n) a x out =
      let s : ℕ = span W h in
      let under : ℕ → List Placed = child_placed h (suc k) (suc n) a in
      rw (over_outside x (record { block = suc k; from = a; bytes = span W (suc h) }) out, kept_joined (over x) W under)
      (sum_zero W (λ j. length (filter (over x) (under j)))
      (λ j l. none_over h (cell W b (suc k) j / W) (suc n - j * s) (a + j * s) x (child_outside h j x a l out)))

  module _ (pos : 0 < W) where
    -- a byte of one child is outside of the others
    others_outside : (h i j a : ℕ) → j ≢ i / span W h → i < span W (suc h) → Outside (a + i) (a + j * span W h) (span W h)
    others_outside h i j a d l = let s : ℕ = span W h in let q : ℕ = i / s in let place = child W pos h i l in elim (split j q) [
      | inl u ↦ let v : j < q = omega arith in inr (omega (arith, place.there, mul-le-mul_right s v))
      | inr u ↦ inl (omega (arith, place.there, place.inside, mul-le-mul_right s u))
    ]

    -- as many lie over a byte of it as the walk there visits
    pub path_counts : (h k n a i : ℕ) → i < span W h → visits W b h k n i ≡ length (filter (over (a + i)) (placed W b h k n a))
    unfolding visits visit link placed filter cons_if
    path_counts zero zero n a i l = refl
    path_counts zero (suc k) zero a i l = refl
    path_counts zero (suc k) (suc n) a i l = rw (over_inside a i (suc k) (span W zero) l)
    path_counts (suc h) zero n a i l = visits_null W b (suc h) n i
    path_counts (suc h) (suc k) zero a i l = visits_dead W b (suc h) (suc k) i
    path_counts (suc h) (suc k) (suc n) a i l =
        let s : ℕ = span W h in
        let q : ℕ = i / s in
        let place = child W pos h i l in
        let under : ℕ → List Placed = child_placed h (suc k) (suc n) a in
        let count : ℕ → ℕ = λ j. length (filter (over (a + i)) (under j)) in
        let alone : sum W count ≡ count q = sum_alone W count q place.which
        (λ j u d. none_over h (cell W b (suc k) j / W) (suc n - j * s) (a + j * s) (a + i) (others_outside h i j a d l)) in
        let below = path_counts h (cell W b (suc k) q / W) (suc n - q * s) (a + q * s) (i % s) place.inside in
        let same : a + q * s + i % s ≡ a + i = omega (arith, place.there) in
        rw (over_inside a i (suc k) (span W (suc h)) l) (omega (arith, kept_joined (over (a + i)) W under, alone, rw same at below))

    -- the block where the walk ends is one of them
    pub end_over : (h k n a i q : ℕ) → i < span W h → walk W b h k n i ≡ Some q → 0 < occ q (map (λ p. p.block) (filter (over (a + i)) (placed W b h k n a)))
    unfolding walk ending placed filter cons_if occ link
    end_over zero zero n a i q l e = absurd (hole≢block q e)
    end_over zero (suc k) zero a i q l e = absurd (hole≢block q e)
    end_over zero (suc k) (suc n) a i q l e =
        let same : q ≡ suc k = (ending_is (suc k) (suc n) q e).1 in
        rw (over_inside a i (suc k) (span W zero) l, same) (omega (arith, one_same (suc k)))
    end_over (suc h) zero n a i q l e = absurd (hole≢block q (sym (walk_null W b (suc h) n i) ∙ e))
    end_over (suc h) (suc k) zero a i q l e = absurd (hole≢block q (sym (walk_dead W b (suc h) (suc k) i) ∙ e))
    end_over (suc h) (suc k) (suc n) a i q l e =
        let s : ℕ = span W h in
        let j : ℕ = i / s in
        let place = child W pos h i l in
        let under : ℕ → List Placed = child_placed h (suc k) (suc n) a in
        let below = end_over h (cell W b (suc k) j / W) (suc n - j * s) (a + j * s) (i % s) q place.inside e in
        let same : a + j * s + i % s ≡ a + i = omega (arith, place.there) in
        rw (over_inside a i (suc k) (span W (suc h)) l) (omega (
          arith,
          occ_kept_joined (over (a + i)) (λ p. p.block) q W under,
          sum_at W (λ j. occ q (map (λ p. p.block) (filter (over (a + i)) (under j)))) j place.which,
          rw same at below,
        ))
