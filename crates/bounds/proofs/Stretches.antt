-- How many subtrees of one span a stretch of bytes meets, wherever it begins, with the words per block as a parameter; and so how many fresh blocks
-- the paths to written bytes take.
use mathlib.Core.Path.{◌≡◌, refl, sym, ap, ◌∙◌}
use mathlib.Core.Logic.{inl, inr}
use Prim.Native.Nat.{ℕ, zero, suc, ◌+◌, ◌-◌, ◌*◌, ◌/◌, ◌^◌, ◌≤◌, ◌<◌, min}
use native.Mathlib.Omega.{arith}
use native.Mathlib.Nat.{mul-zero, mul-add, pow-zero, pow-succ', one-mul, mul-le-mul_right, div-mul-le_self, lt-div-mul-add, le-div_iff_mul-le}
use Rattle.model.specs.Lists.{sum}
use Rattle.model.specs.Tree.{span}
use Rattle.model.specs.Fresh.{part_length, need}
use Rattle.model.proofs.Cases.{split}
use Rattle.model.proofs.Sums.{sum_cong, sum_le, sum_add, sum_zero}
use Rattle.model.proofs.Splice.{part_nothing}
use Rattle.model.proofs.Paths.{need_none, need_data, need_node}

-- ---- Sums

sum_first : (m : ℕ) (f : ℕ → ℕ) → sum (suc m) f ≡ f 0 + sum m (λ i. f (suc i))
unfolding sum
sum_first zero f = omega arith
sum_first (suc m) f = omega (arith, sum_first m f)

sum_swap : (m n : ℕ) (f : ℕ → ℕ → ℕ) → sum m (λ i. sum n (f i)) ≡ sum n (λ j. sum m (λ i. f i j))
unfolding sum
sum_swap zero n f = sym (sum_zero n (λ j. 0) (λ j l. refl))
sum_swap (suc m) n f = ap (λ (x : ℕ). x + sum n (f m)) (sum_swap m n f) ∙ sym (sum_add n (λ j. sum m (λ i. f i j)) (f m))

-- the other way round
sum_reversed : (m : ℕ) (f : ℕ → ℕ) → sum m (λ e. f (m - suc e)) ≡ sum m f
unfolding sum
sum_reversed zero f = refl
sum_reversed (suc m) f =
    let first : f (suc m - 1) ≡ f m = ap f (omega arith) in
    let rest : sum m (λ i. f (suc m - suc (suc i))) ≡ sum m (λ i. f (m - suc i)) = sum_cong m _ _ (λ i l. ap f (omega arith)) in
    omega (arith, sum_first m (λ e. f (suc m - suc e)), first, rest, sum_reversed m f)

pub sum_times : (w m : ℕ) (f : ℕ → ℕ) → sum m (λ j. w * f j) ≡ w * sum m f
unfolding sum
sum_times w zero f = sym (mul-zero w)
sum_times w (suc m) f = omega (arith, sum_times w m f, mul-add w (sum m f) (f m))

pub ones : (m : ℕ) → sum m (λ j. 1) ≡ m
unfolding sum
ones zero = refl
ones (suc m) = omega (arith, ones m)

-- ---- Stretches. With p * s ≤ o and o + l ≤ q * s, l bytes at o lie in q - p stretches of s bytes

-- seen from child m, which spans k of them
low : (s k m r o : ℕ) → (m * k + r) * s ≤ o → r * s ≤ o - m * (k * s)
low s k m r o h = omega arith

low_child : (s k m p o : ℕ) → p * s ≤ o → (p - m * k) * s ≤ o - m * (k * s)
low_child s k m p o h = elim (split (m * k) p) [
  | inl le ↦ let e : p ≡ m * k + (p - m * k) = omega arith in low s k m (p - m * k) o (rw e at h)
  | inr gt ↦ let e : p - m * k ≡ 0 = omega arith in rw e (omega arith)
]

high : (s k m r o l : ℕ) → o + l ≤ (m * k + r) * s → 0 < part_length (k * s) m o l → o - m * (k * s) + part_length (k * s) m o l ≤ r * s
unfolding part_length
high s k m r o l h some = let e : (m * k + r) * s ≡ m * (k * s) + r * s = omega arith in omega arith

high_whole : (s k m o l : ℕ) → 0 < part_length (k * s) m o l → o - m * (k * s) + part_length (k * s) m o l ≤ k * s
unfolding part_length
high_whole s k m o l some = omega arith

high_over : (s k m q o l : ℕ) → o + l ≤ q * s → 0 < part_length (k * s) m o l → m * (k * s) < q * s
unfolding part_length
high_over s k m q o l h some = omega arith

high_child : (s k m q o l : ℕ) → o + l ≤ q * s → 0 < part_length (k * s) m o l → o - m * (k * s) + part_length (k * s) m o l ≤ (min q (suc m * k) - m * k) * s
high_child s k m q o l h some = elim (split (suc m * k) q) [
  | inl le ↦ let e : min q (suc m * k) - m * k ≡ k = omega arith in rw e (high_whole s k m o l some)
  | inr lt ↦ elim (split q (m * k)) [
    | inl le ↦ absurd (omega (arith, high_over s k m q o l h some, mul-le-mul_right s le))
    | inr gt ↦
        let e : min q (suc m * k) - m * k ≡ q - m * k = omega arith in
        let f : q ≡ m * k + (q - m * k) = omega arith in
        rw e (high s k m (q - m * k) o l (rw f at h) some)
  ]
]

-- children side by side
adds : (p a x y m n : ℕ) → m ≤ a → m ≤ n → x ≤ m - p → y ≤ n - a - (p - a) → x + y ≤ n - p
adds p a x y m n ma mn u v = omega arith

beside : (p q a k x y : ℕ) → x ≤ min q a - p → y ≤ min q (a + k) - a - (p - a) → x + y ≤ min q (a + k) - p
beside p q a k x y u v = adds p a x y (min q a) (min q (a + k)) (omega arith) (omega arith) u v

-- any two such p and q bound x: then x is at most *floor((l + s - 2) / s) + 1*
abbrev Within : ℕ → ℕ → ℕ → ℕ → Type 0
Within s o l x = (p q : ℕ) → p * s ≤ o → o + l ≤ q * s → x ≤ q - p

-- the most stretches of s bytes that l bytes meet
unfoldable pub met : ℕ → ℕ → ℕ
met s l = (l + (s - 2)) / s + 1

quotients : (a c y s o l : ℕ) → a ≡ c + y → a * s ≤ o + l - 1 → o < c * s + s → 0 < l → 2 ≤ s → y * s ≤ l + (s - 2)
quotients a c y s o l e h k some two =
    let h' : (c + y) * s ≤ o + l - 1 = rw e at h in
    omega arith

met_most : (s o l x : ℕ) → 2 ≤ s → 0 < l → Within s o l x → x ≤ met s l
unfolding met
met_most s o l x two some within =
    let pos : 0 < s = omega arith in
    let a : ℕ = (o + l - 1) / s in
    let c : ℕ = o / s in
    let end : o + l - 1 < a * s + s = lt-div-mul-add pos in
    let most : x ≤ suc a - c = within c (suc a) (div-mul-le_self o s) (omega arith) in
    elim (split a c) [
      | inl le ↦ omega arith
      | inr gt ↦ let q : a - c ≤ (l + (s - 2)) / s =
          (le-div_iff_mul-le pos).1 (quotients a c (a - c) s o l (omega arith) (div-mul-le_self (o + l - 1) s) (lt-div-mul-add pos) some two) in omega arith
    ]

module _ (W : ℕ) where
  -- how many trees e levels beneath the top of a tree of height h have one of l bytes written at o
  unfoldable under : ℕ → ℕ → ℕ → ℕ → ℕ
  under zero h o l = min l 1
  under (suc e) zero o l = 0
  under (suc e) (suc h) o l = sum W (λ j. under e h (o - j * span W h) (part_length (span W h) j o l))

  under_none : (e h o : ℕ) → under e h o 0 ≡ 0
  unfolding under
  under_none zero h o = omega arith
  under_none (suc e) zero o = refl
  under_none (suc e) (suc h) o = sum_zero W _ (λ j l. ap (under e h (o - j * span W h)) (part_nothing (span W h) j o 0 refl) ∙ under_none e h (o - j * span W h))

  span_over : (d e h : ℕ) → h ≡ d + e → span W h ≡ W ^ e * span W d
  unfolding span
  span_over d zero h p = let q : h ≡ d = omega arith in rw (q, pow-zero W, one-mul (span W d))
  span_over d (suc e) zero p = absurd (omega arith)
  span_over d (suc e) (suc h) p = rw (span_over d e h (omega arith), pow-succ' W e) (omega arith)

  -- those of height d: by what is known of the children
  module _ (d e h : ℕ) (eq : h ≡ d + e) (ih : (o l : ℕ) → 0 < l → Within (span W d) o l (under e h o l))
      (o l p q : ℕ) (lo : p * span W d ≤ o) (hi : o + l ≤ q * span W d) where
    child : (m : ℕ) → under e h (o - m * span W h) (part_length (span W h) m o l) ≤ min q (m * W ^ e + W ^ e) - m * W ^ e - (p - m * W ^ e)
    child m = elim (split (part_length (span W h) m o l) 0) [
      | inl z ↦
          let none : part_length (span W h) m o l ≡ 0 = omega arith in
          rw (none, under_none e h (o - m * span W h)) (omega arith)
      | inr some ↦
          let whole : span W h ≡ W ^ e * span W d = span_over d e h eq in
          let next : m * W ^ e + W ^ e ≡ suc m * W ^ e = omega arith in
          rw next (ih (o - m * span W h) (part_length (span W h) m o l) some (p - m * W ^ e) (min q (suc m * W ^ e) - m * W ^ e)
          (rw whole (low_child (span W d) (W ^ e) m p o lo)) (rw whole (high_child (span W d) (W ^ e) m q o l hi (rw whole at some))))
    ]

    children : (m : ℕ) → sum m (λ j. under e h (o - j * span W h) (part_length (span W h) j o l)) ≤ min q (m * W ^ e) - p
    unfolding sum
    children zero = omega arith
    children (suc m) =
        let next : suc m * W ^ e ≡ m * W ^ e + W ^ e = omega arith in
        rw next (beside p q (m * W ^ e) (W ^ e) _ _ (children m) (child m))

  under_within : (d e h : ℕ) → h ≡ d + e → (o l : ℕ) → 0 < l → Within (span W d) o l (under e h o l)
  unfolding under
  under_within d zero h eq o l some p q lo hi = elim (split q p) [
    | inl le ↦ absurd (omega (arith, mul-le-mul_right (span W d) le))
    | inr gt ↦ omega arith
  ]
  under_within d (suc e) zero eq o l some p q lo hi = absurd (omega arith)
  under_within d (suc e) (suc h) eq o l some p q lo hi =
      omega (arith, children d e h (omega arith) (under_within d e h (omega arith)) o l p q lo hi W)

  -- the tree itself
  under_top : (h o l : ℕ) → under zero h o l ≤ 1
  unfolding under
  under_top h o l = omega arith

  -- a tree takes a fresh block for each
  need_under : (h o l : ℕ) → need W h o l ≤ sum (suc h) (λ e. under e h o l)
  unfolding under sum
  need_under zero o l = elim (split l 0) [
    | inl z ↦ let e : l ≡ 0 = omega arith in rw (e, need_none W zero o) (omega arith)
    | inr some ↦ rw (need_data W o l some) (omega arith)
  ]
  need_under (suc h) o l = elim (split l 0) [
    | inl z ↦ let e : l ≡ 0 = omega arith in rw (e, need_none W (suc h) o) (omega arith)
    | inr some ↦ rw (need_node W h o l some, sum_first (suc h) (λ e. under e (suc h) o l)) (omega (
      arith,
      sum_le W _ _ (λ j p. need_under h (o - j * span W h) (part_length (span W h) j o l)),
      sum_swap W (suc h) (λ j e. under e h (o - j * span W h) (part_length (span W h) j o l)),
    ))
  ]

  under_met : (pos : 0 < W) (d e h : ℕ) → h ≡ d + e → (o l : ℕ) → 0 < l → under e h o l ≤ met (span W d) l
  unfolding span
  under_met pos d e h eq o l some = met_most (span W d) o l (under e h o l) (two d) some (under_within d e h eq o l some)
    where
      two : (d : ℕ) → 2 ≤ span W d
      two zero = omega arith
      two (suc d) = omega (arith, two d, mul-le-mul_right (span W d) pos)

  -- so it takes no more than the most trees of each height below its own that the bytes meet, and one for its top
  pub need_met : 0 < W → (h o l : ℕ) → need W h o l ≤ 1 + sum h (λ d. met (span W d) l)
  need_met pos h o l = elim (split l 0) [
    | inl z ↦ let e : l ≡ 0 = omega arith in rw (e, need_none W h o) (omega arith)
    | inr some ↦ omega (
      arith,
      need_under h o l,
      sum_first h (λ e. under e h o l),
      under_top h o l,
      sum_le h (λ e. under (suc e) h o l) (λ e. met (span W (h - suc e)) l) (λ e lt. under_met pos (h - suc e) (suc e) h (omega arith) o l some),
      sum_reversed h (λ d. met (span W d) l),
    )
  ]
