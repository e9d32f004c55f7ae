-- Counting how often a number occurs. 'No block is reached twice' is that none occurs more than once; counts add up over lists and loops.
use mathlib.Core.Path.{◌≡◌, refl, sym, ap, ◌∙◌, subst}
use mathlib.Core.Logic.{◌≢◌, inl, inr, ◌↔◌}
use mathlib.Core.Bool.{true, false, not}
use mathlib.Core.List.{List, [], ◌∷◌, ◌++◌}
use Prim.Native.Nat.{ℕ, zero, suc, ◌+◌, ◌≤◌, ◌<◌}
use native.Mathlib.Omega.{arith}
use native.Mathlib.Nat.{zero-add}
use lib.ListN.{length, get_or, take, get_or-eq_default}
use lib.Seq.{take_all, take-suc}
use lib.Dec.{T, T_not}
use borrow.Author.Tests.{eq-eqb, ne_eqb}
use Rattle.model.specs.Lists.{tabulate, joined, sum, member, distinct, one, occ}
use Rattle.model.proofs.Cases.{split, decide, and_left, and_right, and_both}

pub one_same : (q : ℕ) → one q q ≡ 1
unfolding one
one_same q = rw (eq-eqb q q refl, one)

pub one_other : (q x : ℕ) → q ≢ x → one q x ≡ 0
unfolding one
one_other q x h = rw (ne_eqb q x h, one)

pub one_most : (q x : ℕ) → one q x ≤ 1
one_most q x = elim (decide q x) [ inl e ↦ rw e (omega (arith, one_same x)) | inr d ↦ omega (arith, one_other q x d) ]

-- what is counted is equal, and what is not is not
pub one_some : (q x : ℕ) → 0 < one q x → q ≡ x
one_some q x l = elim (decide q x) [ inl e ↦ e | inr d ↦ absurd (omega (arith, one_other q x d)) ]

pub one_apart : (q x : ℕ) → one q x ≡ 0 → q ≢ x
one_apart q x e d = omega (arith, one_same q, subst (λ (y : ℕ). one q y ≡ 0) (sym d) e)

pub occ_append : (q : ℕ) (l r : List ℕ) → occ q (l ++ r) ≡ occ q l + occ q r
unfolding occ
occ_append q [] r = sym (zero-add (occ q r))
occ_append q (x ∷ xs) r = omega (arith, occ_append q xs r)

pub occ_joined : (q m : ℕ) (f : ℕ → List ℕ) → occ q (joined m f) ≡ sum m (λ j. occ q (f j))
unfolding joined sum occ
occ_joined q zero f = refl
occ_joined q (suc m) f = omega (arith, occ_joined q m f, occ_append q (joined m f) (f m))

pub occ_tabulate : (q n : ℕ) (f : ℕ → ℕ) → occ q (tabulate n f) ≡ sum n (λ j. one q (f j))
unfolding tabulate sum occ
occ_tabulate q zero f = refl
occ_tabulate q (suc n) f = omega (arith, occ_tabulate q n f, occ_append q (tabulate n f) (f n ∷ []))

-- the first n of a list, by its elements; past its end there are zeros
pub occ_first : (l : List ℕ) (k n : ℕ) → 0 < k → occ k (tabulate n (λ i. get_or l i 0)) ≡ occ k (take n l)
unfolding tabulate occ
occ_first l k zero pos = refl
occ_first l k (suc n) pos =
    let more = occ_append k (tabulate n (λ i. get_or l i 0)) (get_or l n 0 ∷ []) in
    elim (split (length l) n) [
      | inl past ↦
          let all_of : take (suc n) l ≡ take n l = take_all (suc n) l (omega arith) ∙ sym (take_all n l past) in
          rw all_of (omega (arith, more, occ_first l k n pos, one_other k 0 (omega arith), ap (one k) (get_or-eq_default l 0 past)))
      | inr m ↦ rw (take-suc l n 0 m) (omega (arith, more, occ_first l k n pos, occ_append k (take n l) (get_or l n 0 ∷ [])))
    ]

pub member_none : (q : ℕ) (l : List ℕ) → occ q l ≡ 0 → member q l ≡ false
unfolding member occ
member_none q [] h = refl
member_none q (x ∷ xs) h = elim (decide q x) [
  | inl e ↦ absurd (omega (arith, one_same q, rw (← e) at h))
  | inr n ↦ rw (ne_eqb q x n) (member_none q xs (omega (arith, one_other q x n)))
]

pub member_some : (q : ℕ) (l : List ℕ) → 0 < occ q l → member q l ≡ true
unfolding member occ
member_some q [] h = absurd (omega arith)
member_some q (x ∷ xs) h = elim (decide q x) [
  | inl e ↦ rw (eq-eqb q x e)
  | inr n ↦ rw (ne_eqb q x n) (member_some q xs (omega (arith, one_other q x n)))
]

pub distinct_occ : (l : List ℕ) → T (distinct l) → (q : ℕ) → occ q l ≤ 1
unfolding distinct occ
distinct_occ [] h q = omega arith
distinct_occ (x ∷ xs) h q =
    let rest : occ q xs ≤ 1 = distinct_occ xs (and_right (not (member x xs)) (distinct xs) h) q in
    elim (decide q x) [
      | inl e ↦ elim (split (occ q xs) 0) [
        | inl z ↦ rw e (omega (arith, one_same x, rw e at z))
        | inr s ↦ absurd (T_not (member x xs) (and_left (not (member x xs)) (distinct xs) h) (subst T (sym (member_some x xs (rw e at s))) tt))
      ]
      | inr n ↦ omega (arith, one_other q x n)
    ]

pub occ_distinct : (l : List ℕ) → ((q : ℕ) → occ q l ≤ 1) → T (distinct l)
unfolding distinct occ
occ_distinct [] h = tt
occ_distinct (x ∷ xs) h =
    and_both (not (member x xs)) (distinct xs) (rw (member_none x xs (omega (arith, h x, one_same x))) tt) (occ_distinct xs (λ q. omega (arith, h q)))

-- a member is met, and what is met is a member
pub member_occ : (q : ℕ) (l : List ℕ) → T (member q l) ↔ (0 < occ q l)
member_occ q l = (
  λ t. elim (split (occ q l) 0) [ inl z ↦ let e : occ q l ≡ 0 = omega arith in absurd (rw (member_none q l e) at t) | inr m ↦ m ],
  λ m. rw (member_some q l m) tt,
)

-- a number that a loop never meets is not counted
pub sum_none : (q n : ℕ) (f : ℕ → ℕ) → ((j : ℕ) → j < n → q ≢ f j) → sum n (λ j. one q (f j)) ≡ 0
unfolding sum
sum_none q zero f d = refl
sum_none q (suc n) f d = omega (arith, sum_none q n f (λ j l. d j (omega arith)), one_other q (f n) (d n (omega arith)))

-- numbers that differ are met once at most
pub sum_once : (q n : ℕ) (f : ℕ → ℕ) → ((i j : ℕ) → i < j → j < n → f i ≢ f j) → sum n (λ j. one q (f j)) ≤ 1
unfolding sum
sum_once q zero f d = omega arith
sum_once q (suc n) f d = elim (decide q (f n)) [
  | inl e ↦ rw e (omega (arith, sum_none (f n) n f (λ j l x. d j n l (omega arith) (sym x)), one_same (f n)))
  | inr x ↦ omega (arith, sum_once q n f (λ i j u v. d i j u (omega arith)), one_other q (f n) x)
]
