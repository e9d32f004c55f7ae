-- Bytes written into what a tree reads as, seen from its children.
use mathlib.Core.Path.{◌≡◌, refl, sym, ap, ◌∙◌}
use mathlib.Core.Logic.{◌≢◌, inl, inr}
use mathlib.Core.List.{List, [], ◌∷◌}
use Prim.Native.Nat.{ℕ, zero, suc, ◌+◌, ◌-◌, ◌*◌, ◌≤◌, ◌<◌, min}
use native.Mathlib.Omega.{arith}
use native.Mathlib.Nat.{mul-le-mul_right}
use lib.ListN.{length, get_or, drop, length-take, length-drop, get_or-eq_default}
use lib.Seq.{get_or-take, get_or-drop, take_all}
use lib.Arith.{digits_lt}
use lib.Dec.{T, ltb, ltb→lt}
use borrow.Author.Tests.{lt-ltb, le-ltb, le-leb, lt-leb}
use Rattle.model.specs.Lists.{choose, all}
use Rattle.model.specs.Tree.{span}
use Rattle.model.specs.Fresh.{splice, part, part_length}
use Rattle.model.proofs.Cases.{split, and_left, and_right}

-- ---- splicing

pub splice_in : (o : ℕ) (new : List ℕ) (old i : ℕ) → o ≤ i → i < o + length new → splice o new old i ≡ get_or new (i - o) 0
unfolding splice
splice_in o new old i p q = rw (le-leb o i p) (rw (lt-ltb i (o + length new) q))

pub splice_left : (o : ℕ) (new : List ℕ) (old i : ℕ) → i < o → splice o new old i ≡ old
unfolding splice
splice_left o new old i p = rw (lt-leb o i p)

pub splice_right : (o : ℕ) (new : List ℕ) (old i : ℕ) → o + length new ≤ i → splice o new old i ≡ old
unfolding splice
splice_right o new old i p = elim (split o i) [
  | inl q ↦ rw (le-leb o i q) (rw (le-ltb i (o + length new) p))
  | inr q ↦ splice_left o new old i q
]

-- bytes that end within a span are not seen past it
pub past_span : (o : ℕ) (new : List ℕ) (s m : ℕ) → o + length new ≤ s → (i : ℕ) → s ≤ i → i < m → splice o new 0 i ≡ 0
past_span o new s m l i u v = splice_right o new 0 i (omega arith)

pub splice_none : (o : ℕ) (new : List ℕ) (old i : ℕ) → length new ≡ 0 → splice o new old i ≡ old
splice_none o new old i e = elim (split o i) [
  | inl q ↦ splice_right o new old i (omega arith)
  | inr q ↦ splice_left o new old i q
]

pub splice_small : (o : ℕ) (new : List ℕ) (old i : ℕ) → ((t : ℕ) → get_or new t 0 < 256) → old < 256 → splice o new old i < 256
unfolding splice
splice_small o new old i small h = elim (split o i) [
  | inl q ↦ elim (split (o + length new) i) [
    | inl r ↦ rw (splice_right o new old i r) h
    | inr r ↦ rw (splice_in o new old i q r) (small (i - o))
  ]
  | inr q ↦ rw (splice_left o new old i q) h
]

pub choose_zero : {A : Type 0} (n : ℕ) (a z : A) → n ≡ 0 → choose n a z ≡ a
unfolding choose
choose_zero zero a z e = refl
choose_zero (suc n) a z e = absurd (omega arith)

pub choose_pos : {A : Type 0} (n : ℕ) (a z : A) → 0 < n → choose n a z ≡ z
unfolding choose
choose_pos zero a z e = absurd (omega arith)
choose_pos (suc n) a z e = refl

abbrev pub Small : List ℕ → Type 0
Small new = (i : ℕ) → get_or new i 0 < 256

pub bytes_small : (xs : List ℕ) → T (all (λ x. ltb x 256) xs) → Small xs
unfolding all
bytes_small [] t i = omega arith
bytes_small (x ∷ xs) t zero = ltb→lt x 256 (and_left (ltb x 256) (all (λ y. ltb y 256) xs) t)
bytes_small (x ∷ xs) t (suc i) = bytes_small xs (and_right (ltb x 256) (all (λ y. ltb y 256) xs) t) i

pub length_part : (s j o : ℕ) (new : List ℕ) → length (part s j o new) ≡ part_length s j o (length new)
unfolding part part_length
length_part s j o new = simp (length-take, length-drop)

-- no part of no bytes
pub part_nothing : (s j o l : ℕ) → l ≡ 0 → part_length s j o l ≡ 0
unfolding part_length
part_nothing s j o l e = omega arith

pub get_d_part : (s j o : ℕ) (new : List ℕ) (i : ℕ) → i < length (part s j o new) → get_or (part s j o new) i 0 ≡ get_or new (j * s - o + i) 0
unfolding part
get_d_part s j o new i l = get_or-take (s - (o - j * s)) (drop (j * s - o) new) i 0 (omega (arith, simp length-take at l)) ∙ get_or-drop (j * s - o) new i 0

pub small_part : (s j o : ℕ) (new : List ℕ) → Small new → Small (part s j o new)
small_part s j o new small i = elim (split (length (part s j o new)) i) [
  | inl d ↦ rw (get_or-eq_default (part s j o new) 0 d) (omega arith)
  | inr d ↦ rw (get_d_part s j o new i d) (small (j * s - o + i))
]

index : (t o i : ℕ) → o - t ≤ i → t - o + (i - (o - t)) ≡ t + i - o
index t o i h = omega arith

-- the splice seen from child j
pub splice_part : (s j o : ℕ) (new : List ℕ) (old i : ℕ) → i < s → splice (o - j * s) (part s j o new) old i ≡ splice o new old (j * s + i)
unfolding part_length
splice_part s j o new old i l =
    let len : length (part s j o new) ≡ min (s - (o - j * s)) (length new - (j * s - o)) = length_part s j o new in
    elim (split (o - j * s) i) [
      | inr a ↦ splice_left (o - j * s) (part s j o new) old i a ∙ sym (splice_left o new old (j * s + i) (omega arith))
      | inl a ↦ elim (split (o - j * s + length (part s j o new)) i) [
        | inl r ↦ splice_right (o - j * s) (part s j o new) old i r ∙ sym (splice_right o new old (j * s + i) (omega arith))
        | inr r ↦ splice_in (o - j * s) (part s j o new) old i a r ∙ get_d_part s j o new (i - (o - j * s)) (omega arith)
            ∙ ap (λ (x : ℕ). get_or new x 0) (index (j * s) o i a) ∙ sym (splice_in o new old (j * s + i) (omega arith) (omega arith))
      ]
    ]

-- no written byte falls under a child whose part is empty
pub outside : (s j o l i r : ℕ) → j * s + r ≡ i → r < s → part_length s j o l ≤ 0 → o ≤ i → i < o + l → ⊥
unfolding part_length
outside s j o l i r e p q u v = omega arith

pub inside : (s j o l r : ℕ) → r < s → o ≤ j * s + r → j * s + r < o + l → (o - j * s ≤ r) × (r < o - j * s + part_length s j o l)
unfolding part_length
inside s j o l r p u v = omega arith

-- of the s bytes of a tree, those at or past n and below m are among the l written at o
abbrev pub Cover : ℕ → ℕ → ℕ → ℕ → ℕ → Type 0
Cover n m o l s = (i : ℕ) → n ≤ i → i < m → i < s → (o ≤ i) × (i < o + l)

-- the same where bytes before o may lie past n: those at or past n and below m end where the written ones end
abbrev pub Reach : ℕ → ℕ → ℕ → ℕ → ℕ → Type 0
Reach n m o l s = (i : ℕ) → n ≤ i → i < m → i < s → i < o + l

-- what is written below m is so in each child
pub part_fits : (s j o l m : ℕ) → 0 < part_length s j o l → (0 < l → o + l ≤ m) → o - j * s + part_length s j o l ≤ m - j * s
unfolding part_length
part_fits s j o l m some fits = omega (arith, fits (omega arith))

pub splice_skip : (o : ℕ) (new : List ℕ) (old i : ℕ) → (o ≤ i → i < o + length new → ⊥) → splice o new old i ≡ old
splice_skip o new old i none = elim (split o i) [
  | inl q ↦ elim (split (o + length new) i) [
    | inl r ↦ splice_right o new old i r
    | inr r ↦ absurd (none q r)
  ]
  | inr q ↦ splice_left o new old i q
]

pub cover_child : (W h o : ℕ) (new : List ℕ) (n m : ℕ) → Cover n m o (length new) (span W (suc h)) → (j : ℕ) → j < W
    → Cover (n - j * span W h) (m - j * span W h) (o - j * span W h) (length (part (span W h) j o new)) (span W h)
unfolding span
cover_child W h o new n m cover j l = λ i u v w.
    let both = cover (j * span W h + i) (omega arith) (omega arith) (digits_lt l w) in
    rw (length_part (span W h) j o new) (inside (span W h) j o (length new) i w both.0 both.1)

before : (s j o l r : ℕ) → r < s → j * s + r < o + l → r < o - j * s + part_length s j o l
unfolding part_length
before s j o l r p v = omega arith

pub reach_child : (W h o : ℕ) (new : List ℕ) (n m : ℕ) → Reach n m o (length new) (span W (suc h)) → (j : ℕ) → j < W
    → Reach (n - j * span W h) (m - j * span W h) (o - j * span W h) (length (part (span W h) j o new)) (span W h)
unfolding span
reach_child W h o new n m reach j l = λ i u v w.
    rw (length_part (span W h) j o new) (before (span W h) j o (length new) i w (reach (j * span W h + i) (omega arith) (omega arith) (digits_lt l w)))

-- all of it falls under child j
pub part_whole : (s j o : ℕ) (new : List ℕ) → j * s ≤ o → o + length new ≤ j * s + s → part s j o new ≡ new
unfolding part
part_whole s j o new lo hi = rw (none (j * s) o lo) (take_all (s - (o - j * s)) new (omega arith))
  where
    none : (t o : ℕ) → t ≤ o → t - o ≡ 0
    none t o h = omega arith

-- none of it falls under another
pub part_none : (s j o l i : ℕ) → j * s ≤ o → o + l ≤ j * s + s → i ≢ j → part_length s i o l ≤ 0
unfolding part_length
part_none s j o l i lo hi n = elim (split i j) [
  | inl d ↦ let d' : i < j = omega arith in omega (arith, mul-le-mul_right s d')
  | inr d ↦ omega (arith, mul-le-mul_right s d)
]
