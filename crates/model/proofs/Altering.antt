-- Bytes written into a file's list of bytes, and a list of bytes cut or filled with zeros, byte by byte.
use mathlib.Core.Path.{◌≡◌, refl, sym, ap, ◌∙◌}
use mathlib.Core.Logic.{inl, inr}
use mathlib.Core.List.{List, [], ◌∷◌, ◌++◌, append-nil}
use Prim.Native.Nat.{ℕ, zero, suc, ◌+◌, ◌-◌, ◌≤◌, ◌<◌, min, max}
use native.Mathlib.Omega.{arith}
use lib.ListN.{length, get_or, take, drop, replicate, length-append, length-take, length-drop, length-replicate, get_or-replicate, get_or-append, drop_of_length-le}
use lib.Seq.{ext_get_or, get_or-take, get_or-drop, get_or-append-add, get_or_at, take_all}
use Rattle.model.specs.Lists.{tabulate}
use Rattle.model.specs.Tree.{seen}
use Rattle.model.specs.Fresh.{splice}
use Rattle.model.proofs.Cases.{split, decide}
use Rattle.model.proofs.Perform.{length_tabulate}
use Rattle.model.proofs.Agree.{seen_live, seen_dead}
use Rattle.model.proofs.Splice.{splice_in, splice_left, splice_right, splice_none}

pub get_d_tabulate : {A : Type 0} (m : ℕ) (f : ℕ → A) (d : A) (i : ℕ) → i < m → get_or (tabulate m f) i d ≡ f i
unfolding tabulate
get_d_tabulate zero f d i l = absurd (omega arith)
get_d_tabulate (suc m) f d i l = elim (decide i m) [
  | inl e ↦ rw e (get_or_at (tabulate m f) (f m) [] d m (length_tabulate m f))
  | inr ne ↦ get_or-append (tabulate m f) (f m ∷ []) d i (rw (length_tabulate m f) (omega arith)) ∙ get_d_tabulate m f d i (omega arith)
]

-- an element of a list after another
get_d_after : (xs ys : List ℕ) (m i : ℕ) → length xs ≡ m → m ≤ i → get_or (xs ++ ys) i 0 ≡ get_or ys (i - m) 0
get_d_after xs ys m i len l = let e : length xs + (i - m) ≡ i = omega arith in ap (λ (x : ℕ). get_or (xs ++ ys) x 0) (sym e) ∙ get_or-append-add xs ys (i - m) 0

module _ (n : ℕ) (f : ℕ → ℕ) where
  -- of the n bytes, the first m
  length_first : (m : ℕ) → length (take m (tabulate n f)) ≡ min m n
  length_first m = length-take m (tabulate n f) ∙ ap (min m) (length_tabulate n f)

  first_at : (m i : ℕ) → i < m → i < n → get_or (take m (tabulate n f)) i 0 ≡ f i
  first_at m i l v = get_or-take m (tabulate n f) i 0 l ∙ get_d_tabulate n f 0 i v

  -- a write of `new` at o, which may lie past n: zeros stand between
  module _ (o : ℕ) (new : List ℕ) where
    rest : List ℕ
    rest = drop (o + length new) (tabulate n f)

    length_rest : length rest ≡ n - (o + length new)
    unfolding rest
    length_rest = length-drop (o + length new) (tabulate n f) ∙ ap (λ (x : ℕ). x - (o + length new)) (length_tabulate n f)

    gap : List ℕ
    gap = replicate (o - n) 0

    head : List ℕ
    head = take o (tabulate n f) ++ gap

    length_head : length head ≡ o
    unfolding head gap
    length_head = omega (arith, length-append (take o (tabulate n f)) (replicate (o - n) 0), length_first o, length-replicate {A = ℕ} (o - n) 0)

    head_at : (i : ℕ) → i < o → get_or head i 0 ≡ seen (n - i) (f i)
    unfolding head gap
    head_at i l = elim (split n i) [
      | inl past ↦ get_d_after (take o (tabulate n f)) (replicate (o - n) 0) n i (omega (arith, length_first o)) past ∙ get_or-replicate (o - n) (i - n) 0 0 (omega arith)
          ∙ sym (seen_dead (n - i) (f i) (omega arith))
      | inr in-it ↦ get_or-append (take o (tabulate n f)) (replicate (o - n) 0) 0 i (omega (arith, length_first o)) ∙ first_at o i l in-it ∙ sym (seen_live (n - i) (f i) (omega arith))
    ]

    -- up to the end of what is written
    front : List ℕ
    front = head ++ new

    length_front : length front ≡ o + length new
    unfolding front
    length_front = length-append head new ∙ ap (λ (x : ℕ). x + length new) length_head

    byte_after : (i : ℕ) → i < max n (o + length new) → splice o new (seen (n - i) (f i)) i ≡ get_or (front ++ rest) i 0
    unfolding rest front
    byte_after i l = elim (split (o + length new) i) [
      | inl past ↦
          let e : o + length new + (i - (o + length new)) ≡ i = omega arith in
          splice_right o new _ i past ∙ seen_live (n - i) (f i) (omega arith)
          ∙ sym (get_d_after front rest (o + length new) i length_front past
          ∙ get_or-drop (o + length new) (tabulate n f) (i - (o + length new)) 0 ∙ rw e (get_d_tabulate n f 0 i (omega arith)))
      | inr mid ↦
          let inner : get_or (front ++ rest) i 0 ≡ get_or front i 0 = get_or-append front rest 0 i (omega (arith, length_front)) in
          elim (split o i) [
            | inr left ↦ splice_left o new _ i left ∙ sym (inner ∙ get_or-append head new 0 i (omega (arith, length_head)) ∙ head_at i left)
            | inl from ↦ splice_in o new _ i from mid ∙ sym (inner ∙ get_d_after head new o i length_head from)
          ]
    ]

    pub spliced_write : tabulate (max n (o + length new)) (λ i. splice o new (seen (n - i) (f i)) i)
        ≡ take o (tabulate n f) ++ replicate (o - n) 0 ++ new ++ drop (o + length new) (tabulate n f)
    unfolding rest front head gap
    spliced_write =
        let m : ℕ = max n (o + length new) in
        let f' : ℕ → ℕ = λ i. splice o new (seen (n - i) (f i)) i in
        let len : length (tabulate m f') ≡ m = length_tabulate m f' in
        ext_get_or 0 (tabulate m f') (front ++ rest)
        (omega (arith, len, length-append front rest, length_front, length_rest))
        (λ i l. get_d_tabulate m f' 0 i (omega (arith, len)) ∙ byte_after i (omega (arith, len)))

  -- a length change to m: zeros written at n, or nothing
  module _ (m : ℕ) where
    byte_cut : (o : ℕ) (i : ℕ) → i < m → m ≤ n → splice o [] (seen (n - i) (f i)) i ≡ f i
    byte_cut o i l le = splice_none o [] _ i refl ∙ seen_live (n - i) (f i) (omega arith)

    pub spliced_cut : (o : ℕ) → m ≤ n → tabulate m (λ i. splice o [] (seen (n - i) (f i)) i) ≡ take m (tabulate n f) ++ replicate (m - n) 0
    spliced_cut o le =
        let f' : ℕ → ℕ = λ i. splice o [] (seen (n - i) (f i)) i in
        let len : length (tabulate m f') ≡ m = length_tabulate m f' in
        let head : length (take m (tabulate n f)) ≡ m = omega (arith, length_first m) in
        ext_get_or 0 (tabulate m f') (take m (tabulate n f) ++ replicate (m - n) 0)
        (omega (arith, len, length-append (take m (tabulate n f)) (replicate (m - n) 0), head, length-replicate {A = ℕ} (m - n) 0))
        (λ i l. get_d_tabulate m f' 0 i (omega (arith, len)) ∙ byte_cut o i (omega (arith, len)) le
        ∙ sym (get_or-append (take m (tabulate n f)) (replicate (m - n) 0) 0 i (omega (arith, len, head)) ∙ first_at m i (omega (arith, len)) (omega (arith, len))))

    pub spliced_zeros : n ≤ m → tabulate m (λ i. splice n (replicate (m - n) 0) (seen (n - i) (f i)) i) ≡ take m (tabulate n f) ++ replicate (m - n) 0
    spliced_zeros le =
        let zeros : List ℕ = replicate (m - n) 0 in
        let long : length zeros ≡ m - n = length-replicate {A = ℕ} (m - n) 0 in
        let e : max n (n + length zeros) ≡ m = omega arith in
        let none : drop (n + length zeros) (tabulate n f) ≡ [] = drop_of_length-le (tabulate n f) {i = n + length zeros} (omega (arith, length_tabulate n f)) in
        let whole : take n (tabulate n f) ≡ take m (tabulate n f) = take_all n (tabulate n f) (omega (arith, length_tabulate n f)) ∙ sym (take_all m (tabulate n f) (omega (arith, length_tabulate n f))) in
        let gapless : n - n ≡ 0 = omega arith in
        ap (λ (x : ℕ). tabulate x (λ i. splice n zeros (seen (n - i) (f i)) i)) (sym e) ∙ spliced_write n zeros
        ∙ rw (none, gapless, append-nil (take n (tabulate n f)), append-nil (take n (tabulate n f) ++ zeros), whole)
