-- Runs of zeros: the trailer from word 4 on, and the spare inode pointers.
use mathlib.Core.Path.{◌≡◌, refl, sym, ap, ◌∙◌}
use mathlib.Core.Logic.{inl, inr}
use mathlib.Core.Bool.{Bool, true, false, ◌&&◌, and-true}
use mathlib.Core.List.{List, [], ◌∷◌}
use Prim.Native.Nat.{ℕ, zero, suc, ◌+◌, ◌-◌, ◌*◌, ◌/◌, ◌^◌, ◌≤◌, ◌<◌}
use native.Mathlib.Omega.{arith}
use native.Mathlib.Nat.{add_assoc, add-zero, mul-le-mul_left}
use lib.ListN.{get_or}
use lib.Dec.{eqb}
use Rattle.std.proofs.Common.{fold, bit_or, min, take, drop, slice_range, length}
use Rattle.std.proofs.lemmas.List.{get_or-drop, take_all, take_min, length-drop}
use Rattle.std.proofs.Math.ListN.{drop_of_length-le, get_or-eq_default}
use Rattle.std.proofs.lemmas.List.Folds.{list_all_more}
use Rattle.std.proofs.lemmas.Nat.{le_or_l}
use Rattle.std.proofs.Math.Seq.{take-nil}
use Rattle.std.specs.Int.Bits.{or_zero_l}
use Rattle.std.specs.List.{list_all}
use native.Mathlib.Numerals.{add-one}
use Rattle.model.proofs.Cases.{split}
use borrow.Author.Tests.{ne_eqb}
use Rattle.model.specs.Layout.{Kind}
use Rattle.model.specs.Lists.{every}
use Rattle.model.specs.Layout.{Layout, Fits, layout_of}
use Rattle.model.specs.Tree.{cell}
use Rattle.model.specs.Board.{trailer_word, block_count, trailer, inode_block, inode_pointer, spare_sound}
use Rattle.model.proofs.Cases.{every_cong}
use Rattle.kinds.proofs.Figures.{block_room}
use Rattle.boards.specs.Trailers.{zeros_in, trailer_word_sound, trailer_words_sound, spares_sound}

assoc : (x y z : Bool) → (x && (y && z)) ≡ (x && y && z)
assoc true y z = refl
assoc false y z = refl

-- the numbers below m, and n more
every_both : (m n : ℕ) (p : ℕ → Bool) → (every m p && every n (λ j. p (m + j))) ≡ every (m + n) p
unfolding every
every_both m zero p = rw (add-zero m) (and-true (every m p))
every_both m (suc n) p =
    let e : m + suc n ≡ suc (m + n) = omega arith in
    rw e (assoc (every m p) (every n (λ j. p (m + j))) (p (m + n)) ∙ ap (λ (t : Bool). t && p (m + n)) (every_both m n p))

-- numbers or'ed together are 0 just where each is
none_or : (a x : ℕ) → eqb (bit_or a x) 0 ≡ (eqb a 0 && eqb x 0)
none_or zero x = rw or_zero_l
none_or (suc a) x = rw (ne_eqb (bit_or (suc a) x) 0 (λ e. omega (arith, le_or_l (suc a) x)), ne_eqb (suc a) 0 (λ e. omega arith))

none_of : (a : ℕ) (xs : List ℕ) → eqb (fold bit_or a xs) 0 ≡ (eqb a 0 && list_all (λ w. eqb w 0) xs)
none_of a [] = sym (and-true (eqb a 0))
none_of a (x ∷ xs) = none_of (bit_or a x) xs ∙ rw (none_or a x, assoc)

-- the first n words of a list, where those past its end are 0
first_none : (xs : List ℕ) (n : ℕ) → list_all (λ w. eqb w 0) (take n xs) ≡ every n (λ j. eqb (get_or xs j 0) 0)
unfolding every
first_none xs zero = refl
first_none xs (suc n) = elim (split (suc n) (length xs)) [
  | inl l ↦ rw (← add-one n, list_all_more (λ w. eqb w 0) xs n 0 l, first_none xs n)
  | inr l ↦
      let all : take (suc n) xs ≡ take n xs = take_all (suc n) xs (omega arith) ∙ sym (take_all n xs (omega arith)) in
      let past : eqb (get_or xs n 0) 0 ≡ true = rw (get_or-eq_default xs 0 {n = n} (omega arith)) in
      rw (all, first_none xs n) (sym (rw (past, and-true)))
]

-- words `from` to `to` - 1 of the block that begins at an index, as far as they are on the board
slice_is : (b : List ℕ) (at from to : ℕ) {end start : ℕ} → end ≡ min (length b) (min (at + to) 18446744073709551615) → start ≡ min end (min (at + from) 18446744073709551615)
    → length b < 2 ^ 64 → slice_range b start end ≡ take (to - from) (drop (at + from) b)
slice_is b at from to {end} {start} ee es l = elim (split (length b) (at + from)) [
  | inl u ↦ let none : end - start ≡ 0 = omega arith in rw (none, drop_of_length-le b u) (sym (take-nil (to - from)))
  | inr u ↦ elim (split to from) [
    | inl v ↦ let none : end - start ≡ 0 = omega arith in let few : to - from ≡ 0 = omega arith in rw (none, few)
    | inr v ↦
        let s : start ≡ at + from = omega arith in
        let n : end - start ≡ min (to - from) (length (drop (at + from) b)) = omega (arith, length-drop (at + from) b) in
        rw (n, s) (take_min (to - from) (drop (at + from) b))
  ]
]

-- they are 0 just where they give 0 or'ed together
pub zeros_or : (b : List ℕ) (at from to : ℕ) {end start r : ℕ} → end ≡ min (length b) (min (at + to) 18446744073709551615) → start ≡ min end (min (at + from) 18446744073709551615)
    → length b < 2 ^ 64 → r ≡ fold bit_or 0 (slice_range b start end) → eqb r 0 ≡ zeros_in b at from (to - from)
zeros_or b at from to ee es l er =
    rw (er, none_of, slice_is b at from to ee es l, first_none) (every_cong (to - from) _ _ (λ j l. rw (get_or-drop, add_assoc)))

-- the trailer's words have addresses
pub trailer_room : (kind : Kind) (n : ℕ) → n < 2 ^ 64 → (layout_of kind).words * (n / (layout_of kind).words - 1) + (layout_of kind).words ≤ 2 ^ 64
trailer_room kind n l =
    let W = (layout_of kind).words in
    let before : n / W - 1 ≤ n / W = omega arith in
    omega (arith, block_room kind n l, mul-le-mul_left W before)

module _ (g : Layout) (fit : Fits g) (b : List ℕ) where
  pub trailer_zeros : {at w : ℕ} → at ≡ g.words * (block_count g b - 1) → w ≡ g.words → every 3 (trailer_word_sound g b) ≡ true → zeros_in b at 4 (w - 4) ≡ trailer_words_sound g b
  unfolding trailer cell trailer_word
  trailer_zeros {at} {w} ea ew figures =
      let all : g.words - 1 ≡ 3 + (w - 4) = omega (arith, fit.trailer_fits) in
      let each : zeros_in b at 4 (w - 4) ≡ every (w - 4) (λ j. trailer_word_sound g b (3 + j)) =
      every_cong (w - 4) _ _ (λ j l. let e : 3 + j ≡ suc (suc (suc j)) = omega arith in let a : at + (4 + j) ≡ g.words * (block_count g b - 1) + suc (suc (suc (suc j))) = omega arith in rw (e, a)) in
      each ∙ rw (all, ← every_both 3 (w - 4) (trailer_word_sound g b), figures)

  -- one of words 1 to 3 is not as it must be
  pub trailer_figures : {t : Bool} → t ≡ every 3 (trailer_word_sound g b) → t ≡ false → false ≡ trailer_words_sound g b
  trailer_figures e z =
      let all : g.words - 1 ≡ 3 + (g.words - 4) = omega (arith, fit.trailer_fits) in
      rw (all, ← every_both 3 (g.words - 4) (trailer_word_sound g b), ← e, z)

  pub spare_zeros : {at n w : ℕ} → at ≡ g.words * inode_block g b → n ≡ g.leaves → w ≡ g.words → zeros_in b at n (w - n) ≡ spares_sound g b
  unfolding spare_sound inode_pointer cell
  spare_zeros ea en ew = rw (ea, en, ew)
