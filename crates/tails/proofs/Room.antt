-- How many fresh blocks and how many other stores a write at the end takes at most.
use mathlib.Core.List.{List, [], ◌∷◌}
use Prim.Native.Nat.{ℕ, zero, suc, ◌+◌, ◌-◌, ◌*◌, ◌/◌, ◌≤◌, ◌<◌}
use native.Mathlib.Nat.{mul-le-mul_left}
use native.Mathlib.Omega.{arith}
use lib.ListN.{length}
use Rattle.model.specs.Lists.{choose}
use Rattle.model.specs.Tree.{span, cell}
use Rattle.model.specs.Store.{Store, store}
use Rattle.model.specs.Fresh.{part, part_length, data_page}
use Rattle.model.specs.InPlace.{tail_need, tail_before, tail_words, hooked, in_place}
use Rattle.model.proofs.Cases.{length_joined}
use Rattle.taking.specs.Taking.{whole}
use Rattle.taking.proofs.Room.{terms, need_most}

pub tail_most : (W h n l : ℕ) → tail_need W h n l ≤ whole W h
unfolding tail_need whole
tail_most W zero zero l = need_most W zero 0 l
tail_most W zero (suc n) l = omega arith
tail_most W (suc h) zero l = need_most W (suc h) 0 l
tail_most W (suc h) (suc n) l = omega (arith, terms W (λ j. tail_need W h (suc n - j * span W h) (part_length (span W h) j (suc n) l)) (whole W h) (λ j. tail_most W h (suc n - j * span W h) (part_length (span W h) j (suc n) l)))

at_most_one : {A : Type 0} (m : ℕ) (x : A) → length (choose m [] (x ∷ [])) ≤ 1
unfolding choose
at_most_one zero x = omega arith
at_most_one (suc m) x = omega arith

module _ (W : ℕ) (pos : 0 < W) (b : List ℕ) (hook : ℕ → ℕ → ℕ → ℕ) where
  words_most : (k n : ℕ) (new : List ℕ) → length (tail_words W b k n new) ≤ W
  unfolding tail_words
  words_most k n new = omega (
    arith,
    length_joined W (λ j. choose (part_length 8 j n (length new)) [] (store (W * k + j) (data_page W b k n n new j) ∷ [])),
    terms W (λ j. length (choose (part_length 8 j n (length new)) [] (store (W * k + j) (data_page W b k n n new j) ∷ []))) 1 (λ j. at_most_one (part_length 8 j n (length new)) (store (W * k + j) (data_page W b k n n new j))),
  )

  hooked_most : (h : ℕ) (new : List ℕ) (c a : ℕ) → length (hooked hook h new c a) ≤ 1
  unfolding hooked
  hooked_most h [] c a = omega arith
  hooked_most h (x ∷ new) c a = omega arith

  pub place_most : (h k n : ℕ) (new : List ℕ) (c a : ℕ) → length (in_place W b hook h k n new c a) ≤ W * whole W h
  unfolding in_place whole
  place_most zero k zero new c a = omega (arith, pos, hooked_most zero new c a)
  place_most zero zero (suc n) new c a = omega arith
  place_most zero (suc k) (suc n) new c a = omega (arith, words_most (suc k) (suc n) new)
  place_most (suc h) k zero new c a = let l : 1 ≤ W * whole W h + 1 = omega arith in omega (arith, pos, mul-le-mul_left W l, hooked_most (suc h) new c a)
  place_most (suc h) zero (suc n) new c a = omega arith
  place_most (suc h) (suc k) (suc n) new c a =
      let f : ℕ → List Store = λ j. in_place W b hook h (cell W b (suc k) j / W) (suc n - j * span W h) (part (span W h) j (suc n) new) (c + tail_before W h (suc n) (length new) j) (W * suc k + j) in
      let l : W * whole W h ≤ W * whole W h + 1 = omega arith in
      omega (
        arith,
        mul-le-mul_left W l,
        length_joined W f,
        terms W (λ j. length (f j)) (W * whole W h)
            (λ j. place_most h (cell W b (suc k) j / W) (suc n - j * span W h) (part (span W h) j (suc n) new) (c + tail_before W h (suc n) (length new) j) (W * suc k + j)),
      )
