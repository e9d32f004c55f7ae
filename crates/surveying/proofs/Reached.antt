-- Marks that start at 0 find a block twice just where the list of blocks has it twice, and afterwards leave free what the list does not have.
use mathlib.Core.Path.{◌≡◌, refl, sym, ◌∙◌}
use mathlib.Core.Bool.{Bool, true, false, not, ◌&&◌, ◌||◌, and-false, and-true}
use mathlib.Core.List.{List, [], ◌∷◌}
use Prim.Native.Nat.{ℕ, zero, suc, ◌+◌, ◌-◌, ◌≤◌, ◌<◌}
use native.Mathlib.Omega.{arith}
use lib.ListN.{length, get_or, set, replicate, length-set, length-replicate}
use lib.Seq.{get_or-set_same, get_or-set_other}
use lib.Dec.{ltb, eqb}
use borrow.Author.Tests.{eqb-true, eqb-false, ltb-true, lt-ltb}
use Rattle.model.specs.Lists.{all, cons_if, pick_from, member, distinct}
use Rattle.model.proofs.Cases.{true_left, true_right}
use Rattle.model.proofs.Live.{below}
use Rattle.trees.specs.Marks.{unmarked, marked}

-- none of the blocks is marked
abbrev clean : List ℕ → List ℕ → Bool
clean m = all (λ k. eqb (get_or m k 0) 0)

swap : (x y z : Bool) → (x && (y && z)) ≡ (y && (x && z))
swap true y z = refl
swap false true z = refl
swap false false z = refl

swaps : (e d m c : Bool) → (e && (d && (m && c))) ≡ (m && d && (e && c))
swaps true true true c = refl
swaps true true false c = refl
swaps true false true c = refl
swaps true false false c = refl
swaps false true true c = refl
swaps false true false c = refl
swaps false false true c = refl
swaps false false false c = refl

clean_set : (m : List ℕ) (x : ℕ) (ys : List ℕ) → x < length m → clean (set m x 1) ys ≡ (not (member x ys) && clean m ys)
unfolding all member
clean_set m x [] l = refl
clean_set m x (y ∷ ys) l = by (clean_set m x ys l) (eqb x y) refl
  where
    by : clean (set m x 1) ys ≡ (not (member x ys) && clean m ys) → (t : Bool) → eqb x y ≡ t → clean (set m x 1) (y ∷ ys) ≡ (not (member x (y ∷ ys)) && clean m (y ∷ ys))
    by ih true e = rw (e, ← eqb-true x y e, get_or-set_same m x 1 0 l)
    by ih false e = rw (e, get_or-set_other m x y 1 0 (λ z. eqb-false x y e (sym z)), ih) (swap (eqb (get_or m y 0) 0) (not (member x ys)) (clean m ys))

-- the first of blocks that lie below the marks' end, and the others once it is marked
module _ (m : List ℕ) (x : ℕ) (xs : List ℕ) (w : below (length m) (x ∷ xs) ≡ true) where
  first : x < length m
  unfolding all
  first = ltb-true x (length m) (true_left (ltb x (length m)) (below (length m) xs) w)

  others : below (length (set m x 1)) xs ≡ true
  unfolding all
  others = rw length-set (true_right (ltb x (length m)) (below (length m) xs) w)

unmarked_distinct : (m xs : List ℕ) → below (length m) xs ≡ true → unmarked m xs ≡ (distinct xs && clean m xs)
unfolding unmarked distinct all
unmarked_distinct m [] w = refl
unmarked_distinct m (x ∷ xs) w =
    rw (unmarked_distinct (set m x 1) xs (others m x xs w), clean_set m x xs (first m x xs w)) (swaps (eqb (get_or m x 0) 0) (distinct xs) (not (member x xs)) (clean m xs))

zeros_at : (n i : ℕ) → ◌≡◌ {A = ℕ} (get_or (replicate n 0) i 0) 0
zeros_at zero i = refl
zeros_at (suc n) zero = refl
zeros_at (suc n) (suc i) = zeros_at n i

clean_zeros : (n : ℕ) (xs : List ℕ) → clean (replicate n 0) xs ≡ true
unfolding all
clean_zeros n [] = refl
clean_zeros n (x ∷ xs) = rw (zeros_at n x) (clean_zeros n xs)

pub unmarked_zeros : (n : ℕ) (xs : List ℕ) → below n xs ≡ true → unmarked (replicate n 0) xs ≡ distinct xs
unmarked_zeros n xs w = unmarked_distinct (replicate n 0) xs (rw length-replicate w) ∙ rw (clean_zeros n xs, and-true)

-- what the marks hold afterwards
marked_at : (m xs : List ℕ) (k : ℕ) → below (length m) xs ≡ true → eqb (get_or (marked m xs) k 0) 0 ≡ (not (member k xs) && eqb (get_or m k 0) 0)
unfolding marked member all
marked_at m [] k w = refl
marked_at m (x ∷ xs) k w = marked_at (set m x 1) xs k (others m x xs w) ∙ by (eqb k x) refl
  where
    by : (t : Bool) → eqb k x ≡ t → (not (member k xs) && eqb (get_or (set m x 1) k 0) 0) ≡ (not (eqb k x || member k xs) && eqb (get_or m k 0) 0)
    by true e = rw (e, eqb-true k x e, get_or-set_same m x 1 0 (first m x xs w), and-false)
    by false e = rw (e, get_or-set_other m x k 1 0 (eqb-false k x e))

pub spare_live : (n : ℕ) (xs : List ℕ) (k : ℕ) → below n xs ≡ true → eqb (get_or (marked (replicate n 0) xs) k 0) 0 ≡ not (member k xs)
spare_live n xs k w = marked_at (replicate n 0) xs k (rw length-replicate w) ∙ rw (zeros_at n k, and-true)

-- blocks that lie lower lie below
pub below_more : (n n' : ℕ) (xs : List ℕ) → n ≤ n' → below n xs ≡ true → below n' xs ≡ true
unfolding all
below_more n n' [] l a = refl
below_more n n' (x ∷ xs) l a =
    let h = ltb-true x n (true_left (ltb x n) (below n xs) a) in
    rw (lt-ltb x n' (omega arith)) (below_more n n' xs l (true_right (ltb x n) (below n xs) a))

pub pick_same : (c n : ℕ) (p q : ℕ → Bool) → ((k : ℕ) → p k ≡ q k) → pick_from c n p ≡ pick_from c n q
unfolding pick_from
pick_same c zero p q e = refl
pick_same c (suc n) p q e = rw (e c, pick_same (c + 1) n p q e)

-- one more of the numbers from k on, below top
pub pick_next : (k top : ℕ) (p : ℕ → Bool) → k < top → pick_from k (top - k) p ≡ cons_if (p k) k (pick_from (k + 1) (top - (k + 1)) p)
unfolding pick_from
pick_next k top p l = let e : top - k ≡ suc (top - (k + 1)) = omega arith in rw e

pub pick_none : (k top : ℕ) (p : ℕ → Bool) → top ≤ k → pick_from k (top - k) p ≡ []
unfolding pick_from
pick_none k top p l = let e : top - k ≡ 0 = omega arith in rw e
