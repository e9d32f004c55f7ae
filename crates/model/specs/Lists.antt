-- Lists and counts that the definitions are written with. None is a term of the document.
use Rattle.std.specs.Prelude.{Bool, true, false, not, cond, ◌&&◌, ◌||◌, List, [], ◌∷◌, ◌++◌, ℕ, zero, suc, ◌+◌, eqb}

-- f 0, f 1, .., f (n - 1)
unfoldable pub tabulate : {A : Type 0} → ℕ → (ℕ → A) → List A
tabulate zero f = []
tabulate (suc n) f = tabulate n f ++ (f n ∷ [])

-- f 0 ++ f 1 ++ .. ++ f (n - 1)
unfoldable pub joined : {A : Type 0} → ℕ → (ℕ → List A) → List A
joined zero f = []
joined (suc n) f = joined n f ++ f n

-- f 0 + f 1 + .. + f (n - 1)
unfoldable pub sum : ℕ → (ℕ → ℕ) → ℕ
sum zero f = 0
sum (suc n) f = sum n f + f n

-- p holds of every number below n
unfoldable pub every : ℕ → (ℕ → Bool) → Bool
every zero p = true
every (suc n) p = every n p && p n

-- p holds of some number below n
unfoldable pub some : ℕ → (ℕ → Bool) → Bool
some zero p = false
some (suc n) p = some n p || p n

-- p holds of every element
unfoldable pub all : {A : Type 0} → (A → Bool) → List A → Bool
all p [] = true
all p (x ∷ xs) = p x && all p xs

-- x before xs where t is true, else xs
unfoldable pub cons_if : {A : Type 0} → Bool → A → List A → List A
cons_if true x xs = x ∷ xs
cons_if false x xs = xs

-- the elements of which p holds
unfoldable pub filter : {A : Type 0} → (A → Bool) → List A → List A
filter p [] = []
filter p (x ∷ xs) = cons_if (p x) x (filter p xs)

-- the lists one after the other
unfoldable pub concat : {A : Type 0} → List (List A) → List A
concat [] = []
concat (x ∷ xs) = x ++ concat xs

-- the numbers of c, c + 1, .., c + n - 1 of which p holds
unfoldable pub pick_from : ℕ → ℕ → (ℕ → Bool) → List ℕ
pick_from c zero p = []
pick_from c (suc n) p = cons_if (p c) c (pick_from (c + 1) n p)

-- x is in the list
unfoldable pub member : ℕ → List ℕ → Bool
member x [] = false
member x (y ∷ ys) = eqb x y || member x ys

-- no number is in the list twice
unfoldable pub distinct : List ℕ → Bool
distinct [] = true
distinct (x ∷ xs) = not (member x xs) && distinct xs

-- 1 where the two are equal, else 0
unfoldable pub one : ℕ → ℕ → ℕ
one q x = cond (eqb q x) 1 0

-- how often q is in the list
unfoldable pub occ : ℕ → List ℕ → ℕ
occ q [] = 0
occ q (x ∷ xs) = one q x + occ q xs

-- a where n is 0, else z
unfoldable pub choose : {A : Type 0} → ℕ → A → A → A
choose zero a z = a
choose (suc n) a z = z
