-- Marks of blocks that were reached: one word for each block, 0 where it was not.
use Rattle.std.specs.Prelude.{◌≡◌, Bool, true, ◌&&◌, List, [], ◌∷◌, ℕ, get_or, set, eqb}

-- none of the blocks is marked when its turn comes
unfoldable pub unmarked : List ℕ → List ℕ → Bool
unmarked m [] = true
unmarked m (k ∷ ks) = eqb (get_or m k 0) 0 && unmarked (set m k 1) ks

-- the marks once all of them are marked
unfoldable pub marked : List ℕ → List ℕ → List ℕ
marked m [] = m
marked m (k ∷ ks) = marked (set m k 1) ks

-- the answer `ok`, that something is as it must be and that none of the blocks ks was marked in m before; where it is, all of them are marked in m'.
-- What a refusal leaves is not said
pub record Marked (good : Bool) (ks m : List ℕ) (ok : Bool) (m' : List ℕ) : Type 0 where
  pub answer : ok ≡ (good && unmarked m ks)
  pub left : ok ≡ true → m' ≡ marked m ks
