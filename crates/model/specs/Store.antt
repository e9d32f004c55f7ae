-- Stores, barriers, epochs, and plans in words. Document 01, 'How a change is planned', its first paragraph.
use Rattle.std.specs.Prelude.{Bool, not, cond, List, [], ◌∷◌, ◌++◌, ℕ, ◌-◌, ◌*◌, ◌^◌, set, eqb}
use Rattle.std.proofs.lemmas.List.Edits.{sets}
use Rattle.model.specs.Lists.{filter}

-- a *pair of address and value*
pub record Store : Type 0 where
  pub at : ℕ
  pub value : ℕ

-- v stored at a
unfoldable pub store : ℕ → ℕ → Store
store a v = record { at = a; value = v }

-- *The pair (2^64 − 1, 0) is a barrier*
unfoldable pub barrier : Store
barrier = store (2 ^ 64 - 1) 0

-- one is known by its address alone
unfoldable pub is_barrier : Store → Bool
is_barrier s = eqb s.at (2 ^ 64 - 1)

-- a board with stores performed, each *puts its whole value at its address, and no other word changes*
unfoldable pub performed : List ℕ → List Store → List ℕ
performed b [] = b
performed b (s ∷ ss) = performed (set b s.at s.value) ss

-- the stores among pairs: *barriers store nothing*
unfoldable pub stores : List Store → List Store
stores = filter (λ s. not (is_barrier s))

-- a store before the first of some epochs
unfoldable pub opening : Store → List (List Store) → List (List Store)
opening s [] = (s ∷ []) ∷ []
opening s (e ∷ es) = (s ∷ e) ∷ es

-- the *epochs* of pairs: a barrier *ends an epoch*
unfoldable pub epochs : List Store → List (List Store)
epochs [] = []
epochs (s ∷ ss) = cond (is_barrier s) ([] ∷ epochs ss) (opening s (epochs ss))

-- the pairs of a list of epochs: a barrier between two, *none stands first or last*
unfoldable pub fenced : List (List Store) → List Store
fenced [] = []
fenced (e ∷ []) = e
fenced (e ∷ d ∷ es) = e ++ (barrier ∷ fenced (d ∷ es))

-- pairs as words
unfoldable pub flat : List Store → List ℕ
flat [] = []
flat (s ∷ ss) = s.at ∷ s.value ∷ flat ss

-- the pairs that words hold
unfoldable pub paired : List ℕ → List Store
paired [] = []
paired (a ∷ []) = []
paired (a ∷ v ∷ ws) = store a v ∷ paired ws

-- the *lent slice* with pairs written from pair p on; its other words stay
unfoldable pub laid : List ℕ → ℕ → List Store → List ℕ
laid plan p ss = sets plan (2 * p) (flat ss)
