-- Safe plans: what may be asked of any plan that changes one file, so that it obeys the power-cut rule. Those of the calls are so.
use Rattle.std.specs.Prelude.{◌≡◌, ◌≢◌, Bool, ◌&&◌, ◌||◌, List, [], ℕ, suc, ◌<◌, length, get_or, take, T, ltb, eqb}
use Rattle.model.specs.Lists.{all, concat}
use Rattle.model.specs.Layout.{Layout, files}
use Rattle.model.specs.Board.{contents, accepted}
use Rattle.model.specs.Store.{Store, performed}
use Rattle.model.specs.Hidden.{hidden}
use Rattle.model.specs.Cut.{Cut}

-- the board as the epochs before number i leave it
unfoldable pub left : List ℕ → List (List Store) → ℕ → List ℕ
left b es i = performed b (concat (take i es))

-- Epochs of two or more stores are hidden on the board as earlier epochs left it. Epochs of one store leave the board accepted; of these only
-- number d changes what a file reads, and it changes file f alone
pub record SafePlan (g : Layout) (b : List ℕ) (f : ℕ) (es : List (List Store)) (d : ℕ) : Type 0 where
  pub hides : (i : ℕ) → i < length es → 1 < length (get_or es i []) → T (all (hidden g (left b es i)) (get_or es i []))
  pub accepts : (i : ℕ) → i < length es → length (get_or es i []) ≡ 1 → T (accepted g (left b es (suc i)))
  pub keeps : (i : ℕ) → i < length es → length (get_or es i []) ≡ 1 → i ≢ d → contents g (left b es (suc i)) f ≡ contents g (left b es i) f
  pub others : (i : ℕ) → i < length es → length (get_or es i []) ≡ 1 → (e : ℕ) → e < files g → e ≢ f → contents g (left b es (suc i)) e ≡ contents g (left b es i) e

-- the store of epoch d arrived
unfoldable pub decided : ℕ → Cut → Bool
decided d x = ltb d x.epoch || eqb d x.epoch && x.arrived 0
