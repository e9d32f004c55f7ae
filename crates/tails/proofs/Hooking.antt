-- The pointer to a fresh tree, by how many blocks it takes.
use mathlib.Core.Path.{◌≡◌}
use mathlib.Core.List.{List}
use Prim.Native.Nat.{ℕ, ◌+◌, ◌-◌, ◌*◌}
use Rattle.model.specs.Fresh.{need, fresh_pointer}
use Rattle.plans.specs.Onto.{taking}
use Rattle.tails.specs.Stores.{hooks}

pub last : (W : ℕ) (free : List ℕ) (h l c : ℕ) {m v : ℕ} → m ≡ need W h 0 l → v ≡ W * taking free (c + m - 1) → v ≡ hooks W free h l c
unfolding hooks fresh_pointer
last W free h l c em ev = rw (← em) ev
