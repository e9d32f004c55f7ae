-- Where a walk ends that arrives at a block.
use Rattle.std.specs.Prelude.{Some, None}
use mathlib.Core.Path.{◌≡◌, refl}
use mathlib.Core.Logic.{◌≢◌}
use Prim.Native.Nat.{ℕ, zero, suc}
use native.Mathlib.Omega.{arith}
use Rattle.model.specs.Tree.{ending}

pub end_null : (k n : ℕ) → k ≡ 0 → None ≡ ending k n
unfolding ending
end_null zero n e = refl
end_null (suc k) n e = absurd (omega arith)

pub end_dead : (k n : ℕ) → n ≡ 0 → None ≡ ending k n
unfolding ending
end_dead zero n e = refl
end_dead (suc k) zero e = refl
end_dead (suc k) (suc n) e = absurd (omega arith)

pub end_here : (k n : ℕ) → k ≢ 0 → n ≢ 0 → Some k ≡ ending k n
unfolding ending
end_here zero n there live = absurd (there refl)
end_here (suc k) zero there live = absurd (live refl)
end_here (suc k) (suc n) there live = refl
