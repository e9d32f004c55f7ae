use mathlib.Core.Path.{◌≡◌, refl, ◌∙◌}
use mathlib.Core.Logic.{◌≢◌}
use Prim.Native.Nat.{ℕ, zero, suc, ◌-◌}
use native.Mathlib.Numerals.{sub-one}
use Rattle.model.specs.Change.{level_below}
use Rattle.plans.specs.Onto.{taking}
use Rattle.plans.proofs.level_below.Goals as goal

-- the last fresh block, over some levels
last : (fresh : ℕ → ℕ) (k t : ℕ) → t ≢ 0 → fresh (t - 1) ≡ level_below fresh k t
unfolding level_below
last fresh k zero f = absurd (f refl)
last fresh k (suc t) f = rw sub-one

pub returns-then-t-eq0 : goal.returns-then-t-eq0
unfolding level_below
returns-then-t-eq0 c = rw c.if-t-eq0.true

pub returns-else-t-eq0 : goal.returns-else-t-eq0
unfolding taking
returns-else-t-eq0 c = let a = c.args in c.word.ensures ∙ last (taking a.free.now) a.k a.t c.if-t-eq0.false
