-- The end of a walk as C gets it.
use Rattle.std.specs.Prelude.{Option, Some, None}
use mathlib.Core.Path.{◌≡◌}
use Prim.Native.Nat.{ℕ, ◌^◌, ◌<◌}
use lib.IntN.{pos}
use mir.Facts.{to_z_pos}
use mir.Syntax.{w64}
use mir.Val.{to_z}
use Rattle.model.specs.Answers.{ended}

pub ended_hole : {w : Option ℕ} → w ≡ None → pos 0 ≡ ended w
unfolding ended
ended_hole e = rw e

pub ended_block : {w : Option ℕ} {k : ℕ} → w ≡ Some k → k < 2 ^ 63 → to_z w64 k ≡ ended w
unfolding ended
ended_block e small = rw e (to_z_pos w64 small)
