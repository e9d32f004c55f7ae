use mathlib.Core.Path.{◌≡◌, refl}
use mathlib.Core.Logic.{◌≢◌}
use Prim.Native.Nat.{ℕ, zero, suc}
use native.Mathlib.Omega.{arith}
use Rattle.model.specs.Layout.{Layout}
use Rattle.model.specs.Board.{trailer_word}
use Rattle.kinds.proofs.Figures.{files_32}
use Rattle.boards.proofs.trailer_word.Goals as goal

other : (g : Layout) (B j : ℕ) → j ≢ 1 → j ≢ 2 → j ≢ 3 → 0 ≡ trailer_word g B j
unfolding trailer_word
other g B zero a b c = refl
other g B (suc zero) a b c = absurd (a refl)
other g B (suc (suc zero)) a b c = absurd (b refl)
other g B (suc (suc (suc zero))) a b c = absurd (c refl)
other g B (suc (suc (suc (suc j)))) a b c = refl

pub returns-in-1 : goal.returns-in-1
unfolding trailer_word
returns-in-1 g c = rw (c.in-1.is, files_32 g.L.Layout.kind)

pub returns-in-2 : goal.returns-in-2
unfolding trailer_word
returns-in-2 g c = rw c.in-2.is

pub returns-in-3 : goal.returns-in-3
unfolding trailer_word
returns-in-3 g c = rw (c.in-3.is, c.MARK.ensures) g.met.L.Layout.figures.mark

pub returns-in_default : goal.returns-in_default
returns-in_default g c = other _ c.args.blocks c.args.j (omega arith) (omega arith) (omega arith)
