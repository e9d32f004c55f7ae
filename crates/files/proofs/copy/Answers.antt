use mathlib.Core.Path.{◌≡◌, refl}
use Prim.Native.Nat.{ℕ, ◌+◌, ◌^◌}
use native.Mathlib.Omega.{arith}
use Rattle.model.specs.Tree.{shown}
use Rattle.words.proofs.Filling
use Rattle.files.proofs.Whole
use Rattle.files.proofs.copy.Goals as goal

pub returns : goal.returns
returns g c = let a = c.args in
    let byte : ℕ → ℕ = λ j. shown (2 ^ g.B.BlockSize.BITS) a.board.now a.end (a.from + j) in
    let z : 0 + a.n ≡ a.n = omega arith in
    rw z at (Whole.part {f = byte} {g = byte} Filling.none refl (omega arith) (λ i l. let e : 0 + i ≡ i = omega arith in rw e) c.copy_piece.ensures)
