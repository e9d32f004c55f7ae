-- Format on 16 blocks, by computation: 83 pairs, the trailer and block 1 as document 01 has them, and 32 files of size 0.
use mathlib.Core.Path.{◌≡◌, refl}
use mathlib.Core.Bool.{true}
use mathlib.Core.List.{List, [], ◌∷◌}
use Prim.Native.Nat.{ℕ}
use lib.ListN.{length, replicate}
use Rattle.model.specs.Lists.{tabulate}
use Rattle.model.specs.Layout.{house}
use Rattle.model.specs.Board.{trailer, inode_pointer, size, accepted}
use Rattle.model.specs.Store.{performed, stores}
use Rattle.model.specs.Plan.{pairs}
use Rattle.model.specs.Format.{format_plan}
use Rattle.model.proofs.Computing.{computes}

abbrev pub blank : List ℕ
blank = replicate 128 7

abbrev pub fresh16 : List ℕ
fresh16 = performed blank (stores (pairs (format_plan house blank)))

pub format_16 : (length (pairs (format_plan house blank)) ≡ 83) × (tabulate 8 (trailer house fresh16) ≡ 9 ∷ 512 ∷ 16 ∷ 1 ∷ 0 ∷ 0 ∷ 0 ∷ 0 ∷ [])
    × (tabulate 8 (inode_pointer house fresh16) ≡ 16 ∷ 24 ∷ 32 ∷ 40 ∷ 48 ∷ 56 ∷ 64 ∷ 72 ∷ []) × (accepted house fresh16 ≡ true) × (tabulate 32 (size house fresh16) ≡ replicate 32 0)
unfolding computes
format_16 = (refl, refl, refl, refl, refl)
