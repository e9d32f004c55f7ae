-- The live blocks of a tree, each with the bytes that lie under it: which of them are on the way to a byte.
use Rattle.std.specs.Prelude.{Bool, ◌&&◌, List, [], ◌∷◌, ℕ, zero, suc, ◌+◌, ◌-◌, ◌*◌, ◌/◌, leb, ltb}
use Rattle.model.specs.Lists.{joined}
use Rattle.model.specs.Layout.{Layout}
use Rattle.model.specs.Tree.{span, cell}
use Rattle.model.specs.Board.{root_height, root_block, size}

-- a block, and the `bytes` bytes from byte `from` of the file on that it spans
pub record Placed : Type 0 where
  pub block : ℕ
  pub from : ℕ
  pub bytes : ℕ

-- it lies on the path to byte i
unfoldable pub over : ℕ → Placed → Bool
over i p = leb p.from i && ltb i (p.from + p.bytes)

-- the live blocks of a tree that begins at byte a, as `blocks` lists them
unfoldable pub placed : ℕ → List ℕ → ℕ → ℕ → ℕ → ℕ → List Placed
placed W b zero zero n a = []
placed W b zero (suc k) zero a = []
placed W b zero (suc k) (suc n) a = record { block = suc k; from = a; bytes = span W zero } ∷ []
placed W b (suc h) zero n a = []
placed W b (suc h) (suc k) zero a = []
placed W b (suc h) (suc k) (suc n) a =
    record { block = suc k; from = a; bytes = span W (suc h) } ∷ joined W (λ j. placed W b h (cell W b (suc k) j / W) (suc n - j * span W h) (a + j * span W h))

-- those of file f
unfoldable pub file_placed : Layout → List ℕ → ℕ → List Placed
file_placed g b f = placed g.words b (root_height g b f) (root_block g b f) (size g b f) 0
