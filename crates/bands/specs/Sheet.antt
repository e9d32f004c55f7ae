-- The bench sheet. Document 02, N4, *Height by cases*.
use Rattle.std.specs.Prelude.{Bool, cond, ◌&&◌, List, [], ◌∷◌, ℕ, leb}

-- a row of the sheet: for `first` to `last` bytes a tree of this height is chosen
pub record Band : Type 0 where
  pub first : ℕ
  pub last : ℕ
  pub height : ℕ

-- the row for x to y bytes
unfoldable pub row : ℕ → ℕ → ℕ → Band
row x y h = record { first = x; last = y; height = h }

-- *our bench sheet prints four bands, 0 to 64, 65 to 512, 513 to 4,096 and 4,097 to 32,768 bytes*
unfoldable pub sheet : List Band
sheet =
    row 0 64 0
    ∷ row 65 512 1
    ∷ row 513 4096 2
    ∷ row 4097 32768 3
    ∷ []

-- e bytes lie in the band
unfoldable pub lies : ℕ → Band → Bool
lies e r = leb r.first e && leb e r.last

-- the height of the first row that e lies in; 0 where there is none
unfoldable pub height_in : List Band → ℕ → ℕ
height_in [] e = 0
height_in (r ∷ rs) e = cond (lies e r) r.height (height_in rs e)

-- *choose by those bands*
unfoldable pub sheet_height : ℕ → ℕ
sheet_height e = height_in sheet e
