-- What N4 of document 02 promises, as statements. All are proved in proofs/.
use Rattle.std.specs.Prelude.{◌≡◌, cond, List, ℕ, ◌+◌, ◌≤◌, ◌<◌, length, leb}
use Rattle.model.specs.Lists.{filter}
use Rattle.model.specs.Layout.{Layout, house}
use Rattle.model.specs.Tree.{span, least}
use Rattle.model.specs.Change.{write_plan}
use Rattle.bands.specs.Sheet.{sheet, lies, sheet_height}
use Rattle.bands.specs.Planned.{write_plan_by}

-- *for every size from 0 to 32,768 this gives the least height whose span reaches it*: its span reaches the size, and no smaller height's does
abbrev pub SheetRule : Type 0
SheetRule = (e : ℕ) → e ≤ 32768 → (e ≤ span 8 (sheet_height e)) × ((h : ℕ) → h < sheet_height e → span 8 h < e)

-- so it is the height that plans ask for, `least` at the house's figures
abbrev pub LeastRule : Type 0
LeastRule = (e : ℕ) → e ≤ 32768 → sheet_height e ≡ least house.words house.height e

-- the bands meet without gap or overlap: each of these sizes lies in one of them, every other in none
abbrev pub BandsRule : Type 0
BandsRule = (e : ℕ) → length (filter (lies e) sheet) ≡ cond (leb e 32768) 1 0

-- *no plan changes*: a height function that agrees with the least sufficient height where a write ends gives that write's plan, on every kind of board
abbrev pub SameHeightRule : Type 0
SameHeightRule = (g : Layout) (tall fresh : ℕ → ℕ) (b : List ℕ) (f o : ℕ) (new : List ℕ)
    → tall (o + length new) ≡ least g.words g.height (o + length new) → write_plan_by g tall fresh b f o new ≡ write_plan g fresh b f o new

-- and the sheet's is one, on the house's board, where 6 is not refused
abbrev pub SamePlanRule : Type 0
SamePlanRule = (fresh : ℕ → ℕ) (b : List ℕ) (f o : ℕ) (new : List ℕ)
    → o + length new ≤ 32768 → write_plan_by house sheet_height fresh b f o new ≡ write_plan house fresh b f o new
