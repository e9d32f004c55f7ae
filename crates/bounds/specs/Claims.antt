-- What is promised of the stores of a write, by N12 of document 02 and beyond it, and which plan slices hold every plan. All are proved; README says where.
use Rattle.std.specs.Prelude.{◌≡◌, ◌≢◌, List, ℕ, ◌*◌, ◌≤◌, length, Err}
use Rattle.model.specs.declared.Fault.TheVariants.{PlanLength}
use Rattle.model.specs.Layout.{Kind}
use Rattle.model.specs.Words.{Bytes}
use Rattle.model.specs.Layout.{house, layout_of}
use Rattle.model.specs.Board.{size}
use Rattle.model.specs.Calls.{write_from, write, format}
use Rattle.model.specs.Cut.{Change, called_from, plan_of}
use Rattle.bounds.specs.Bounds.{most_stores, sharp_stores, store_count}

-- *For a base-layout write of L bytes, L at least 1 and the offset not past the size, its plan has at most 8 × (t + u + v + 5) + 32 stores, barriers not
-- counted*: every board, every file, all bytes, every slice; also where the offset lies past the size. A call that is refused leaves no plan, and one of no
-- bytes an empty one
abbrev pub StoresRule : Type 0
StoresRule = (b : List ℕ) (f o : ℕ) (new : Bytes) (slice : List ℕ) → store_count (plan_of (write house b f o new.values slice)) ≤ most_stores (length new.values)

-- so many are enough with its barriers, in whichever order blocks are taken
abbrev pub PairsRule : Type 0
PairsRule = (b : List ℕ) (fresh : ℕ → ℕ) (f o : ℕ) (new : Bytes) (slice : List ℕ) → length (plan_of (write_from house b fresh f o new.values slice)) ≤ most_stores (length new.values)

-- and 30 fewer stores where the offset is not past the size
abbrev pub SharpRule : Type 0
SharpRule = (b : List ℕ) (fresh : ℕ → ℕ) (f o : ℕ) (new : Bytes) (slice : List ℕ) → o ≤ size house b f
    → store_count (plan_of (write_from house b fresh f o new.values slice)) ≤ sharp_stores (length new.values)

-- with a number below its 2 it would not hold: there is a write that costs so many
abbrev pub MetRule : Type 0
MetRule = (b : List ℕ) × (o : ℕ) × (new : Bytes) × (slice : List ℕ)
    × (o ≤ size house b 0) × (1 ≤ length new.values) × (store_count (plan_of (write house b 0 o new.values slice)) ≡ sharp_stores (length new.values))

-- With a slice of twice the board's words no write, past the end too, and no length change is refused 8: any words, all arguments, each kind of board,
-- whichever order blocks are taken in
abbrev pub RoomRule : Type 0
RoomRule = (k : Kind) (b : List ℕ) (fresh : ℕ → ℕ) (c : Change) (slice : List ℕ) → 2 * length b ≤ length slice → (called_from (layout_of k) fresh b c slice).answer ≢ Err PlanLength

-- nor format
abbrev pub FormatRoomRule : Type 0
FormatRoomRule = (k : Kind) (b slice : List ℕ) → 2 * length b ≤ length slice → (format (layout_of k) b slice).answer ≢ Err PlanLength

-- nor a write, with two words for each pair that it may have
abbrev pub WriteRoomRule : Type 0
WriteRoomRule = (b : List ℕ) (fresh : ℕ → ℕ) (f o : ℕ) (new : Bytes) (slice : List ℕ) → 2 * most_stores (length new.values) ≤ length slice
    → (write_from house b fresh f o new.values slice).answer ≢ Err PlanLength
