-- What is promised of the blocks that walks visit, N6 of document 02. All are proved; README says where.
use Rattle.std.specs.Prelude.{◌≡◌, ◌↔◌, List, map, ℕ, suc, ◌+◌, ◌*◌, ◌/◌, ◌≤◌, ◌<◌, length, T, Some, None}
use Rattle.model.specs.Lists.{sum, filter, member, distinct}
use Rattle.model.specs.Layout.{Layout, Fits, house, files}
use Rattle.model.specs.Tree.{span}
use Rattle.model.specs.Board.{root_height, file_visits, walk_to, visits_to, file_blocks, accepted}
use Rattle.model.specs.Calls.{stretch_count, read_count, visited, read_visited, write_visited}
use Rattle.visits.specs.Placed.{over, file_placed}

-- the blocks on the path to byte i of file f
abbrev pub blocks_over : Layout → List ℕ → ℕ → ℕ → List ℕ
blocks_over g b f i = map (λ p. p.block) (filter (over i) (file_placed g b f))

-- the walks to the bytes of file f
pub record Visiting (g : Layout) (b : List ℕ) (f : ℕ) : Type 0 where
  -- the call's count is the one that read and write add up
  pub same : (i : ℕ) → visits_to g b f i ≡ file_visits g b f i
  -- what is looked at are the live blocks of the file as the tree's definition has them
  pub lives : map (λ p. p.block) (file_placed g b f) ≡ file_blocks g b f
  -- *The number must equal that count in the tree's definition*: as many as lie on the path to the byte, none of them twice
  pub counts : (i : ℕ) → visits_to g b f i ≡ length (blocks_over g b f i)
  pub once : (i : ℕ) → T (distinct (blocks_over g b f i))
  -- *the data block included*: a walk that ends at a block has visited one on each level, that block among them
  pub arrives : (i k : ℕ) → walk_to g b f i ≡ Some k → (visits_to g b f i ≡ suc (root_height g b f)) × T (member k (blocks_over g b f i))
  -- *and a hole not counted*
  pub misses : (i : ℕ) → walk_to g b f i ≡ None → visits_to g b f i ≤ root_height g b f
  -- so at most height + 1; and no more than the greatest height allows, also in a file of size 0, whose root may hold any bits
  pub most : (i : ℕ) → visits_to g b f i ≤ suc (root_height g b f)
  pub tallest : (i : ℕ) → visits_to g b f i ≤ suc g.height
  -- every byte of a stretch has the same count, so that one walk stands for the stretch
  pub alike : (i j : ℕ) → i / span g.words 0 ≡ j / span g.words 0 → visits_to g b f i ≡ visits_to g b f j
  -- what read and write add up for l bytes from o on: the blocks on the path to each stretch
  pub adds : (o l : ℕ) → let m : ℕ = span g.words 0 in visited g b f o l ≡ sum (stretch_count m o l) (λ q. length (blocks_over g b f ((o / m + q) * m)))

-- in every file of an accepted board
abbrev pub VisitsRule : Type 0
VisitsRule = (g : Layout) → Fits g → (b : List ℕ) → T (accepted g b) → (f : ℕ) → f < files g → Visiting g b f

-- the stretches of m bytes that are counted are those *with a byte* of the l bytes from o on
abbrev pub StretchRule : Type 0
StretchRule = (m o l q : ℕ) → 0 < m → ((i : ℕ) × (o ≤ i) × (i < o + l) × (i / m ≡ q)) ↔ ((o / m ≤ q) × (q < o / m + stretch_count m o l))

-- For the data sheet, on any board: a read visits at most height + 1 blocks for each stretch, and so does a write
abbrev pub MostRule : Type 0
MostRule = (g : Layout) (b : List ℕ) (f o : ℕ)
    → ((out : List ℕ) → read_visited g b f o out ≤ suc (root_height g b f) * stretch_count (span g.words 0) o (read_count g b f o out))
    × ((new slice : List ℕ) → write_visited g b f o new slice ≤ suc (root_height g b f) * stretch_count (span g.words 0) o (length new))

-- with the house's figures: four blocks for each stretch, and at most so many stretches
abbrev pub HouseMostRule : Type 0
HouseMostRule = (b : List ℕ) (f o : ℕ)
    → ((out : List ℕ) → read_visited house b f o out ≤ 4 * ((read_count house b f o out + 62) / 64 + 1))
    × ((new slice : List ℕ) → write_visited house b f o new slice ≤ 4 * ((length new + 62) / 64 + 1))
