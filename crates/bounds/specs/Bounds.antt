-- How many stores a write may cost: the figures of N12 of document 02, for a write of L bytes on a house board.
use Rattle.std.specs.Prelude.{List, ℕ, ◌+◌, ◌*◌, ◌/◌, length}
use Rattle.model.specs.Store.{Store, stores}

-- *t = floor((L + 62) / 64) + 1*: the most data blocks that L bytes meet, wherever they begin
unfoldable pub t : ℕ → ℕ
t l = (l + 62) / 64 + 1

-- *u = floor((t + 6) / 8) + 1*: the most blocks over those
unfoldable pub u : ℕ → ℕ
u l = (t l + 6) / 8 + 1

-- *v = floor((u + 6) / 8) + 1*: the most over these
unfoldable pub v : ℕ → ℕ
v l = (u l + 6) / 8 + 1

-- *t + u + v + 5*: the most fresh blocks, which are those, the top block, an inode leaf and three levels of growth
unfoldable pub most_blocks : ℕ → ℕ
most_blocks l = t l + u l + v l + 5

-- *8 × (t + u + v + 5) + 32*
unfoldable pub most_stores : ℕ → ℕ
most_stores l = 8 * most_blocks l + 32

-- the sharper figure, which no document asks for: eight for each of those blocks, and two commits
unfoldable pub sharp_stores : ℕ → ℕ
sharp_stores l = 8 * most_blocks l + 2

-- how many *stores* some pairs have, *barriers not counted*
unfoldable pub store_count : List Store → ℕ
store_count ss = length (stores ss)
