-- The board: a list of words, with the layout g. Document 01, 'The board'.
use Rattle.std.specs.Prelude.{Bool, true, not, cond, ◌&&◌, List, ◌∷◌, ◌++◌, ℕ, zero, suc, ◌+◌, ◌-◌, ◌*◌, ◌/◌, ◌%◌, length, get_or, leb, ltb, eqb, Option, None}
use Rattle.model.specs.declared.Inode.{Inode}
use Rattle.model.specs.Lists.{tabulate, joined, every, pick_from, member, distinct}
use Rattle.model.specs.Layout.{Layout, files}
use Rattle.model.specs.Tree.{span, cell, link, walk, visits, shown, blocks, data_blocks, sound}

-- A file by its root word r and its size n. *A file's root word is W × block + height.*
module _ (W : ℕ) (b : List ℕ) (r n : ℕ) where
  -- the walk *starts at the root word; a byte past the span is in a hole*
  unfoldable pub root_walk : ℕ → Option ℕ
  root_walk i = cond (ltb i (span W (r % W))) (walk W b (r % W) (r / W) n i) None

  -- N6: how many blocks it visited, none to a byte past the span
  unfoldable pub root_visits : ℕ → ℕ
  root_visits i = cond (ltb i (span W (r % W))) (visits W b (r % W) (r / W) n i) 0

  -- the live blocks of the file
  unfoldable pub root_blocks : List ℕ
  root_blocks = blocks W b (r % W) (r / W) n

-- a live root has *height 0 to 3*, and the tree's live pointers are as they must be. The root of a file of size 0 may hold any bits
unfoldable pub root_sound : ℕ → List ℕ → ℕ → ℕ → ℕ → ℕ → Bool
root_sound W b height top r zero = true
root_sound W b height top r (suc n) = leb (r % W) height && sound W b top (r % W) (r / W) (suc n)

-- the *trailer's* word j, from word 1 on, on a board of B blocks: *bytes of inodes, B, the layout*, then 0
unfoldable pub trailer_word : Layout → ℕ → ℕ → ℕ
trailer_word g B zero = 0
trailer_word g B (suc zero) = 16 * files g
trailer_word g B (suc (suc zero)) = B
trailer_word g B (suc (suc (suc zero))) = g.mark
trailer_word g B (suc (suc (suc (suc j)))) = 0

-- *Sizes are at most*
unfoldable pub greatest : Layout → ℕ
greatest g = span g.words g.height

module _ (g : Layout) (b : List ℕ) where
  -- *B is the number of blocks*
  unfoldable pub block_count : ℕ
  block_count = length b / g.words

  -- word j of *block B − 1, the trailer*
  unfoldable pub trailer : ℕ → ℕ
  trailer j = cell g.words b (block_count - 1) j

  -- the *inode pointer block*, from *the inode root*, trailer word 0
  unfoldable pub inode_block : ℕ
  inode_block = trailer 0 / g.words

  -- *inode pointer* l
  unfoldable pub inode_pointer : ℕ → ℕ
  inode_pointer l = cell g.words b inode_block l

  -- the *inode leaf* it points to
  unfoldable pub leaf : ℕ → ℕ
  leaf l = inode_pointer l / g.words

  -- where file f's root word stands: *file f is inode f mod 4 of leaf f / 4*, an inode two words, *root and size*
  unfoldable pub root_address : ℕ → ℕ
  root_address f = g.words * leaf (f / g.inodes) + 2 * (f % g.inodes)

  -- where its size stands, the word after
  unfoldable pub size_address : ℕ → ℕ
  size_address f = root_address f + 1

  -- its *root* word
  unfoldable pub root : ℕ → ℕ
  root f = get_or b (root_address f) 0

  -- the *height* in it
  abbrev pub root_height : ℕ → ℕ
  root_height f = root f % g.words

  -- and the *block*
  abbrev pub root_block : ℕ → ℕ
  root_block f = root f / g.words

  -- its *size*
  unfoldable pub size : ℕ → ℕ
  size f = get_or b (size_address f) 0

  -- all of its inode: root and size, where they stand, and where the inode pointer stands that leads to them
  abbrev pub inode_of : ℕ → Inode
  inode_of f = record { pointer = g.words * inode_block + f / g.inodes; at = root_address f; root = root f; size = size f }

  -- the walk to byte i of a file by its root word and its size
  unfoldable pub file_walk : ℕ → ℕ → Option ℕ
  file_walk f i = root_walk g.words b (root f) (size f) i

  -- N6: how many blocks it visited
  unfoldable pub file_visits : ℕ → ℕ → ℕ
  file_visits f i = root_visits g.words b (root f) (size f) i

  -- *What a file reads as is its size and the bytes below it*: its contents, as many bytes as the size
  unfoldable pub contents : ℕ → List ℕ
  contents f = tabulate (size f) (λ i. shown g.words b (file_walk f i) (i % span g.words 0))

  -- *The walk to a byte* as a call, which takes any board and any file number. *Block number 0 means null: a hole, all zeros*, here also where a board
  -- is so short or damaged that block 0 would be its trailer, its inode pointer block or a leaf. First the leaf of file f
  unfoldable pub linked_leaf : ℕ → ℕ
  linked_leaf f = link g.words b (link g.words b (block_count - 1) 0 / g.words) (f / g.inodes) / g.words

  -- then word j of its inode: 0 the root, 1 the size
  unfoldable pub linked_word : ℕ → ℕ → ℕ
  linked_word f j = link g.words b (linked_leaf f) (2 * (f % g.inodes) + j)

  -- and the walk; a file number past the last is a hole
  unfoldable pub walk_to : ℕ → ℕ → Option ℕ
  walk_to f i = cond (ltb f (files g)) (root_walk g.words b (linked_word f 0) (linked_word f 1) i) None

  -- N6: how many blocks that walk visited
  unfoldable pub visits_to : ℕ → ℕ → ℕ
  visits_to f i = cond (ltb f (files g)) (root_visits g.words b (linked_word f 0) (linked_word f 1) i) 0

  -- the blocks of a file that are *reached by live pointers only*
  unfoldable pub file_blocks : ℕ → List ℕ
  file_blocks f = root_blocks g.words b (root f) (size f)

  -- those of them that hold data
  unfoldable pub file_data : ℕ → List ℕ
  file_data f = data_blocks g.words b (root_height f) (root_block f) (size f)

  -- *A block is live if it is the inode pointer block, an inode leaf, or reached by live pointers only*; as often as it is reached
  unfoldable pub live_blocks : List ℕ
  live_blocks = inode_block ∷ (tabulate g.leaves leaf ++ joined (files g) file_blocks)

  -- *A free block is any of 1 to B − 2 that isn't live*; rising
  unfoldable pub free : List ℕ
  free = pick_from 1 (block_count - 2) (λ k. not (member k live_blocks))

  -- *a block in 1 to B − 2*
  unfoldable pub in_range : ℕ → Bool
  in_range k = ltb 0 k && ltb k (block_count - 1)

  -- *128 to 8,192 words, a multiple of 8*: 16 blocks to the most
  unfoldable pub word_count_sound : Bool
  word_count_sound = leb (16 * g.words) (length b) && leb (length b) (g.most * g.words) && eqb (length b % g.words) 0

  -- *the trailer is as above*; word 0 has a block in range and low bits 1
  unfoldable pub trailer_sound : Bool
  trailer_sound = eqb (trailer 0 % g.words) 1 && in_range inode_block
      && every (g.words - 1) (λ j. eqb (trailer (suc j)) (trailer_word g block_count (suc j)))

  -- an inode pointer is *none of them null*, in range, with low bits 0
  unfoldable pub leaf_sound : ℕ → Bool
  leaf_sound l = eqb (inode_pointer l % g.words) 0 && in_range (leaf l)

  -- N11: *the inode pointer block's other words are 0*. This one is the j-th of them; the house's block has none
  unfoldable pub spare_sound : ℕ → Bool
  spare_sound j = eqb (inode_pointer (g.leaves + j)) 0

  -- all words of the inode pointer block
  unfoldable pub inodes_sound : Bool
  inodes_sound = every g.leaves leaf_sound && every (g.words - g.leaves) spare_sound

  -- a file's *size is in range* and its live root and pointers are as they must be
  unfoldable pub file_sound : ℕ → Bool
  file_sound f = leb (size f) (greatest g) && root_sound g.words b g.height (block_count - 1) (root f) (size f)

  -- inode pointers, files, *and no block is reached twice*
  unfoldable pub trees_sound : Bool
  trees_sound = inodes_sound && every (files g) file_sound && distinct live_blocks

  -- *A board is accepted*
  unfoldable pub accepted : Bool
  accepted = word_count_sound && trailer_sound && trees_sound
