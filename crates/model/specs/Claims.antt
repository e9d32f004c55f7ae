-- What document 01, and N1, N3 and N11 of document 02, promise of these definitions, as statements. All are proved; README says where.
use Rattle.std.specs.Prelude.{◌≡◌, ◌≢◌, ◌⊎◌, ◌↔◌, Bool, false, ◌&&◌, List, [], ◌∷◌, map, ℕ, zero, suc, ◌+◌, ◌-◌, ◌*◌, ◌/◌, ◌%◌, ◌≤◌, ◌<◌, length, get_or, take, drop, T, leb, eqb, Ok, Err, Some, None}
use Rattle.model.specs.declared.Fault.TheVariants.{Trailer}
use Rattle.model.specs.Lists.{sum, all, filter, member, distinct}
use Rattle.model.specs.Words.{byte_of, Bytes}
use Rattle.model.specs.Layout.{Layout, Fits, house, files}
use Rattle.model.specs.Tree.{span, cell, link}
use Rattle.model.specs.Board.{block_count, trailer, root_height, root_block, size, file_walk, contents, walk_to, file_blocks, file_data, live_blocks, free, in_range, accepted, word_count_sound, inode_of}
use Rattle.model.specs.Store.{Store, store, is_barrier, performed, stores, epochs}
use Rattle.model.specs.Hidden.{hidden}
use Rattle.model.specs.Fresh.{part_length, data_page, pointer_page}
use Rattle.model.specs.InPlace.{at_block}
use Rattle.model.specs.Change.{growth}
use Rattle.model.specs.Calls.{check_answer, free_count_answer, size_answer, read_answer, read_buffer, Planned, lowest, format, perform_answer}
use Rattle.model.specs.Lister.{held_count}
use Rattle.model.specs.Cut.{Change, writing, file_of, called, plan_for, plan_of, after, Cut, chosen, Names, standing, last_arrived}
use Rattle.model.specs.Safe.{left, SafePlan, decided}

-- ---- Check

-- *Check* answers 0 exactly where the board is accepted
abbrev pub CheckRule : Type 0
CheckRule = (g : Layout) (b : List ℕ) → (check_answer g b ≡ Ok 0) ↔ T (accepted g b)

-- ---- The walk to a byte

-- the walk to each byte of file f
pub record Walked (g : Layout) (b : List ℕ) (f : ℕ) : Type 0 where
  -- it is the walk by which the file's contents are defined
  pub same : (i : ℕ) → walk_to g b f i ≡ file_walk g b f i
  -- it *ends at a block*, a live data block of the file, *or in a hole*
  pub ends : (i k : ℕ) → walk_to g b f i ≡ Some k → T (member k (file_data g b f))
  pub lives : (k : ℕ) → T (member k (file_data g b f)) → T (member k (file_blocks g b f))
  -- at each of these blocks, from a byte below the size, and at none from bytes that lie in different blocks of the file
  pub reaches : (k : ℕ) → T (member k (file_data g b f)) → (i : ℕ) × (i < size g b f) × (walk_to g b f i ≡ Some k)
  pub once : (i j k : ℕ) → walk_to g b f i ≡ Some k → walk_to g b f j ≡ Some k → i / span g.words 0 ≡ j / span g.words 0
  -- *under a pointer that isn't live* is a hole: where the byte's block of the file would begin at or past the size
  pub past : (i : ℕ) → size g b f ≤ i / span g.words 0 * span g.words 0 → walk_to g b f i ≡ None

-- in every file of an accepted board
abbrev pub WalkRule : Type 0
WalkRule = (g : Layout) → Fits g → (b : List ℕ) → T (accepted g b) → (f : ℕ) → f < files g → Walked g b f

-- on no board does a walk end at block 0, so that C can be told a hole by that number
abbrev pub NullRule : Type 0
NullRule = (g : Layout) (b : List ℕ) (f i : ℕ) → walk_to g b f i ≢ Some 0

-- ---- Plans

-- pair i is a barrier
unfoldable pub barrier_at : List Store → ℕ → Bool
barrier_at ss i = is_barrier (get_or ss i (store 0 0))

-- *none stands first or last*, nor two in a row; the value is 0; *within an epoch no address occurs twice*
pub record Shaped (ss : List Store) : Type 0 where
  pub first : barrier_at ss 0 ≡ false
  pub last : barrier_at ss (length ss - 1) ≡ false
  pub apart : (i : ℕ) → (barrier_at ss i && barrier_at ss (suc i)) ≡ false
  pub zeros : T (all (λ s. eqb s.value 0) (filter is_barrier ss))
  pub once : T (all (λ e. distinct (map (λ s. s.at) e)) (epochs ss))

-- every plan of a write or a length change on an accepted board is so, and stores to blocks 1 to B − 2 only
abbrev pub PlanRule : Type 0
PlanRule = (g : Layout) → Fits g → (b : List ℕ) → T (accepted g b) → (c : Change) (slice : List ℕ)
    → let ss : List Store = plan_of (called g b c slice) in
    Shaped ss × T (all (λ s. in_range g b (s.at / g.words)) (stores ss))

-- and every plan of format, which stores to the trailer too
abbrev pub FormatPlanRule : Type 0
FormatPlanRule = (g : Layout) → Fits g → (b : List ℕ) → T (word_count_sound g b) → (slice : List ℕ)
    → let ss : List Store = plan_of (format g b slice) in
    Shaped ss × T (all (λ s. leb g.words s.at) (stores ss))

-- ---- Fresh blocks

-- Of the free blocks a plan stores to those that are *taken lowest number first*, as many as 7 counts, and to no other
abbrev pub FreshRule : Type 0
FreshRule = (g : Layout) → Fits g → (b : List ℕ) → T (accepted g b) → (c : Change) (slice : List ℕ)
    → let ss : List Store = plan_of (called g b c slice) in
    0 < length ss → (k : ℕ) → T (member k (free g b)) → T (member k (map (λ s. s.at / g.words) (stores ss))) ↔ T (member k (take (plan_for g b c).taken (free g b)))

-- *A fresh file block holds what is visible*: bytes at or past the old size that are not written are 0, and *a pointer whose span starts at s or later
-- and has no written byte beneath it is null*. Said of the two kinds of page that a fresh tree is made of, in a tree of which n bytes lay below s
abbrev pub FreshBlockRule : Type 0
FreshBlockRule = (W : ℕ) (b : List ℕ) (k n o : ℕ) (new : Bytes)
    → let l : ℕ = length new.values in
    ((i : ℕ) → n ≤ i → (o ≤ i → o + l ≤ i) → byte_of (data_page W b k n o new.values (i / 8)) (i % 8) ≡ 0)
    × ((fresh : ℕ → ℕ) (h c j : ℕ) → n ≤ j * span W h → (o < j * span W h + span W h → o + l ≤ j * span W h) → pointer_page W fresh b h k n o l c j ≡ 0)

-- the live blocks, the free blocks, block 0 and the trailer make B
abbrev pub CensusRule : Type 0
CensusRule = (g : Layout) → Fits g → (b : List ℕ) → T (accepted g b) → length (live_blocks g b) + length (free g b) + 2 ≡ block_count g b

-- *all files' held counts, the free count*, the leaves, the inode pointer block, block 0 and the trailer *make B*; a file that the lister leaves out holds none
abbrev pub HeldRule : Type 0
HeldRule = (g : Layout) → Fits g → (b : List ℕ) → T (accepted g b)
    → (sum (files g) (held_count g b) + length (free g b) + g.leaves + 3 ≡ block_count g b) × ((f : ℕ) → size g b f ≡ 0 → held_count g b f ≡ 0)

-- with the house's figures: all files' held counts, the free count *and 11 make B*
abbrev pub HouseHeldRule : Type 0
HouseHeldRule = (b : List ℕ) → T (accepted house b) → sum 32 (held_count house b) + length (free house b) + 11 ≡ block_count house b

-- ---- Block 0: *what it holds decides no answer*; that *no plan stores to it* is in the rules above

-- every call answers the same on b and b', and leaves the same buffer and plan
pub record SameCalls (g : Layout) (b b' : List ℕ) : Type 0 where
  pub checks : check_answer g b ≡ check_answer g b'
  pub counts : free_count_answer g b ≡ free_count_answer g b'
  pub sizes : (f : ℕ) → size_answer g b f ≡ size_answer g b' f
  pub reads : (f o : ℕ) (out : List ℕ) → (read_answer g b f o out ≡ read_answer g b' f o out) × (read_buffer g b f o out ≡ read_buffer g b' f o out)
  pub walks : (f i : ℕ) → walk_to g b f i ≡ walk_to g b' f i
  pub changes : (c : Change) (slice : List ℕ) → called g b c slice ≡ called g b' c slice
  pub formats : (slice : List ℕ) → format g b slice ≡ format g b' slice
  pub performs : (slice : List ℕ) (k : ℕ) → perform_answer g b slice k ≡ perform_answer g b' slice k

-- boards that differ in block 0 alone, accepted or not
abbrev pub BootRule : Type 0
BootRule = (g : Layout) → Fits g → (b b' : List ℕ) → length b ≡ length b' → drop g.words b ≡ drop g.words b' → SameCalls g b b'

-- ---- Hidden stores

-- b' shows what b shows
pub record Shows (g : Layout) (b b' : List ℕ) : Type 0 where
  pub boards : accepted g b' ≡ accepted g b
  pub checks : check_answer g b' ≡ check_answer g b
  pub lives : live_blocks g b' ≡ live_blocks g b
  pub frees : free g b' ≡ free g b
  pub walks : (f : ℕ) → f < files g → (i : ℕ) → walk_to g b' f i ≡ walk_to g b f i
  pub reads : (f : ℕ) → f < files g → contents g b' f ≡ contents g b f

-- so does a board with any of some stores performed, each *hidden* on b, none and all included
abbrev pub HiddenRule : Type 0
HiddenRule = (g : Layout) → Fits g → (b : List ℕ) → T (accepted g b) → (ss : List Store) → T (all (hidden g b) ss) → (arrived : ℕ → Bool)
    → Shows g b (performed b (chosen arrived ss))

-- ---- The power-cut rule

-- b' stands where b was lent and file f is to read `wanted`. *Before is what a file reads as on the lent board*
pub record CutSafe (g : Layout) (b b' : List ℕ) (f : ℕ) (wanted : List ℕ) (ss : List Store) (arrived : Bool) : Type 0 where
  -- the board is still accepted
  pub board : T (accepted g b')
  -- the file reads wholly as before or wholly as after
  pub wholly : (contents g b' f ≡ contents g b f) ⊎ (contents g b' f ≡ wanted)
  -- each other file as before
  pub others : (e : ℕ) → e < files g → e ≢ f → contents g b' e ≡ contents g b e
  -- where before and after differ, there is a last planned store, and the file reads as after exactly when it arrived
  pub planned : contents g b f ≢ wanted → 0 < length ss
  pub decides : contents g b f ≢ wanted → (contents g b' f ≡ wanted) ↔ T arrived

-- a plan that is safe obeys the rule, with the store of epoch d in the place of the last one
abbrev pub SafeRule : Type 0
SafeRule = (g : Layout) → Fits g → (b : List ℕ) → T (accepted g b) → (f : ℕ) → f < files g → (ss : List Store) (d : ℕ) → SafePlan g b f (epochs ss) d → (x : Cut)
    → Names ss x → CutSafe g b (standing ss x b) f (contents g (left b (epochs ss) (length (epochs ss))) f) ss (decided d x)

-- *One claim covers every accepted board, both calls, all arguments, every way of planning and every cut*
abbrev pub PowerCutRule : Type 0
PowerCutRule = (g : Layout) → Fits g → (b : List ℕ) → T (accepted g b) → (c : Change) (slice : List ℕ) (x : Cut)
    → let p : Planned = called g b c slice in
    let ss : List Store = plan_of p in
    Names ss x → CutSafe g b (standing ss x b) (file_of c) (after c p.answer (contents g b (file_of c))) ss (last_arrived ss x)

-- ---- Accuracy: a plan performed whole alters its file as a plain array of bytes would be altered, and no other

-- on b' file f reads `wanted`, and the others as on b
pub record Altered (g : Layout) (b b' : List ℕ) (f : ℕ) (wanted : List ℕ) : Type 0 where
  pub board : T (accepted g b')
  pub file : contents g b' f ≡ wanted
  pub others : (e : ℕ) → e < files g → e ≢ f → contents g b' e ≡ contents g b e

-- for every accepted board, both calls and all arguments, refused ones too
abbrev pub AccuracyRule : Type 0
AccuracyRule = (g : Layout) → Fits g → (b : List ℕ) → T (accepted g b) → (c : Change) (slice : List ℕ)
    → let p : Planned = called g b c slice in
    Altered g b (performed b (stores (plan_of p))) (file_of c) (after c p.answer (contents g b (file_of c)))

-- ---- Writing past the end

module _ (W : ℕ) (b : List ℕ) where
  -- the blocks on the way to byte i of the tree (h, k), from the top, *as far as its blocks exist*
  unfoldable pub path : ℕ → ℕ → ℕ → List ℕ
  path zero zero i = []
  path zero (suc k) i = suc k ∷ []
  path (suc h) zero i = []
  path (suc h) (suc k) i = suc k ∷ path h (cell W b (suc k) (i / span W h) / W) (i % span W h)

  -- *a pointer* of the tree *whose span starts at s or later and has no written byte beneath it is null*, l bytes being written at o
  unfoldable pub NullPast : ℕ → ℕ → ℕ → ℕ → ℕ → Type 0
  NullPast zero k s o l = Unit
  NullPast (suc h) k s o l = (j : ℕ) → j < W
      → (s ≤ j * span W h → part_length (span W h) j o l ≡ 0 → link W b k j ≡ 0)
      × NullPast h (link W b k j / W) (s - j * span W h) (o - j * span W h) (part_length (span W h) j o l)

-- on b' file f has been written past its end on b, s bytes: l bytes at o, with the blocks `fresh` taken after growth
pub record PastEnd (g : Layout) (b b' : List ℕ) (f o l : ℕ) (fresh : List ℕ) : Type 0 where
  -- *the path to byte s − 1 is made fresh*
  pub copied : 0 < size g b f → T (all (λ k. member k fresh) (path g.words b' (root_height g b' f) (root_block g b' f) (size g b f - 1)))
  -- and if it led to a data block, it still does: *the data block there is always copied*
  pub arrives : T (at_block (walk_to g b f (size g b f - 1))) → T (at_block (walk_to g b' f (size g b f - 1)))
  -- *holes left null*
  pub holes : NullPast g.words b' (root_height g b' f) (root_block g b' f) (size g b f) o l

-- every write of some bytes past the end is so, performed whole
abbrev pub PastEndRule : Type 0
PastEndRule = (g : Layout) → Fits g → (b : List ℕ) → T (accepted g b) → (f o : ℕ) (new : Bytes) (slice : List ℕ)
    → let ss : List Store = plan_of (called g b (writing f o new) slice) in
    let grown : ℕ = (growth g (lowest g b) (inode_of g b f) (o + length new.values)).taken in
    0 < length ss → size g b f < o → PastEnd g b (performed b (stores ss)) f o (length new.values) (drop grown (take (plan_for g b (writing f o new)).taken (free g b)))

-- ---- Format

-- *32 empty files*
pub record Empty (g : Layout) (b : List ℕ) : Type 0 where
  pub board : T (accepted g b)
  pub files_empty : (f : ℕ) → f < files g → contents g b f ≡ []

-- *A cut inside it leaves the old board's word 0, or 0 (refused 2), or 32 empty files.*
abbrev pub FormatRule : Type 0
FormatRule = (g : Layout) → Fits g → (b : List ℕ) → T (word_count_sound g b) → (slice : List ℕ) (x : Cut)
    → let ss : List Store = plan_of (format g b slice) in
    let b' : List ℕ = standing ss x b in
    Names ss x → (b' ≡ b) ⊎ (((trailer g b' 0 ≡ 0) × (check_answer g b' ≡ Err Trailer)) ⊎ Empty g b')
