-- Each call: its refusals in order, its answer, and what it leaves in the slices lent to it. Document 01, 'What each call turns away',
-- write's as N3 of document 02 has it, and N6's count of visited blocks. A refusal answers its number and changes nothing.
use Rattle.std.specs.Prelude.{not, ◌||◌, List, [], ◌∷◌, ◌++◌, ℕ, zero, suc, ◌+◌, ◌-◌, ◌*◌, ◌/◌, min, length, get_or, take, drop, leb, ltb}
use Rattle.model.specs.declared.Fault.TheVariants.{WordCount, Trailer, Damaged, FileNumber, End, FreeBlocks, PlanLength, PairCount, Address}
use Rattle.model.specs.Lists.{sum, all}
use Rattle.model.specs.Layout.{Layout, files}
use Rattle.model.specs.Tree.{span}
use Rattle.model.specs.Board.{root_visits, greatest, root, size, contents, free, word_count_sound, trailer_sound, trees_sound}
use Rattle.model.specs.Answers.{Faults, answered, unless_refused, Answer}
use Rattle.model.specs.Store.{Store, is_barrier, stores, performed, paired, laid}
use Rattle.model.specs.Plan.{Plan, pairs}
use Rattle.model.specs.Change.{write_plan, length_plan}
use Rattle.model.specs.Format.{format_plan}

-- N6: how many stretches of m bytes, each *from a multiple of* m, have one of l bytes from o on
unfoldable pub stretch_count : ℕ → ℕ → ℕ → ℕ
stretch_count m o zero = 0
stretch_count m o (suc l) = suc ((o + l) / m - o / m)

-- N6: *Read and write add these up, once for each 64-byte stretch from a multiple of 64 with a byte read or written*, those being l bytes from o on of the
-- file with a root word and a size: a walk to the first byte of each stretch
unfoldable pub root_visited : ℕ → List ℕ → ℕ → ℕ → ℕ → ℕ → ℕ
root_visited W b r n o l = let m : ℕ = span W 0 in sum (stretch_count m o l) (λ q. root_visits W b r n ((o / m + q) * m))

module _ (g : Layout) (b : List ℕ) where
  -- *1: word count.*
  unfoldable pub word_count_fault : Faults
  word_count_fault = (WordCount, not (word_count_sound g b)) ∷ []

  -- *2: any of the trailer's eight words. 3: any other reason not to be accepted.*
  unfoldable pub board_faults : Faults
  board_faults = word_count_fault ++ ((Trailer, not (trailer_sound g b)) ∷ (Damaged, not (trees_sound g b)) ∷ [])

  -- *4: file number above 31*
  unfoldable pub file_faults : ℕ → Faults
  file_faults f = board_faults ++ ((FileNumber, leb (files g) f) ∷ [])

  -- *Check*: *with nothing else to answer, answers 0*
  unfoldable pub check_answer : Answer
  check_answer = answered board_faults 0

  -- *Free count answers the number of free blocks.*
  unfoldable pub free_count_answer : Answer
  free_count_answer = answered board_faults (length (free g b))

  -- *Size.*
  unfoldable pub size_answer : ℕ → Answer
  size_answer f = answered (file_faults f) (size g b f)

  -- *Read.* *The count is the smaller of the buffer's length and the bytes from the offset to the size; at or past the size it is 0*
  unfoldable pub read_count : ℕ → ℕ → List ℕ → ℕ
  read_count f o out = min (length out) (size g b f - o)

  -- it *answers the count*
  unfoldable pub read_answer : ℕ → ℕ → List ℕ → Answer
  read_answer f o out = answered (file_faults f) (read_count f o out)

  -- the buffer at exit. *Buffer bytes after the count keep their values*
  unfoldable pub read_buffer : ℕ → ℕ → List ℕ → List ℕ
  read_buffer f o out = unless_refused (read_answer f o out) (take (read_count f o out) (drop o (contents g b f)) ++ drop (read_count f o out) out) out

  -- N6: of file f
  unfoldable pub visited : ℕ → ℕ → ℕ → ℕ
  visited f o l = root_visited g.words b (root g b f) (size g b f) o l

  -- of a read: the bytes that it counts. *Refused: as before, with count 0*
  unfoldable pub read_visited : ℕ → ℕ → List ℕ → ℕ
  read_visited f o out = unless_refused (read_answer f o out) (visited f o (read_count f o out)) 0

-- what a call that plans answers, and the plan slice at exit
pub record Planned : Type 0 where
  pub answer : Answer
  pub slice : List ℕ

-- *8: plan slice shorter than twice its pairs. Changing calls answer the pair count; words of the plan slice past the plan stay*
unfoldable pub planned : Faults → List Store → List ℕ → Planned
planned faults ss slice =
    let a : Answer = answered (faults ++ ((PlanLength, ltb (length slice) (2 * length ss)) ∷ [])) (length ss) in
    record { answer = a; slice = unless_refused a (laid slice 0 ss) slice }

module _ (g : Layout) (b : List ℕ) where
  -- *Write.* *6: e above 32,768. 7: fewer free blocks than the plan's fresh ones, growth included.* *5 never occurs*
  unfoldable pub write_faults : ℕ → ℕ → List ℕ → Plan → Faults
  write_faults f o new p = file_faults g b f
      ++ ((End, ltb (greatest g) (o + length new)) ∷ (FreeBlocks, ltb (length (free g b)) p.taken) ∷ [])

  -- with blocks taken in the order `fresh`; the plan goes to the lent slice
  unfoldable pub write_from : (ℕ → ℕ) → ℕ → ℕ → List ℕ → List ℕ → Planned
  write_from fresh f o new slice = let p : Plan = write_plan g fresh b f o new in planned (write_faults f o new p) (pairs p) slice

  -- *Fresh blocks are taken lowest number first*
  unfoldable pub lowest : ℕ → ℕ
  lowest i = get_or (free g b) i 0

  unfoldable pub write : ℕ → ℕ → List ℕ → List ℕ → Planned
  write f o new slice = write_from lowest f o new slice

  -- N6: of a write, *over the tree as it was before the call*
  unfoldable pub write_visited : ℕ → ℕ → List ℕ → List ℕ → ℕ
  write_visited f o new slice = unless_refused (write f o new slice).answer (visited g b f o (length new)) 0

  -- *Length change.* *6: n above 32,768*
  unfoldable pub set_length : ℕ → ℕ → List ℕ → Planned
  set_length f n slice = planned (file_faults g b f ++ ((End, ltb (greatest g) n) ∷ [])) (pairs (length_plan g b f n)) slice

  -- *Format.*
  unfoldable pub format : List ℕ → Planned
  format slice = planned (word_count_fault g b) (pairs (format_plan g b)) slice

  -- *Perform the first k pairs of a plan on a lent board.* *9: 2 × k exceeds the plan's words. 10: one of those addresses is neither on the
  -- board nor a barrier's.*
  unfoldable pub perform_faults : List ℕ → ℕ → Faults
  perform_faults slice k = word_count_fault g b
      ++ ((PairCount, ltb (length slice) (2 * k)) ∷ (Address, not (all (λ s. ltb s.at (length b) || is_barrier s) (take k (paired slice)))) ∷ [])

  -- *It answers k*
  unfoldable pub perform_answer : List ℕ → ℕ → Answer
  perform_answer slice k = answered (perform_faults slice k) k

  -- the board at exit
  unfoldable pub perform_board : List ℕ → ℕ → List ℕ
  perform_board slice k = unless_refused (perform_answer slice k) (performed b (stores (take k (paired slice)))) b
