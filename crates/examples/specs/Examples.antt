-- The marked set of document 01's bench examples as one table, and writes past the end (N3 of document 02) as another. proofs/Marked.antt proves that
-- every row holds.
use Rattle.std.specs.Prelude.{Bool, true, false, ◌&&◌, List, [], ◌∷◌, ◌++◌, ℕ, suc, ◌*◌, length, drop, replicate, eqb, Ok, Err}
use Rattle.model.specs.declared.Fault.TheVariants.{End, FreeBlocks, PlanLength}
use Rattle.model.specs.Lists.{all}
use Rattle.model.specs.Layout.{house}
use Rattle.model.specs.Board.{contents}
use Rattle.model.specs.Answers.{number, counted, Answer}
use Rattle.model.specs.Change.{write_plan}
use Rattle.model.specs.Calls.{free_count_answer, Planned, lowest, write, set_length, format, perform_board}

-- ---- Calls, and what is seen of one

-- a call on file 0
pub data Call : Type 0 where
  formats counts_free : Call
  writes : ℕ → List ℕ → Call
  sets_length : ℕ → Call

-- what the document gives of a call
pub data Seen : Type 0 where
  -- the answer
  answers : Answer → Seen
  -- the plan's words; the words past it stay
  plans : List ℕ → Seen
  -- how many fresh blocks the plan takes
  takes : ℕ → Seen
  -- once the plan is performed: the free count, and what the file reads as
  leaves_free : ℕ → Seen
  reads : List ℕ → Seen

-- a row: a formatted board of so many blocks, the calls performed on it first, the call with so many words for its plan, and what is seen
pub record Row : Type 0 where
  pub blocks_of : ℕ
  pub first : List Call
  pub call : Call
  pub room : ℕ
  pub seen_then : List Seen

-- ---- What a row says

-- what the call answers, and the plan slice at exit
unfoldable pub planned_of : List ℕ → Call → List ℕ → Planned
planned_of b formats slice = format house b slice
planned_of b counts_free slice = record { answer = free_count_answer house b; slice = slice }
planned_of b (writes o new) slice = write house b 0 o new slice
planned_of b (sets_length n) slice = set_length house b 0 n slice

-- the fresh blocks of its plan
unfoldable pub taken_by : List ℕ → Call → ℕ
taken_by b formats = 0
taken_by b counts_free = 0
taken_by b (writes o new) = (write_plan house (lowest house b) b 0 o new).taken
taken_by b (sets_length n) = 0

-- a slice to lend, with words of its own
unfoldable pub lent_slice : ℕ → List ℕ
lent_slice room = replicate room 7

-- the board with the whole plan performed
unfoldable pub ran : List ℕ → Planned → List ℕ
ran b p = perform_board house b p.slice (counted p.answer)

-- the board with several calls made and performed, one after the other
unfoldable pub ran_all : List Call → List ℕ → List ℕ
ran_all [] b = b
ran_all (c ∷ cs) b = ran_all cs (ran b (planned_of b c (lent_slice 200)))

-- the formatted board of a row, every word 7 before, with the row's first calls performed
unfoldable pub board_of : Row → List ℕ
board_of r = ran_all (formats ∷ r.first) (replicate (8 * r.blocks_of) 7)

-- tests of equality
unfoldable pub same_list : List ℕ → List ℕ → Bool
same_list [] [] = true
same_list [] (y ∷ ys) = false
same_list (x ∷ xs) [] = false
same_list (x ∷ xs) (y ∷ ys) = eqb x y && same_list xs ys

unfoldable pub same_answer : Answer → Answer → Bool
same_answer (Ok m) (Ok n) = eqb m n
same_answer (Ok m) (Err f) = false
same_answer (Err e) (Ok n) = false
same_answer (Err e) (Err f) = eqb (number e) (number f)

-- what is to be seen is seen, of what the call answers and leaves in the slice, the board once it is performed, and the blocks it takes
unfoldable pub saw : Planned → List ℕ → ℕ → List ℕ → Seen → Bool
saw p b taken lent (answers a) = same_answer p.answer a
saw p b taken lent (plans ws) = same_list p.slice (ws ++ drop (length ws) lent)
saw p b taken lent (takes n) = eqb taken n
saw p b taken lent (leaves_free n) = same_answer (free_count_answer house b) (Ok n)
saw p b taken lent (reads bytes) = same_list (contents house b 0) bytes

-- every thing that a row says
unfoldable pub holds : Row → Bool
holds r =
    let b : List ℕ = board_of r in
    let p : Planned = planned_of b r.call (lent_slice r.room) in
    all (saw p (ran b p) (taken_by b r.call) (lent_slice r.room)) r.seen_then

-- ---- The table

-- a row on 16 blocks
unfoldable pub row : List Call → Call → ℕ → List Seen → Row
row cs c room seens = record { blocks_of = 16; first = cs; call = c; room = room; seen_then = seens }

-- a barrier's two words
unfoldable pub fence : List ℕ
fence = 18446744073709551615 ∷ 0 ∷ []

-- the pairs that store ws from address a on
unfoldable pub filled : ℕ → List ℕ → List ℕ
filled a [] = []
filled a (w ∷ ws) = a ∷ w ∷ filled (suc a) ws

-- E2's call, and the longer plans
unfoldable pub E2 : Call
E2 = writes 0 (65 ∷ 66 ∷ [])

unfoldable pub E2-plan : List ℕ
E2-plan = filled 80 (16961 ∷ replicate 7 0) ++ (16 ∷ 80 ∷ []) ++ fence ++ (17 ∷ 2 ∷ [])

unfoldable pub E4-plan : List ℕ
E4-plan = filled 88 (4473665 ∷ replicate 7 0) ++ filled 96 (88 ∷ 3 ∷ replicate 6 0) ++ fence ++ (8 ∷ 96 ∷ [])

unfoldable pub E8-plan : List ℕ
E8-plan = filled 88 (80 ∷ replicate 7 0) ++ fence ++ (16 ∷ 89 ∷ []) ++ fence
    ++ filled 96 (replicate 4 0 ++ (117440512 ∷ replicate 3 0)) ++ fence ++ (89 ∷ 96 ∷ [])

-- E1: *Free count 5. (On 1,024 blocks: 1,013.)*
unfoldable pub E1-rows : List Row
E1-rows = row [] counts_free 0 (answers (Ok 5) ∷ [])
    ∷ record { blocks_of = 1024; first = []; call = counts_free; room = 0; seen_then = answers (Ok 1013) ∷ [] }
    ∷ []

-- E2: *11 pairs; 22 plan words suffice, 21 give 8. Free 4.*
unfoldable pub E2-rows : List Row
E2-rows = row [] E2 22 (answers (Ok 11) ∷ plans E2-plan ∷ leaves_free 4 ∷ reads (65 ∷ 66 ∷ []) ∷ [])
    ∷ row [] E2 21 (answers (Err PlanLength) ∷ plans [] ∷ [])
    ∷ []

-- E3: *word 80 = 16986, one pair.*
unfoldable pub E3-row : Row
E3-row = row (E2 ∷ []) (writes 0 (90 ∷ [])) 4 (answers (Ok 1) ∷ plans (80 ∷ 16986 ∷ []) ∷ reads (90 ∷ 66 ∷ []) ∷ [])

-- E4: *18 pairs. Free 4 afterwards.*
unfoldable pub E4-row : Row
E4-row = row (E2 ∷ []) (writes 1 (67 ∷ 68 ∷ [])) 40 (answers (Ok 18) ∷ plans E4-plan ∷ leaves_free 4 ∷ reads (65 ∷ 67 ∷ 68 ∷ []) ∷ [])

-- E5: *word 17 = 0. Free 5.*
unfoldable pub E5-row : Row
E5-row = row (E2 ∷ []) (sets_length 0) 4 (answers (Ok 1) ∷ plans (17 ∷ 0 ∷ []) ∷ leaves_free 5 ∷ reads [] ∷ [])

-- E6: *The byte reads 0, not 65.*
unfoldable pub E6-row : Row
E6-row = row (E2 ∷ sets_length 0 ∷ []) (sets_length 1) 8 (answers (Ok 3) ∷ plans ((16 ∷ 0 ∷ []) ++ fence ++ (17 ∷ 1 ∷ [])) ∷ reads (0 ∷ []) ∷ [])

-- E7: *word 80 = 16961, 81 = 0; barrier; 17 = 10.*
unfoldable pub E7-row : Row
E7-row = row (E2 ∷ []) (sets_length 10) 8
    (answers (Ok 4) ∷ plans ((80 ∷ 16961 ∷ 81 ∷ 0 ∷ []) ++ fence ++ (17 ∷ 10 ∷ [])) ∷ reads (65 ∷ 66 ∷ replicate 8 0) ∷ [])

-- E8: *21 pairs.*
unfoldable pub E8-row : Row
E8-row = row (E2 ∷ sets_length 100 ∷ []) (writes 99 (7 ∷ [])) 50
    (answers (Ok 21) ∷ plans E8-plan ∷ reads ((65 ∷ 66 ∷ replicate 97 0) ++ (7 ∷ [])) ∷ [])

-- E9: *256 bytes need 5 blocks and are accepted; 257 need 6: refused 7.*
unfoldable pub E9-rows : List Row
E9-rows = row [] (writes 0 (replicate 256 1)) 100 (takes 5 ∷ answers (Ok 43) ∷ leaves_free 0 ∷ reads (replicate 256 1) ∷ [])
    ∷ row [] (writes 0 (replicate 257 1)) 100 (takes 6 ∷ answers (Err FreeBlocks) ∷ plans [] ∷ leaves_free 5 ∷ reads [] ∷ [])
    ∷ []

-- the marked set
unfoldable pub table : List Row
table = E1-rows ++ E2-rows ++ (E3-row ∷ E4-row ∷ E5-row ∷ E6-row ∷ E7-row ∷ E8-row ∷ []) ++ E9-rows

-- ---- Writing past the end

-- E10's second part, w the first word of the copy: *the data block there is always copied, with zeros from s on*
unfoldable pub past_plan : ℕ → List ℕ
past_plan w = filled 88 (w ∷ replicate 7 0) ++ filled 96 (88 ∷ 4 ∷ replicate 6 0) ++ fence ++ (8 ∷ 96 ∷ [])

-- it; the same over an old byte past the size, 66; then *with L = 0 the plan is still empty*, up to the last offset; *with size 0 the tail way*, an old
-- root in the inode; a size at a block's edge, after growth; holes on the path to byte s − 1, after growth by two levels and by one
unfoldable pub past_end : List Row
past_end = row (E2 ∷ []) (writes 3 (67 ∷ [])) 40 (answers (Ok 18) ∷ plans (past_plan 1124090433) ∷ leaves_free 4 ∷ reads (65 ∷ 66 ∷ 0 ∷ 67 ∷ []) ∷ [])
    ∷ row (E2 ∷ sets_length 1 ∷ []) (writes 3 (67 ∷ [])) 40 (answers (Ok 18) ∷ plans (past_plan 1124073537) ∷ leaves_free 4 ∷ reads (65 ∷ 0 ∷ 0 ∷ 67 ∷ []) ∷ [])
    ∷ row (E2 ∷ []) (writes 3 []) 0 (answers (Ok 0) ∷ reads (65 ∷ 66 ∷ []) ∷ [])
    ∷ row (E2 ∷ []) (writes 32768 []) 0 (answers (Ok 0) ∷ reads (65 ∷ 66 ∷ []) ∷ [])
    ∷ row (E2 ∷ []) (writes 32769 []) 0 (answers (Err End) ∷ reads (65 ∷ 66 ∷ []) ∷ [])
    ∷ row (E2 ∷ sets_length 0 ∷ []) (writes 100 (7 ∷ [])) 40 (takes 2 ∷ answers (Ok 19) ∷ reads (replicate 100 0 ++ (7 ∷ [])) ∷ [])
    ∷ record { blocks_of = 24; first = writes 0 (replicate 64 1) ∷ []; call = writes 65 (7 ∷ []); room = 90; seen_then = takes 5 ∷ answers (Ok 45) ∷ reads (replicate 64 1 ++ (0 ∷ 7 ∷ [])) ∷ [] }
    ∷ record { blocks_of = 24; first = E2 ∷ sets_length 100 ∷ []; call = writes 600 (7 ∷ []); room = 130; seen_then = takes 7 ∷ answers (Ok 61) ∷ leaves_free 8 ∷ [] }
    ∷ row (E2 ∷ sets_length 100 ∷ []) (writes 130 (7 ∷ [])) 80 (takes 4 ∷ answers (Ok 37) ∷ leaves_free 2 ∷ reads ((65 ∷ 66 ∷ replicate 128 0) ++ (7 ∷ [])) ∷ [])
    ∷ []
