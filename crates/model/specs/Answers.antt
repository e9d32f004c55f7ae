-- What a call answers. Document 01, 'What each call turns away', and its last sentence on C.
use Rattle.std.specs.Prelude.{Bool, cond, List, [], ◌∷◌, ℕ, ℤ, pos, neg_ℤ, Option, Some, None, Result, Ok, Err}
use Rattle.model.specs.declared.Fault.{Fault}
use Rattle.model.specs.declared.Fault.TheVariants.{WordCount, Trailer, Damaged, FileNumber, End, FreeBlocks, PlanLength, PairCount, Address}

-- the number of each refusal; *5 never occurs*
unfoldable pub number : Fault → ℕ
number WordCount = 1
number Trailer = 2
number Damaged = 3
number FileNumber = 4
number End = 6
number FreeBlocks = 7
number PlanLength = 8
number PairCount = 9
number Address = 10

-- what a call answers: a number, or the fault by which it is refused
abbrev pub Answer : Type 0
Answer = Result ℕ Fault

-- *C gets each answer as a signed number, a refusal r as −r*
unfoldable pub signed : Answer → ℤ
signed (Ok n) = pos n
signed (Err f) = neg_ℤ (pos (number f))

-- where *the walk to a byte* ended, as C gets it: the number of the block, and 0, which is no data block, for a hole
unfoldable pub ended : Option ℕ → ℤ
ended (Some k) = pos k
ended None = pos 0

-- a call's list of refusals, in the document's order: each fault with the test that finds it
abbrev pub Faults : Type 0
Faults = List (Fault × Bool)

-- the first fault that is found, or n where none is
unfoldable pub answered : Faults → ℕ → Answer
answered [] n = Ok n
answered (t ∷ ts) n = cond t.1 (Err t.0) (answered ts n)

-- a where the call was done, z where it was refused
unfoldable pub unless_refused : {A : Type 0} → Answer → A → A → A
unless_refused (Ok n) a z = a
unless_refused (Err f) a z = z

-- how many pairs an answer counts: none where it is a refusal
unfoldable pub counted : Answer → ℕ
counted (Ok n) = n
counted (Err f) = 0
