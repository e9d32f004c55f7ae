-- A power cut: the calls that the rule speaks of, the blocks that they give up, what a file is to read as, and what stands. Document 01, 'The power-cut rule', with
-- N3 of document 02. *The cabinet sets a barrier of its own after each plan's last store*, so one plan is looked at by itself.
use Rattle.std.specs.Prelude.{Bool, ◌&&◌, List, [], ◌∷◌, ◌++◌, ℕ, suc, ◌+◌, ◌-◌, ◌<◌, max, length, get_or, take, drop, replicate, eqb}
use Rattle.model.specs.Lists.{cons_if, concat}
use Rattle.model.specs.Words.{Bytes}
use Rattle.model.specs.Layout.{Layout}
use Rattle.model.specs.Store.{Store, performed, paired, epochs}
use Rattle.model.specs.Plan.{Plan}
use Rattle.model.specs.Change.{write_plan, length_plan}
use Rattle.model.specs.GivenUp.{length_gives, write_gives}
use Rattle.model.specs.Answers.{unless_refused, counted, Answer}
use Rattle.model.specs.Calls.{Planned, lowest, write_from, set_length}

-- *both calls, all arguments*: bytes written to a file at an offset; a file's length set
pub data Change : Type 0 where
  writing : ℕ → ℕ → Bytes → Change
  length_to : ℕ → ℕ → Change

-- the file that is changed
unfoldable pub file_of : Change → ℕ
file_of (writing f o new) = f
file_of (length_to f n) = f

-- what the call answers and leaves in the plan slice, with blocks taken in the order `fresh`; `called` is the call as it is, with the lowest first
unfoldable pub called_from : (g : Layout) (fresh : ℕ → ℕ) (b : List ℕ) → Change → List ℕ → Planned
called_from g fresh b (writing f o new) slice = write_from g b fresh f o new.values slice
called_from g fresh b (length_to f n) slice = set_length g b f n slice

unfoldable pub called : Layout → List ℕ → Change → List ℕ → Planned
called g b c slice = called_from g (lowest g b) b c slice

-- the plan that the call lays out where it is not refused
unfoldable pub plan_from : (g : Layout) (fresh : ℕ → ℕ) (b : List ℕ) → Change → Plan
plan_from g fresh b (writing f o new) = write_plan g fresh b f o new.values
plan_from g fresh b (length_to f n) = length_plan g b f n

unfoldable pub plan_for : Layout → List ℕ → Change → Plan
plan_for g b c = plan_from g (lowest g b) b c

-- the blocks that it gives up then
unfoldable pub given_up : (g : Layout) (fresh : ℕ → ℕ) (b : List ℕ) → Change → List ℕ
given_up g fresh b (writing f o new) = write_gives g fresh b f o new.values
given_up g fresh b (length_to f n) = length_gives g b f n

-- *The plan is as many pairs as the answer counts.*
unfoldable pub plan_of : Planned → List Store
plan_of p = take (counted p.answer) (paired p.slice)

-- the bytes with `new` at o: *the caller's at o to e − 1 and the old ones elsewhere*, *bytes between read 0*. *L = 0 leaves all as before*
unfoldable pub overwritten : ℕ → List ℕ → List ℕ → List ℕ
overwritten o [] before = before
overwritten o (x ∷ new) before = take o before ++ replicate (o - length before) 0 ++ (x ∷ new) ++ drop (o + suc (length new)) before

-- the bytes as a plain array of bytes would be altered; a length change to n leaves *the old ones below s and 0 from s on*
unfoldable pub altered : Change → List ℕ → List ℕ
altered (writing f o new) before = overwritten o new.values before
altered (length_to f n) before = take n before ++ replicate (n - length before) 0

-- *After comes from before, the call's arguments and whether it is refused, never from the plan's stores. A refusal leaves all as before*
unfoldable pub after : Change → Answer → List ℕ → List ℕ
after c a before = unless_refused a (altered c before) before

-- *A cut names one epoch of it and any set of that epoch's stores, none and all included*: each store by its place
pub record Cut : Type 0 where
  pub epoch : ℕ
  pub arrived : ℕ → Bool

-- the stores whose place is in the set
unfoldable pub chosen : (ℕ → Bool) → List Store → List Store
chosen p [] = []
chosen p (s ∷ ss) = cons_if (p 0) s (chosen (λ i. p (suc i)) ss)

module _ (ss : List Store) (x : Cut) where
  -- the cut names an epoch. *Without pairs* there is one cut, at epoch 0, with no store to arrive
  abbrev pub Names : Type 0
  Names = x.epoch < max 1 (length (epochs ss))

  -- *What stands then is the lent board with all stores of earlier epochs performed, then the set's*
  unfoldable pub standing : List ℕ → List ℕ
  standing b = performed (performed b (concat (take x.epoch (epochs ss)))) (chosen x.arrived (get_or (epochs ss) x.epoch []))

  -- the last planned store arrived: the cut is in the last epoch, and that epoch's last store is in the set
  unfoldable pub last_arrived : Bool
  last_arrived = eqb (suc x.epoch) (length (epochs ss)) && x.arrived (length (get_or (epochs ss) x.epoch []) - 1)
