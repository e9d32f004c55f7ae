-- PlanRule, FreshRule, PowerCutRule and AccuracyRule of Claims for any order of taking blocks, document 01's among them; that the plans are safe
-- and leave walks in other files; and which blocks are live afterwards.
use Rattle.std.specs.Prelude.{◌≡◌, ◌≢◌, ◌↔◌, List, map, ℕ, ◌+◌, ◌-◌, ◌/◌, ◌<◌, length, T, Ok}
use Rattle.model.specs.Lists.{tabulate, all, member, occ}
use Rattle.model.specs.Layout.{Layout, Fits, files}
use Rattle.model.specs.Board.{walk_to, contents, live_blocks, free, in_range, accepted}
use Rattle.model.specs.Store.{Store, performed, stores, epochs}
use Rattle.model.specs.Calls.{Planned, lowest}
use Rattle.model.specs.Cut.{Change, file_of, called_from, plan_from, given_up, plan_of, after, Cut, Names, standing, last_arrived}
use Rattle.model.specs.Safe.{SafePlan}
use Rattle.model.specs.Claims.{Shaped, CutSafe, Altered}

-- fresh 0, fresh 1, .., as many as there are free blocks, are free blocks, and no two are the same
pub record Order (g : Layout) (b : List ℕ) (fresh : ℕ → ℕ) : Type 0 where
  pub among : (i : ℕ) → i < length (free g b) → T (member (fresh i) (free g b))
  pub apart : (i j : ℕ) → i < j → j < length (free g b) → fresh i ≢ fresh j

-- *lowest number first* is one
abbrev pub LowestRule : Type 0
LowestRule = (g : Layout) (b : List ℕ) → Order g b (lowest g b)

-- the blocks that a call takes
abbrev taken_blocks : (g : Layout) (fresh : ℕ → ℕ) (b : List ℕ) → Change → List ℕ
taken_blocks g fresh b c = tabulate (plan_from g fresh b c).taken fresh

module _ (g : Layout) (fresh : ℕ → ℕ) (b : List ℕ) (c : Change) (slice : List ℕ) where
  abbrev call : Planned
  call = called_from g fresh b c slice

  abbrev ss : List Store
  ss = plan_of call

  -- what its file reads as after it
  abbrev wanted : List ℕ
  wanted = after c call.answer (contents g b (file_of c))

  -- What is promised of a call with blocks taken in the order `fresh`: PlanRule, FreshRule, PowerCutRule and AccuracyRule of Claims
  pub record Promised : Type 0 where
    pub shaped : Shaped ss × T (all (λ s. in_range g b (s.at / g.words)) (stores ss))
    pub takes : 0 < length ss → (k : ℕ) → T (member k (free g b)) → T (member k (map (λ s. s.at / g.words) (stores ss))) ↔ T (member k (taken_blocks g fresh b c))
    -- it is a safe plan, in which the last epoch decides
    pub safe : SafePlan g b (file_of c) (epochs ss) (length (epochs ss) - 1)
    pub cuts : (x : Cut) → Names ss x → CutSafe g b (standing ss x b) (file_of c) wanted ss (last_arrived ss x)
    -- and that a walk to a byte of another file ends where it ended
    pub stays : (x : Cut) → Names ss x → (e : ℕ) → e < files g → e ≢ file_of c → (i : ℕ) → walk_to g (standing ss x b) e i ≡ walk_to g b e i
    pub alters : Altered g b (performed b (stores ss)) (file_of c) wanted
    -- and, where it is done, that the live blocks after it and those given up are the live blocks before it and those taken, each as often as it occurs:
    -- the live blocks are then those before, less those given up, and those taken and kept
    pub lives : (n : ℕ) → call.answer ≡ Ok n
        → (q : ℕ) → occ q (live_blocks g (performed b (stores ss))) + occ q (given_up g fresh b c) ≡ occ q (live_blocks g b) + occ q (taken_blocks g fresh b c)

-- for every accepted board, every order, both calls and all arguments
abbrev pub OrderRule : Type 0
OrderRule = (g : Layout) → Fits g → (b : List ℕ) → T (accepted g b) → (fresh : ℕ → ℕ) → Order g b fresh → (c : Change) (slice : List ℕ) → Promised g fresh b c slice
