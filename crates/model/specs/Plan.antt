-- Plans. Every way of planning is one or two steps: an epoch of hidden stores, if there are any, then one store, the commit, in an epoch
-- of its own.
use Rattle.std.specs.Prelude.{List, [], ◌∷◌, ◌++◌, ℕ}
use Rattle.model.specs.Store.{Store, store, fenced}

-- an epoch of hidden stores and its commit
pub record Step : Type 0 where
  pub hidden : List Store
  pub commit : Store

-- a step whose commit stores v at a
unfoldable pub step : List Store → ℕ → ℕ → Step
step ss a v = record { hidden = ss; commit = store a v }

-- its epochs
unfoldable pub step_epochs : List Store → Store → List (List Store)
step_epochs [] c = (c ∷ []) ∷ []
step_epochs (s ∷ ss) c = (s ∷ ss) ∷ (c ∷ []) ∷ []

-- those of several steps
unfoldable pub plan_epochs : List Step → List (List Store)
plan_epochs [] = []
plan_epochs (p ∷ ps) = step_epochs p.hidden p.commit ++ plan_epochs ps

-- a plan's steps, and how many fresh blocks it takes
pub record Plan : Type 0 where
  pub steps : List Step
  pub taken : ℕ

-- the plan of these steps
unfoldable pub plan : List Step → ℕ → Plan
plan ps c = record { steps = ps; taken = c }

-- its *pairs*
unfoldable pub pairs : Plan → List Store
pairs p = fenced (plan_epochs p.steps)

-- a second plan after a first, whose fresh blocks it counts too
unfoldable pub afterwards : Plan → Plan → Plan
afterwards p q = plan (p.steps ++ q.steps) q.taken
