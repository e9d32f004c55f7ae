-- What functions leave in a plan.
use Rattle.model.specs.Answers.{Answer}
use Rattle.std.specs.Prelude.{◌≡◌, List, [], ◌∷◌, ℕ, zero, suc, ◌+◌, ◌*◌, length, get_or}
use Rattle.model.specs.Lists.{tabulate}
use Rattle.model.specs.Store.{Store, store, barrier, laid}
use Rattle.model.specs.Plan.{Plan, pairs}
use Rattle.model.specs.Calls.{Planned}
use Rattle.plans.specs.declared.Count.{Count}

-- a page's stores to block k of W words, in word order
unfoldable pub block_stores : ℕ → ℕ → List ℕ → List Store
block_stores W k page = tabulate W (λ j. store (W * k + j) (get_or page j 0))

-- what ends a step after m hidden stores: a barrier, if there are any, and the commit
unfoldable pub closing : ℕ → Store → List Store
closing zero s = s ∷ []
closing (suc m) s = barrier ∷ s ∷ []

-- stores laid from place p on, and the place after them
pub record Laid (plan : List ℕ) (p : ℕ) (ss : List Store) (plan' : List ℕ) (p' : ℕ) : Type 0 where
  pub is : plan' ≡ laid plan p ss
  pub next : p' ≡ p + length ss

-- a plan laid from place p on; how many pairs stand before its end, and how many fresh blocks are taken then
pub record PlanLaid (plan : List ℕ) (p : ℕ) (q : Plan) (plan' : List ℕ) (r : Count) : Type 0 where
  pub is : plan' ≡ laid plan p (pairs q)
  pub count : r.pairs ≡ p + length (pairs q)
  pub taken : r.taken ≡ q.taken

-- What a call that plans answers, and leaves in the plan slice: p is the definition's
pub record PlanResult (p : Planned) (r : Answer) (slice' : List ℕ) : Type 0 where
  pub answer : r ≡ p.answer
  pub plan : slice' ≡ p.slice
