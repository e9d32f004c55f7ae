-- What perform answers and leaves: the definition's, on all inputs.
use Rattle.model.specs.Answers.{Answer}
use Rattle.std.specs.Prelude.{◌≡◌, List, ℕ}
use Rattle.model.specs.Layout.{Layout}
use Rattle.model.specs.Calls.{perform_answer, perform_board}

pub record PerformResult (g : Layout) (b slice : List ℕ) (k : ℕ) (r : Answer) (b' : List ℕ) : Type 0 where
  pub answer : r ≡ perform_answer g b slice k
  pub board : b' ≡ perform_board g b slice k
