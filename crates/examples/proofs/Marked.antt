-- The marked set of document 01's bench examples holds, and so do the writes past the end: every row of the two tables, by computation.
use mathlib.Core.Path.{◌≡◌, refl}
use mathlib.Core.Bool.{true}
use Rattle.model.specs.Lists.{all}
use Rattle.examples.specs.Examples.{planned_of, taken_by, lent_slice, ran, ran_all, board_of, same_list, same_answer, saw, holds, row, fence, filled, E2, E2-plan, E4-plan, E8-plan, E1-rows, E2-rows, E3-row, E4-row, E5-row, E6-row, E7-row, E8-row, E9-rows, table, past_plan, past_end}
use Rattle.model.proofs.Computing.{computes}

pub marked : all holds table ≡ true
unfolding computes table E1-rows E2-rows E3-row E4-row E5-row E6-row E7-row E8-row E9-rows E2-plan E4-plan E8-plan E2 filled fence row holds saw same_answer same_list board_of ran_all ran lent_slice taken_by planned_of
marked = refl

pub past_end_law : all holds past_end ≡ true
unfolding computes past_end past_plan E2 filled fence row holds saw same_answer same_list board_of ran_all ran lent_slice taken_by planned_of
past_end_law = refl
