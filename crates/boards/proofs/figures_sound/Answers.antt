use mathlib.Core.Path.{◌≡◌, refl, ◌∙◌}
use mathlib.Core.Bool.{Bool, true, false, ◌&&◌}
use Prim.Native.Nat.{ℕ, suc}
use Rattle.std.proofs.Common.{rules, tests, eqb}
use Rattle.std.specs.List.{list_all, range_with_len}
use Rattle.std.proofs.lemmas.Iterator.{YieldsList-from_range}
use Rattle.std.proofs.lemmas.Iterator.Search.{all_from_yields_List}
use Rattle.model.specs.Lists.{every}
use Rattle.model.specs.Layout.{layout_of}
use Rattle.model.specs.Board.{trailer_word, trailer}
use Rattle.boards.proofs.figures_sound.Goals as goal

three : (p : ℕ → Bool) → list_all p (range_with_len 1 3) ≡ every 3 (λ j. p (suc j))
unfolding every
three p = by (p 1) (p 2) (p 3)
  where
    by : (x y z : Bool) → (x && (y && (z && true))) ≡ (x && y && z)
    by true true true = refl
    by true true false = refl
    by true false z = refl
    by false y z = refl

pub returns : goal.returns
returns g c = let a = c.args in let k = layout_of g.L.Layout.kind in
    let test : ℕ → Bool = λ j. eqb (trailer k a.board.now j) (trailer_word k c.block_count-blocks.result j) in
    all_from_yields_List test _ _ _ c.all.ensures.ran (YieldsList-from_range 1 4 3 refl refl) (λ x b q k. search (rules, tests)) ∙ three test ∙ rw c.block_count-blocks.ensures
