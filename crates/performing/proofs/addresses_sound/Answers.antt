use mathlib.Core.Path.{◌∙◌}
use mathlib.Core.Bool.{Bool, ◌||◌}
use lib.Dec.{ltb}
use Rattle.std.proofs.Common.{rules, tests}
use Rattle.std.proofs.iter.Serving.{serving}
use Rattle.std.proofs.lemmas.Iterator.Search.{all_from_yields_List}
use Rattle.model.specs.Store.{Store, store, is_barrier}
use Rattle.performing.proofs.Pairs.{pairs_yielded, sizes_kept}
use Rattle.performing.proofs.Performing.{all_listed}
use Rattle.performing.proofs.addresses_sound.Goals as goal

pub all-requires-clause-callable : goal.all-requires-clause-callable
all-requires-clause-callable c = grind (serving, sizes_kept)

pub returns : goal.returns
unfolding is_barrier store
returns c = let a = c.args in
    let test : Store → Bool = λ s. ltb s.at a.words || is_barrier s in
    all_from_yields_List test _ _ _ c.all.ensures.ran (pairs_yielded a.plan.now a.k (cc) (cc) c.take.ensures.count) (λ x b q k. search (rules, tests))
    ∙ all_listed test _
