use Rattle.model.specs.Store.{barrier}
use Rattle.plans.proofs.barrier.Goals as goal

pub returns : goal.returns
unfolding barrier
returns c = c.pair.ensures
