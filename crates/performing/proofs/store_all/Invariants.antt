use mathlib.Core.Path.{◌≡◌}
use mathlib.Core.List.{map}
use Rattle.model.specs.Store.{performed, stores}
use Rattle.performing.proofs.Pairs.{pair_of}
use Rattle.performing.proofs.store_all.Given as goal

-- the pairs so far are performed
abbrev pub invariant-loop-pair : goal.invariant-loop-pair
invariant-loop-pair l = l.board ≡ performed l.initial.board (stores (map pair_of l.yielded))
