-- A write of two bytes that costs as many stores as any may, by computation.
use mathlib.Core.Path.{refl}
use mathlib.Core.List.{List, [], ◌∷◌}
use Prim.Native.Nat.{ℕ}
use native.Mathlib.Omega.{arith}
use lib.ListN.{replicate}
use Rattle.model.specs.Lists.{all}
use Rattle.model.specs.Words.{Bytes}
use Rattle.model.specs.Layout.{house}
use Rattle.model.specs.Store.{performed, stores}
use Rattle.model.specs.Calls.{write, set_length, format}
use Rattle.model.specs.Cut.{plan_of}
use Rattle.model.proofs.Computing.{computes}
use Rattle.bounds.specs.Bounds.{t, u, v, most_blocks, sharp_stores, store_count}
use Rattle.bounds.specs.Claims.{MetRule}

lent : List ℕ
lent = replicate 400 0

-- 24 blocks with 32 empty files
empty : List ℕ
empty = performed (replicate 192 0) (stores (plan_of (format house (replicate 192 0) lent)))

-- file 0 has one byte in a tree of height 0
begun : List ℕ
begun = performed empty (stores (plan_of (write house empty 0 0 (7 ∷ []) lent)))

-- and a size of 4,096
long : List ℕ
long = performed begun (stores (plan_of (set_length house begun 0 4096 lent)))

-- two bytes across that end: three levels of growth, a path to each, and the leaf
last : Bytes
unfolding all
last = record { values = 1 ∷ 2 ∷ []; small = tt }

pub met_rule : MetRule
unfolding computes lent empty begun long last t u v most_blocks sharp_stores store_count
met_rule = (long, 4095, last, lent, omega arith, omega arith, refl)
