-- The definitions of Fresh and InPlace on a tree by value, the board being read with growth performed.
use Rattle.std.specs.Prelude.{Bool, List, ℕ, ◌^◌, length}
use Rattle.model.specs.Fresh.{Page, touched, fresh_need, build}
use Rattle.model.specs.InPlace.{tail_need, tail_pages}
use Rattle.plans.specs.declared.Grown.{Grown}
use Rattle.plans.specs.Onto.{taking, onto}
use Rattle.taking.specs.declared.Under.{Under}
use Rattle.building.specs.declared.Tail.{Tail}

-- whether the tree's own block is made fresh when `new` is written
abbrev pub own_fresh : ℕ → Under → List ℕ → Bool
own_fresh bits u new = touched (2 ^ bits) u.tree.height u.tree.block u.tree.left u.offset (length new)

module _ (bits : ℕ) (board free : List ℕ) (grown : Grown) (u : Under) (new : List ℕ) where
  -- how many blocks of the tree are made fresh then
  abbrev pub fresh_count : ℕ
  fresh_count = fresh_need (2 ^ bits) (onto (2 ^ bits) free board grown) u.tree.height u.tree.block u.tree.left u.offset (length new)

  -- and what they hold
  abbrev pub fresh_pages : List Page
  fresh_pages = build (2 ^ bits) (taking free) (onto (2 ^ bits) free board grown) u.tree.height u.tree.block u.tree.left u.offset new u.taken

-- ---- The subtrees that are made fresh where `new` is written at the end

-- how many blocks they have
abbrev pub end_count : ℕ → Tail → List ℕ → ℕ
end_count bits t new = tail_need (2 ^ bits) t.tree.height t.tree.left (length new)

-- and what these hold
abbrev pub end_pages : ℕ → List ℕ → List ℕ → Grown → Tail → List ℕ → List Page
end_pages bits board free grown t new = tail_pages (2 ^ bits) (onto (2 ^ bits) free board grown) (taking free) t.tree.height t.tree.block t.tree.left new t.taken
