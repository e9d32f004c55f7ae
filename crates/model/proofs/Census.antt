-- Free blocks: which they are, and how many; and how many blocks the files hold. Live blocks lie in 1 to B − 2 and no block is reached twice, so the free
-- ones are the rest of these.
use mathlib.Core.Path.{◌≡◌, refl, sym, ap, ◌∙◌}
use mathlib.Core.Logic.{◌≢◌, inl, inr}
use mathlib.Core.Bool.{Bool, true, false, not, true≢false}
use mathlib.Core.List.{List, [], ◌∷◌}
use Prim.Native.Nat.{ℕ, zero, suc, ◌+◌, ◌-◌, ◌≤◌, ◌<◌}
use native.Mathlib.Omega.{arith}
use lib.ListN.{length, length-append, get_or}
use borrow.Author.Tests.{eq-eqb, ne_eqb, not-true}
use Rattle.model.specs.Lists.{tabulate, joined, sum, cons_if, pick_from, member, occ}
use Rattle.model.specs.Layout.{Layout, house, files}
use Rattle.model.specs.Board.{block_count, leaf, root_height, root_block, root_blocks, file_blocks, live_blocks, free}
use Rattle.model.specs.Lister.{held_count}
use Rattle.model.specs.Claims.{CensusRule, HeldRule, HouseHeldRule}
use Rattle.model.proofs.Cases.{split, decide, either, length_joined}
use Rattle.model.proofs.Perform.{length_tabulate}
use Rattle.model.proofs.Trees.{blocks_dead}
use Rattle.model.proofs.Formatted.{house_fits}
use Rattle.model.proofs.Counting.{one_same, member_none, member_some}
use Rattle.model.proofs.Accepting.{Facts, facts}
use Rattle.model.proofs.Ranges.{live_range}

-- ---- Numbers picked from c on

-- x is one of c, c + 1, .., c + n - 1, and p holds of it
pub record Picked (c n : ℕ) (p : ℕ → Bool) (x : ℕ) : Type 0 where
  pub from : c ≤ x
  pub below : x < c + n
  pub passes : p x ≡ true

module _ (p : ℕ → Bool) where
  pick_here : (c n : ℕ) → p c ≡ true → pick_from c (suc n) p ≡ c ∷ pick_from (c + 1) n p
  unfolding pick_from cons_if
  pick_here c n e = rw e

  pick_past : (c n : ℕ) → p c ≡ false → pick_from c (suc n) p ≡ pick_from (c + 1) n p
  unfolding pick_from cons_if
  pick_past c n e = rw e

  pick_none : (c : ℕ) → pick_from c zero p ≡ []
  unfolding pick_from
  pick_none c = refl

  first_picked : (c n : ℕ) → p c ≡ true → Picked c (suc n) p c
  first_picked c n e = record { from = omega arith; below = omega arith; passes = e }

  later_picked : (c n x : ℕ) → Picked (c + 1) n p x → Picked c (suc n) p x
  later_picked c n x k = record { from = omega (arith, k.from); below = omega (arith, k.below); passes = k.passes }

  picked_rest : (c n x : ℕ) → c ≢ x → Picked c (suc n) p x → Picked (c + 1) n p x
  picked_rest c n x d k = record { from = omega (arith, k.from, d); below = omega (arith, k.below); passes = k.passes }

  -- each of them is picked
  pub picked_at : (c n i : ℕ) → i < length (pick_from c n p) → Picked c n p (get_or (pick_from c n p) i 0)
  picked_at c zero i l = absurd (omega (arith, rw (pick_none c) at l))
  picked_at c (suc n) zero l = elim (either (p c)) [
    | inl e ↦ rw (pick_here c n e) (first_picked c n e)
    | inr e ↦ rw (pick_past c n e) (later_picked c n (get_or (pick_from (c + 1) n p) 0 0) (picked_at (c + 1) n 0 (rw (pick_past c n e) at l)))
  ]
  picked_at c (suc n) (suc i) l = elim (either (p c)) [
    | inl e ↦ let m : suc i < suc (length (pick_from (c + 1) n p)) = rw (pick_here c n e) at l in
        rw (pick_here c n e) (later_picked c n (get_or (pick_from (c + 1) n p) i 0) (picked_at (c + 1) n i (omega (arith, m))))
    | inr e ↦ rw (pick_past c n e) (later_picked c n (get_or (pick_from (c + 1) n p) (suc i) 0) (picked_at (c + 1) n (suc i) (rw (pick_past c n e) at l)))
  ]

  -- they rise
  pub picked_rise : (c n i j : ℕ) → i < j → j < length (pick_from c n p) → get_or (pick_from c n p) i 0 < get_or (pick_from c n p) j 0
  picked_rise c n i zero r l = absurd (omega arith)
  picked_rise c zero i (suc j) r l = absurd (omega (arith, rw (pick_none c) at l))
  picked_rise c (suc n) zero (suc j) r l = elim (either (p c)) [
    | inl e ↦ let m : suc j < suc (length (pick_from (c + 1) n p)) = rw (pick_here c n e) at l in
        rw (pick_here c n e) (omega (arith, (picked_at (c + 1) n j (omega (arith, m))).from))
    | inr e ↦ rw (pick_past c n e) (picked_rise (c + 1) n 0 (suc j) r (rw (pick_past c n e) at l))
  ]
  picked_rise c (suc n) (suc i) (suc j) r l = elim (either (p c)) [
    | inl e ↦ let m : suc j < suc (length (pick_from (c + 1) n p)) = rw (pick_here c n e) at l in
        rw (pick_here c n e) (picked_rise (c + 1) n i j (omega (arith, r)) (omega (arith, m)))
    | inr e ↦ rw (pick_past c n e) (picked_rise (c + 1) n (suc i) (suc j) r (rw (pick_past c n e) at l))
  ]

  -- the members are those that are picked
  pub member_picked : (c n x : ℕ) → member x (pick_from c n p) ≡ true → Picked c n p x
  unfolding member
  member_picked c zero x h = absurd (true≢false (sym h ∙ ap (member x) (pick_none c)))
  member_picked c (suc n) x h = elim (either (p c)) [
    | inl e ↦ elim (decide x c) [
      | inl s ↦ rw s (first_picked c n e)
      | inr d ↦ later_picked c n x (member_picked (c + 1) n x (rw (pick_here c n e, ne_eqb x c d) at h))
    ]
    | inr e ↦ later_picked c n x (member_picked (c + 1) n x (rw (pick_past c n e) at h))
  ]

  pub picked_member : (c n x : ℕ) → Picked c n p x → member x (pick_from c n p) ≡ true
  unfolding member
  picked_member c zero x k = absurd (omega (arith, k.from, k.below))
  picked_member c (suc n) x k = elim (decide c x) [
    | inl s ↦ rw (pick_here c n (rw (← s) at k.passes), eq-eqb x c (sym s))
    | inr d ↦ elim (either (p c)) [
      | inl e ↦ rw (pick_here c n e, ne_eqb x c (λ s. d (sym s))) (picked_member (c + 1) n x (picked_rest c n x d k))
      | inr e ↦ rw (pick_past c n e) (picked_member (c + 1) n x (picked_rest c n x d k))
    ]
  ]

-- ---- Free blocks

module _ (g : Layout) (b : List ℕ) where
  -- *any of 1 to B − 2 that isn't live*
  abbrev pub FreeBlock : ℕ → Type 0
  FreeBlock x = (0 < x) × (x < block_count g b - 1) × (occ x (live_blocks g b) ≡ 0)

  unmet : ℕ → Bool
  unmet k = not (member k (live_blocks g b))

  picked_free : (x : ℕ) → Picked 1 (block_count g b - 2) unmet x → FreeBlock x
  unfolding unmet
  picked_free x k = (
    k.from,
    omega (arith, k.below),
    elim (split (occ x (live_blocks g b)) 0) [
      | inl z ↦ omega arith
      | inr s ↦ absurd (true≢false (sym (member_some x (live_blocks g b) s) ∙ not-true (member x (live_blocks g b)) k.passes))
    ],
  )

  free_picked : (x : ℕ) → FreeBlock x → Picked 1 (block_count g b - 2) unmet x
  unfolding unmet
  free_picked x k = record { from = k.0; below = omega (arith, k.0, k.1); passes = rw (member_none x (live_blocks g b) k.2) }

  -- the i-th of them
  pub free_at : (i : ℕ) → i < length (free g b) → FreeBlock (get_or (free g b) i 0)
  unfolding free unmet
  free_at i l = picked_free (get_or (free g b) i 0) (picked_at unmet 1 (block_count g b - 2) i l)

  -- *rising*
  pub free_rises : (i j : ℕ) → i < j → j < length (free g b) → get_or (free g b) i 0 < get_or (free g b) j 0
  unfolding free unmet
  free_rises i j r l = picked_rise unmet 1 (block_count g b - 2) i j r l

  pub member_free : (x : ℕ) → member x (free g b) ≡ true → FreeBlock x
  unfolding free unmet
  member_free x h = picked_free x (member_picked unmet 1 (block_count g b - 2) x h)

  pub free_member : (x : ℕ) → FreeBlock x → member x (free g b) ≡ true
  unfolding free unmet
  free_member x k = picked_member unmet 1 (block_count g b - 2) x (free_picked x k)

-- ---- How many there are

pick_all : (p : ℕ → Bool) → ((k : ℕ) → p k ≡ true) → (c n : ℕ) → length (pick_from c n p) ≡ n
pick_all p e c zero = rw (pick_none p c)
pick_all p e c (suc n) = rw (pick_here p c n (e c)) (omega (arith, pick_all p e (c + 1) n))

pick_cong : (p r : ℕ → Bool) (c n : ℕ) → ((k : ℕ) → c ≤ k → r k ≡ p k) → pick_from c n r ≡ pick_from c n p
unfolding pick_from
pick_cong p r c zero e = refl
pick_cong p r c (suc n) e = rw (e c (omega arith), pick_cong p r (c + 1) n (λ k l. e k (omega arith)))

-- with one number passed over, one less is picked
pick_less : (p r : ℕ → Bool) (c n x : ℕ) → Picked c n p x → r x ≡ false → ((k : ℕ) → k ≢ x → r k ≡ p k) → suc (length (pick_from c n r)) ≡ length (pick_from c n p)
pick_less p r c zero x k z e = absurd (omega (arith, k.from, k.below))
pick_less p r c (suc n) x k z e = elim (decide c x) [
  | inl s ↦ rw (pick_here p c n (rw (← s) at k.passes), pick_past r c n (rw (← s) at z), pick_cong p r (c + 1) n (λ i l. e i (omega arith)))
  | inr d ↦
      let less : suc (length (pick_from (c + 1) n r)) ≡ length (pick_from (c + 1) n p) = pick_less p r (c + 1) n x (picked_rest p c n x d k) z e in
      elim (either (p c)) [
        | inl y ↦ rw (pick_here p c n y, pick_here r c n (e c d ∙ y)) (ap suc less)
        | inr y ↦ rw (pick_past p c n y, pick_past r c n (e c d ∙ y)) less
      ]
]

-- n numbers are those of a list that lie among them, and the others
others_count : (c n : ℕ) (l : List ℕ) → ((q : ℕ) → occ q l ≤ 1) → ((q : ℕ) → 0 < occ q l → (c ≤ q) × (q < c + n)) → length l + length (pick_from c n (λ k. not (member k l))) ≡ n
unfolding member occ
others_count c n [] once range = omega (arith, pick_all (λ k. true) (λ k. refl) c n)
others_count c n (x ∷ xs) once range =
    let absent : member x xs ≡ false = member_none x xs (omega (arith, once x, one_same x)) in
    let there = range x (omega (arith, one_same x)) in
    omega (
      arith,
      others_count c n xs (λ q. omega (arith, once q)) (λ q o. range q (omega arith)),
      pick_less (λ k. not (member k xs)) (λ k. not (member k (x ∷ xs))) c n x
          (record { from = there.0; below = there.1; passes = rw absent }) (rw (eq-eqb x x refl)) (λ k d. rw (ne_eqb k x d)),
    )

-- the live blocks, the free ones, block 0 and the trailer are all
pub census : CensusRule
unfolding free
census g fit b t =
    let a : Facts g b = facts g fit b t in
    omega (
      arith,
      others_count 1 (block_count g b - 2) (live_blocks g b) a.once (λ q o. let r = live_range g fit b a q o in (r.0, omega (arith, r.0, r.1))),
      a.sizes.blocks_least,
    )

-- ---- What the files hold

-- the live blocks are those that the files hold, the leaves and the inode pointer block
live_count : (g : Layout) (b : List ℕ) → length (live_blocks g b) ≡ 1 + g.leaves + sum (files g) (held_count g b)
unfolding live_blocks held_count
live_count g b =
    let joins = joined (files g) (file_blocks g b) in
    omega (arith, length-append (tabulate g.leaves (leaf g b)) joins, length_tabulate g.leaves (leaf g b), length_joined (files g) (file_blocks g b))

pub held_rule : HeldRule
unfolding held_count file_blocks root_blocks
held_rule g fit b t = (
  omega (arith, census g fit b t, live_count g b),
  λ f e. rw (e, blocks_dead g.words b (root_height g b f) (root_block g b f)),
)

pub house_held_rule : HouseHeldRule
unfolding files
house_held_rule b t = omega (arith, (held_rule house house_fits b t).0)
