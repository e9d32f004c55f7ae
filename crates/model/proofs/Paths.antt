-- Which blocks of a tree are made fresh by a write, and how many they are.
use mathlib.Core.Path.{◌≡◌, refl, sym, ap, ◌∙◌}
use mathlib.Core.Logic.{◌⊎◌, inl, inr}
use mathlib.Core.Bool.{true, false, cond, and-false, false≢true}
use mathlib.Core.List.{List, []}
use Prim.Native.Nat.{ℕ, zero, suc, ◌+◌, ◌-◌, ◌*◌, ◌/◌, ◌≤◌, ◌<◌}
use native.Mathlib.Omega.{arith}
use native.Mathlib.Nat.{zero-div}
use lib.Dec.{leb}
use borrow.Author.Tests.{lt-ltb, le-ltb, le-leb}
use Rattle.model.specs.Lists.{sum}
use Rattle.model.specs.Tree.{live, span, link}
use Rattle.model.specs.Fresh.{part_length, touched, fresh_need, fresh_before, need}
use Rattle.model.proofs.Cases.{either}
use Rattle.model.proofs.Sums.{sum_cong, sum_mono}
use Rattle.model.proofs.Trees.{live_some, live_none}

module _ (W : ℕ) where
  -- ---- The block at the top of a tree

  pub touched_new : (h k n o l : ℕ) → 0 < l → touched W h k n o l ≡ true
  unfolding touched
  touched_new h k n o l some = rw (live_some l some)

  -- where o lies past n, also the one with byte n − 1
  pub touched_last : (h k n o l : ℕ) → n < o → 0 < k → 0 < n → n ≤ span W h → touched W h k n o l ≡ true
  unfolding touched
  touched_last h k n o l past there some fits = elim (either (live l)) [
    | inl e ↦ rw e
    | inr e ↦ rw (e, lt-ltb n o past, live_some k there, live_some n some, le-leb n (span W h) fits)
  ]

  -- and no other: nothing is written, and o lies within, or the block does not exist, or isn't live
  pub untouched_within : (h k n o l : ℕ) → l ≡ 0 → o ≤ n → touched W h k n o l ≡ false
  unfolding touched
  untouched_within h k n o l none within = rw (live_none l none, le-ltb n o within)

  pub untouched_null : (h k n o l : ℕ) → l ≡ 0 → k ≡ 0 → touched W h k n o l ≡ false
  unfolding touched
  untouched_null h k n o l none null = rw (live_none l none, live_none k null, and-false)

  pub untouched_dead : (h k n o l : ℕ) → l ≡ 0 → n ≡ 0 → touched W h k n o l ≡ false
  unfolding touched
  untouched_dead h k n o l none dead = rw (live_none l none, live_none n dead, and-false)

  -- what is asked last
  pub touched_span : (h k n o l : ℕ) → l ≡ 0 → n < o → 0 < k → 0 < n → touched W h k n o l ≡ leb n (span W h)
  unfolding touched
  touched_span h k n o l none past there some = rw (live_none l none, lt-ltb n o past, live_some k there, live_some n some)

  pub untouched_part : (h k n o l : ℕ) → touched W h k n o l ≡ false → l ≡ 0
  unfolding touched live
  untouched_part h k n o zero e = refl
  untouched_part h k n o (suc l) e = absurd (false≢true (sym e))

  -- ---- How many

  module _ (b : List ℕ) where
    -- under child j
    abbrev pub kid_need : ℕ → ℕ → ℕ → ℕ → ℕ → ℕ → ℕ
    kid_need h k n o l j = fresh_need W b h (link W b k j / W) (n - j * span W h) (o - j * span W h) (part_length (span W h) j o l)

    pub fresh_none : (h k n o l : ℕ) → touched W h k n o l ≡ false → fresh_need W b h k n o l ≡ 0
    unfolding fresh_need
    fresh_none zero k n o l e = rw e
    fresh_none (suc h) k n o l e = rw e

    pub fresh_data : (k n o l : ℕ) → touched W zero k n o l ≡ true → fresh_need W b zero k n o l ≡ 1
    unfolding fresh_need
    fresh_data k n o l e = rw e

    pub fresh_node : (h k n o l : ℕ) → touched W (suc h) k n o l ≡ true → fresh_need W b (suc h) k n o l ≡ suc (fresh_before W b h k n o l W)
    unfolding fresh_need fresh_before
    fresh_node h k n o l e = rw e

    pub fresh_pos : (h k n o l : ℕ) → touched W h k n o l ≡ true → 0 < fresh_need W b h k n o l
    fresh_pos zero k n o l e = omega (arith, fresh_data k n o l e)
    fresh_pos (suc h) k n o l e = omega (arith, fresh_node h k n o l e)

    pub before_suc : (h k n o l j : ℕ) → fresh_before W b h k n o l (suc j) ≡ fresh_before W b h k n o l j + kid_need h k n o l j
    unfolding fresh_before sum
    before_suc h k n o l j = refl

    pub before_le : (h k n o l j : ℕ) → j < W → fresh_before W b h k n o l (suc j) ≤ fresh_before W b h k n o l W
    unfolding fresh_before
    before_le h k n o l j p = sum_mono (kid_need h k n o l) (suc j) W p

  -- ---- Where no path but those to written bytes is made fresh: no block exists, or none is live, or o lies within

  abbrev pub Quiet : ℕ → ℕ → ℕ → Type 0
  Quiet k n o = (k ≡ 0) ⊎ ((n ≡ 0) ⊎ (o ≤ n))

  quiet_touched : (h k n o l : ℕ) → Quiet k n o → touched W h k n o l ≡ live l
  unfolding touched
  quiet_touched h k n o l (inl e) = elim (either (live l)) [ inl t ↦ rw t | inr f ↦ rw (f, live_none k e, and-false) ]
  quiet_touched h k n o l (inr (inl e)) = elim (either (live l)) [ inl t ↦ rw t | inr f ↦ rw (f, live_none n e, and-false) ]
  quiet_touched h k n o l (inr (inr e)) = elim (either (live l)) [ inl t ↦ rw t | inr f ↦ rw (f, le-ltb n o e) ]

  quiet_child : (b : List ℕ) (h k n o j : ℕ) → Quiet k n o → Quiet (link W b k j / W) (n - j * span W h) (o - j * span W h)
  unfolding link
  quiet_child b h k n o j (inl e) = inl (rw e (zero-div W))
  quiet_child b h k n o j (inr (inl e)) = inr (inl (omega arith))
  quiet_child b h k n o j (inr (inr e)) = inr (inr (omega arith))

  quiet_alike : (b b' : List ℕ) (h k n k' n' o l : ℕ) → Quiet k n o → Quiet k' n' o → fresh_need W b h k n o l ≡ fresh_need W b' h k' n' o l
  unfolding fresh_need
  quiet_alike b b' zero k n k' n' o l q q' = rw (quiet_touched zero k n o l q, quiet_touched zero k' n' o l q')
  quiet_alike b b' (suc h) k n k' n' o l q q' = rw (quiet_touched (suc h) k n o l q, quiet_touched (suc h) k' n' o l q')
      (ap (λ (x : ℕ). cond (live l) (suc x) 0) (sum_cong W _ _ (λ j p. quiet_alike b b' h (link W b k j / W) (n - j * span W h) (link W b' k' j / W) (n' - j * span W h) (o - j * span W h)
      (part_length (span W h) j o l) (quiet_child b h k n o j q) (quiet_child b' h k' n' o j q'))))

  -- a tree of which no block exists takes some for written bytes
  pub need_pos : (h o l : ℕ) → 0 < l → 0 < need W h o l
  unfolding need
  need_pos h o l some = fresh_pos [] h 0 0 o l (touched_new h 0 0 o l some)

  pub fresh_quiet : (b : List ℕ) (h k n o l : ℕ) → Quiet k n o → fresh_need W b h k n o l ≡ need W h o l
  unfolding need
  fresh_quiet b h k n o l q = quiet_alike b [] h k n 0 0 o l q (inl refl)

  -- none where nothing is written
  pub need_none : (h o : ℕ) → need W h o 0 ≡ 0
  unfolding need
  need_none h o = fresh_none [] h 0 0 o 0 (untouched_null h 0 0 o 0 refl refl)

  -- else one for data, and for pointers one and those under the children
  pub need_data : (o l : ℕ) → 0 < l → need W zero o l ≡ 1
  unfolding need
  need_data o l some = fresh_data [] 0 0 o l (touched_new zero 0 0 o l some)

  pub need_node : (h o l : ℕ) → 0 < l → need W (suc h) o l ≡ suc (sum W (λ j. need W h (o - j * span W h) (part_length (span W h) j o l)))
  unfolding need fresh_before
  need_node h o l some = fresh_node [] h 0 0 o l (touched_new (suc h) 0 0 o l some)
      ∙ ap suc (sum_cong W _ _ (λ j p. fresh_quiet [] h (link W [] 0 j / W) (0 - j * span W h) (o - j * span W h) (part_length (span W h) j o l) (inr (inl (omega arith)))))
