-- The blocks that a change gives up (specs/GivenUp.antt), counted.
use mathlib.Core.Path.{◌≡◌, refl, ap, ◌∙◌}
use mathlib.Core.Logic.{inl, inr}
use mathlib.Core.Bool.{true, false}
use mathlib.Core.List.{List, []}
use Prim.Native.Nat.{ℕ, zero, suc, ◌+◌, ◌-◌, ◌*◌, ◌/◌, ◌≤◌, ◌<◌}
use native.Mathlib.Omega.{arith}
use native.Mathlib.Nat.{zero-div}
use Rattle.model.specs.Lists.{joined, sum, occ}
use Rattle.model.specs.Tree.{span, cell, link, blocks}
use Rattle.model.specs.Fresh.{part_length, touched}
use Rattle.model.specs.GivenUp.{own, path_blocks, dropped_blocks}
use Rattle.model.proofs.Cases.{either}
use Rattle.model.proofs.Sums.{sum_zero, sum_cong, sum_add}
use Rattle.model.proofs.Counting.{occ_append, occ_joined}
use Rattle.model.proofs.Agree.{beneath, occ_beneath, occ_node}

occ_none : (q : ℕ) (l : List ℕ) → l ≡ [] → occ q l ≡ 0
unfolding occ
occ_none q l e = rw e

module _ (W : ℕ) (pos : 0 < W) (b : List ℕ) where
  -- those under each child
  abbrev pub path_under : ℕ → ℕ → ℕ → ℕ → ℕ → ℕ → List ℕ
  path_under h k n o l j = path_blocks W b h (link W b k j / W) (n - j * span W h) (o - j * span W h) (part_length (span W h) j o l)

  -- by the test
  path_nil : (h k n o l : ℕ) → touched W h k n o l ≡ false → path_blocks W b h k n o l ≡ []
  unfolding path_blocks
  path_nil zero k n o l e = rw e
  path_nil (suc h) k n o l e = rw e

  pub path_none : (h k n o l q : ℕ) → touched W h k n o l ≡ false → occ q (path_blocks W b h k n o l) ≡ 0
  path_none h k n o l q e = occ_none q (path_blocks W b h k n o l) (path_nil h k n o l e)

  pub path_data : (k n o l q : ℕ) → touched W zero k n o l ≡ true → occ q (path_blocks W b zero k n o l) ≡ occ q (blocks W b zero k n)
  unfolding path_blocks own blocks
  path_data zero n o l q e = rw e
  path_data (suc k) zero o l q e = rw e
  path_data (suc k) (suc n) o l q e = rw e

  own_node : (h k n o l q : ℕ) → touched W (suc h) k n o l ≡ true → occ q (path_blocks W b (suc h) k n o l) ≡ occ q (own k n) + sum W (λ j. occ q (path_under h k n o l j))
  unfolding path_blocks
  own_node h k n o l q e = rw e (occ_append q (own k n) (joined W (path_under h k n o l)) ∙ ap (λ (x : ℕ). occ q (own k n) + x) (occ_joined q W (path_under h k n o l)))

  own_blocks : (h k n q : ℕ) → occ q (blocks W b (suc h) k n) ≡ occ q (own k n) + beneath W pos b h k n q
  unfolding own occ blocks
  own_blocks h zero n q = omega (arith, occ_beneath W pos b h 0 n q)
  own_blocks h (suc k) zero q = omega (arith, occ_beneath W pos b h (suc k) 0 q)
  own_blocks h (suc k) (suc n) q = omega (arith, occ_node W pos b h (suc k) (suc n) q (omega arith) (omega arith))

  pub path_node : (h k n o l q : ℕ) → touched W (suc h) k n o l ≡ true
      → occ q (path_blocks W b (suc h) k n o l) + beneath W pos b h k n q ≡ occ q (blocks W b (suc h) k n) + sum W (λ j. occ q (path_under h k n o l j))
  path_node h k n o l q e = omega (arith, own_node h k n o l q e, own_blocks h k n q)

  -- where no block exists
  pub path_null : (h n o l q : ℕ) → occ q (path_blocks W b h 0 n o l) ≡ 0
  unfolding own occ link blocks
  path_null zero n o l q = elim (either (touched W zero 0 n o l)) [
    | inl e ↦ path_data 0 n o l q e
    | inr e ↦ path_none zero 0 n o l q e
  ]
  path_null (suc h) n o l q = elim (either (touched W (suc h) 0 n o l)) [
    | inl e ↦ omega (
      arith,
      own_node h 0 n o l q e,
      sum_zero W (λ j. occ q (path_under h 0 n o l j)) (λ j u. rw (zero-div W) (path_null h (n - j * span W h) (o - j * span W h) (part_length (span W h) j o l) q)),
    )
    | inr e ↦ path_none (suc h) 0 n o l q e
  ]

  -- a smaller size
  pub dropped_exact : (h k n m q : ℕ) → m ≤ n → occ q (blocks W b h k m) + occ q (dropped_blocks W b h k n m) ≡ occ q (blocks W b h k n)
  unfolding dropped_blocks blocks occ link
  dropped_exact zero zero n zero q l = refl
  dropped_exact zero (suc k) n zero q l = omega arith
  dropped_exact zero zero n (suc m) q l = refl
  dropped_exact zero (suc k) zero (suc m) q l = absurd (omega arith)
  dropped_exact zero (suc k) (suc n) (suc m) q l = omega arith
  dropped_exact (suc h) zero n m q l = refl
  dropped_exact (suc h) (suc k) n zero q l = omega arith
  dropped_exact (suc h) (suc k) zero (suc m) q l = absurd (omega arith)
  dropped_exact (suc h) (suc k) (suc n) (suc m) q l =
      let now : ℕ → ℕ = λ j. occ q (blocks W b h (cell W b (suc k) j / W) (suc m - j * span W h)) in
      let lost : ℕ → ℕ = λ j. occ q (dropped_blocks W b h (cell W b (suc k) j / W) (suc n - j * span W h) (suc m - j * span W h)) in
      let was : ℕ → ℕ = λ j. occ q (blocks W b h (cell W b (suc k) j / W) (suc n - j * span W h)) in
      omega (
        arith,
        occ_joined q W (λ j. blocks W b h (cell W b (suc k) j / W) (suc m - j * span W h)),
        occ_joined q W (λ j. blocks W b h (cell W b (suc k) j / W) (suc n - j * span W h)),
        occ_joined q W (λ j. dropped_blocks W b h (cell W b (suc k) j / W) (suc n - j * span W h) (suc m - j * span W h)),
        sum_add W now lost,
        sum_cong W (λ j. now j + lost j) was (λ j u. dropped_exact h (cell W b (suc k) j / W) (suc n - j * span W h) (suc m - j * span W h) q (omega arith)),
      )
