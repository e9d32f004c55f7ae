-- The stores to words of a data block that get written bytes, laid one word after another.
use mathlib.Core.Path.{◌≡◌, refl, sym, ◌∙◌}
use mathlib.Core.Logic.{◌≢◌}
use mathlib.Core.List.{List, [], ◌∷◌}
use Prim.Native.Nat.{ℕ, ◌+◌, ◌*◌, ◌/◌, ◌≤◌, ◌<◌}
use native.Mathlib.Omega.{arith}
use native.Mathlib.Numerals.{add-one}
use Rattle.model.specs.Lists.{joined, choose}
use Rattle.model.specs.Store.{Store, store, laid}
use Rattle.model.specs.Fresh.{part_length, data_page}
use Rattle.model.proofs.Splice.{choose_zero, choose_pos}
use Rattle.plans.specs.Laying.{Laid}
use Rattle.plans.proofs.Laying as Laying
use Rattle.taking.proofs.Ends as Ends
use Rattle.taking.proofs.Ends.{Along}
use Rattle.tails.specs.Stores.{word_stores}

-- the store to word j, if bytes of it are written
abbrev word_store : ℕ → List ℕ → ℕ → ℕ → ℕ → List ℕ → ℕ → List Store
word_store W b k n l new j = choose (part_length 8 j n l) [] (store (W * k + j) (data_page W b k n n new j) ∷ [])

-- those to words below j, laid from place p on
pub record Below (W : ℕ) (b : List ℕ) (k n l : ℕ) (new plan : List ℕ) (p j : ℕ) (plan' : List ℕ) (q : ℕ) : Type 0 where
  pub stores : Laid plan p (joined j (word_store W b k n l new)) plan' q
  pub most : q ≤ p + j

module _ {W : ℕ} {b : List ℕ} {k n l : ℕ} {new plan : List ℕ} {p : ℕ} where
  none : Below W b k n l new plan p 0 plan p
  unfolding joined
  none = record { stores = Laying.none; most = omega arith }

  module _ {j q m : ℕ} {plan₁ : List ℕ} (g : Below W b k n l new plan p j plan₁ q) (em : m ≡ part_length 8 j n l) where
    skip : m ≡ 0 → Below W b k n l new plan p (j + 1) plan₁ q
    unfolding joined
    skip z = record {
      stores = rw (add-one j) (Laying.more g.stores (Laying.same_pairs (sym (choose_zero (part_length 8 j n l) _ _ (sym em ∙ z))) Laying.none));
      most = omega (arith, g.most);
    }

    pub one_more : {v a : ℕ} {plan₂ : List ℕ} → m ≢ 0 → v ≡ data_page W b k n n new j → plan₂ ≡ laid plan₁ q (store a v ∷ []) → a ≡ W * k + j
        → Below W b k n l new plan p (j + 1) plan₂ (q + 1)
    unfolding joined
    one_more {v} {a} {plan₂} some ev e ea =
        let written : 0 < part_length 8 j n l = omega (arith, em) in
        record {
          stores = rw (add-one j) (Laying.more g.stores (Laying.same_pairs (sym (choose_pos (part_length 8 j n l) _ _ written)) (Laying.one (rw (ev, ea) at e))));
          most = omega (arith, g.most);
        }

  -- before word n / 8 nothing is written
  pub begin : (w : ℕ) → Along (λ j. Below W b k n l new plan p j plan p) 8 n w (n / 8)
  begin w = Ends.begin (λ j. Below W b k n l new plan p j plan p) l (λ j e g. skip g refl e) w none

  -- nor is anything from word j on, if nothing is there
  pub over : {w j q m : ℕ} {plan₁ : List ℕ} → Along (λ j. Below W b k n l new plan p j plan₁ q) 8 n w j → j < w → m ≡ part_length 8 j n l → m ≡ 0 → Below W b k n l new plan p w plan₁ q
  over a less em e = Ends.over a l (λ j z g. skip g refl z) (omega arith) less (sym em ∙ e)

  pub all : {j q : ℕ} {plan₁ : List ℕ} → Below W b k n l new plan p j plan₁ q → j ≡ W → Laid plan p (word_stores W b k n l new) plan₁ q
  unfolding word_stores
  all g e = rw e at g.stores
