-- Filling the front of a lent slice, one value at a time or by lending what is left of it.
use mathlib.Core.Path.{◌≡◌, refl, sym, ap, ◌∙◌}
use mathlib.Core.List.{List, [], ◌++◌, append_assoc, append-nil}
use Prim.Native.Nat.{ℕ, suc, ◌+◌, ◌-◌, ◌≤◌, ◌<◌}
use native.Mathlib.Numerals.{add-one}
use native.Mathlib.Omega.{arith}
use lib.ListN.{length, get_or, set, take, drop, length-append, length-drop, drop_of_length-le}
use lib.Seq.{drop-cons, append_snoc, set_at, take_at, drop_at, drop-drop}
use borrow.Author.Rules.{part_to_end}
use borrow.Rule.Slice.PartMut.{put_mid}
use Rattle.model.specs.Lists.{tabulate}
use Rattle.model.proofs.Cases.{tabulate_cong, tabulate_add}
use Rattle.model.proofs.Perform.{length_tabulate}
use Rattle.words.specs.Filled.{Filled}

module _ {f : ℕ → ℕ} {out : List ℕ} where
  pub none : Filled f 0 out out
  unfolding tabulate
  none = record { is = refl }

  module _ {j : ℕ} {out₁ : List ℕ} (c : Filled f j out out₁) where
    pub same_length : j ≤ length out → length out₁ ≡ length out
    same_length l = omega (arith, ap length c.is, length-append (tabulate j f) (drop j out), length_tabulate j f, length-drop j out)

    pub step : {v : ℕ} → j < length out → v ≡ f j → Filled f (j + 1) out (set out₁ j v)
    unfolding tabulate
    step {v} l e = record {
      is =
          rw (c.is, e, add-one j, drop-cons out j 0 l, set_at (tabulate j f) (get_or out j 0) (drop (suc j) out) (f j) j (length_tabulate j f), append_snoc);
    }

    -- what is left of the slice was lent, and came back as P with m more values
    pub lent : {m : ℕ} {g : ℕ → ℕ} {P : List ℕ} → j ≤ length out → ((i : ℕ) → i < m → g i ≡ f (j + i)) →
        Filled g m (take (length out₁ - j) (drop j out₁)) P → Filled f (j + m) out (put_mid j (length out₁ - j) out₁ P)
    lent {m} {g} {P} l e d =
        let t : take j out₁ ≡ tabulate j f = rw c.is (take_at (tabulate j f) (drop j out) j (length_tabulate j f)) in
        let r : drop j out₁ ≡ drop j out = rw c.is (drop_at (tabulate j f) (drop j out) j (length_tabulate j f)) in
        let w : length (drop j out₁) ≤ length out₁ - j = omega (arith, length-drop j out₁) in
        let z : drop (length out₁ - j) (drop j out₁) ≡ [] = drop_of_length-le (drop j out₁) w in
        let p : P ≡ tabulate m (λ i. f (j + i)) ++ drop (j + m) out =
        d.is ∙ rw (part_to_end out₁ j, r, tabulate_cong m g (λ i. f (j + i)) e, drop-drop m j out) in
        record { is = rw (z, append-nil, t, p, tabulate_add j m f) (sym (append_assoc (tabulate j f) (tabulate m (λ i. f (j + i))) (drop (j + m) out))) }
