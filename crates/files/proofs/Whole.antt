-- A buffer that is filled whole, and a part of one that was lent and came back filled whole.
use mathlib.Core.Path.{◌≡◌, refl, sym, ◌∙◌}
use mathlib.Core.List.{List, [], ◌++◌, append_assoc, append-nil}
use Prim.Native.Nat.{ℕ, ◌+◌, ◌≤◌, ◌<◌}
use native.Mathlib.Omega.{arith}
use lib.ListN.{length, take, drop, length-drop, drop_of_length-le}
use lib.Seq.{length-take-le, take_at, drop_at, drop-drop}
use borrow.Rule.Slice.PartMut.{put_mid}
use Rattle.model.specs.Lists.{tabulate}
use Rattle.model.proofs.Cases.{tabulate_cong, tabulate_add}
use Rattle.model.proofs.Perform.{length_tabulate}
use Rattle.words.specs.Filled.{Filled}

module _ {f : ℕ → ℕ} {out : List ℕ} where
  pub full : {n : ℕ} {P : List ℕ} → n ≡ length out → Filled f n out P → P ≡ tabulate (length out) f
  full {n} e d =
      let z : drop n out ≡ [] = drop_of_length-le out (omega arith) in
      d.is ∙ rw (z, e, append-nil)

  -- after j values m were lent, and came back as all of P
  pub part : {j m k : ℕ} {g : ℕ → ℕ} {out₁ P : List ℕ} → Filled f j out out₁ → k ≡ m → j + m ≤ length out → ((i : ℕ) → i < m → g i ≡ f (j + i)) →
      P ≡ tabulate (length (take k (drop j out₁))) g → Filled f (j + m) out (put_mid j k out₁ P)
  part {j} {m} {k} {g} {out₁} {P} c z l e d =
      let done : take j out₁ ≡ tabulate j f = rw c.is (take_at (tabulate j f) (drop j out) j (length_tabulate j f)) in
      let left : drop j out₁ ≡ drop j out = rw c.is (drop_at (tabulate j f) (drop j out) j (length_tabulate j f)) in
      let n : length (take k (drop j out₁)) ≡ m = rw (left, z) (length-take-le m (drop j out) (omega (arith, length-drop j out))) in
      let p : P ≡ tabulate m (λ i. f (j + i)) = d ∙ rw n (tabulate_cong m g (λ i. f (j + i)) e) in
      record { is = rw (z, done, left, p, drop-drop m j out, tabulate_add j m f) (sym (append_assoc (tabulate j f) (tabulate m (λ i. f (j + i))) (drop (j + m) out))) }
