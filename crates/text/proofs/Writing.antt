-- Laws of text that is written piece by piece.
use mathlib.Core.Path.{◌≡◌, refl, sym, ◌∙◌}
use mathlib.Core.List.{List, [], ◌∷◌, ◌++◌}
use Prim.Native.Nat.{ℕ, suc, ◌+◌, ◌≤◌, ◌<◌}
use native.Mathlib.Nat.{add-zero}
use native.Mathlib.Numerals.{add-one}
use native.Mathlib.Omega.{arith}
use lib.ListN.{length, take, get_or, set, length-append}
use lib.Seq.{sets, set_out, take-suc}
use Rattle.model.specs.Lists.{joined}
use Rattle.model.specs.Lister.{decimal, line}
use Rattle.text.specs.declared.Text.{Text}
use Rattle.text.specs.Wrote.{Wrote}

pub sets_append : {A : Type 0} (t u l : List A) (i : ℕ) → sets l i (t ++ u) ≡ sets (sets l i t) (i + length t) u
sets_append [] u l i = rw (add-zero i)
sets_append (a ∷ t) u l i =
    let e : i + suc (length t) ≡ suc i + length t = omega arith in
    rw e (sets_append t u (set l i a) (suc i))

module _ {a : Text} where
  -- nothing
  pub none : Wrote 0 [] a a
  none = record { short = omega arith; next = omega arith; bytes = refl; same_buffer = refl }

  -- one byte, in the buffer or off it
  pub stored : {x : ℕ} {b : Text} → b.len ≡ a.len + 1 → b.out ≡ record a.out { now = set a.out.now a.len x } → Wrote 1 (x ∷ []) a b
  stored e f = record { short = omega arith; next = e; bytes = rw f; same_buffer = rw f }

  pub off : {x : ℕ} {b : Text} → b.len ≡ a.len + 1 → b.out ≡ a.out → length a.out.now ≤ a.len → Wrote 1 (x ∷ []) a b
  off {x} e f h = record { short = omega arith; next = e; bytes = rw f (sym (set_out a.out.now a.len x h)); same_buffer = rw f }

  -- one text after the other
  pub both : {m k : ℕ} {t u : List ℕ} {b c : Text} → Wrote m t a b → Wrote k u b c → Wrote (m + k) (t ++ u) a c
  both {m} {k} {t} {u} v w = record {
    short = omega (arith, v.short, w.short, length-append t u);
    next = omega (arith, v.next, w.next, length-append t u);
    bytes = rw (sets_append t u a.out.now a.len, ← v.bytes, ← v.next) w.bytes;
    same_buffer = w.same_buffer ∙ v.same_buffer;
  }

  -- under another bound
  pub loose : {m k : ℕ} {t : List ℕ} {b : Text} → m ≤ k → Wrote m t a b → Wrote k t a b
  loose h w = record { short = omega (arith, w.short); next = w.next; bytes = w.bytes; same_buffer = w.same_buffer }

  -- a loop that copies a text has written its first i bytes, and writes one more
  pub copied : (t : List ℕ) (i : ℕ) {b c : Text} → Wrote i (take i t) a b → i < length t → Wrote 1 (get_or t i 0 ∷ []) b c → Wrote (i + 1) (take (i + 1) t) a c
  copied t i v h w = rw (add-one i, take-suc t i 0 h, ← add-one i) (both v w)

  -- the next part of a loop
  pub more : (f : ℕ → List ℕ) (n : ℕ) {m k : ℕ} {b c : Text} → Wrote m (joined n f) a b → Wrote k (f n) b c → Wrote (m + k) (joined (n + 1) f) a c
  unfolding joined
  more f n v w = rw (add-one n) (both v w)

  -- a line is a first word and a number, further fields, and the line's end
  pub lined : (w : List ℕ) (n : ℕ) {m k : ℕ} {t : List ℕ} {b c d : Text} → Wrote m (w ++ (32 ∷ decimal n)) a b → Wrote k t b c → Wrote 1 (10 ∷ []) c d →
      Wrote (m + k + 1) (line w n t) a d
  unfolding line
  lined w n u v e = both (both u v) e
