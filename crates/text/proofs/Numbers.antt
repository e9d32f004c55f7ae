-- The digits of a number are those that the library writes.
use mathlib.Core.Path.{◌≡◌, refl, sym}
use mathlib.Core.List.{List, [], ◌∷◌, ◌++◌}
use Prim.Native.Nat.{ℕ, zero, suc, ◌+◌, ◌/◌, ◌%◌, ◌≤◌, ◌<◌, ◌^◌}
use native.Mathlib.Omega.{arith}
use borrow.Author.Tests.{lt-ltb, le-ltb}
use Rattle.std.specs.Fmt as std
use Rattle.std.proofs.lemmas.Fmt.{AppendsLastDigit, decimal_from_appends, length-decimal-le}
use Rattle.model.specs.Lister.{digits, decimal}

-- the last k digits at most
last : ℕ → ℕ → List ℕ
last zero n = []
last (suc k) n = digits k n

appends : AppendsLastDigit last
unfolding last digits
appends = record { one = one; more = more }
  where
    one : (k n : ℕ) → n < 10 → digits k n ≡ (48 + n) ∷ []
    one zero n h = let e : n % 10 ≡ n = omega arith in rw e
    one (suc k) n h = rw (lt-ltb n 10 h)

    more : (k n : ℕ) → 10 ≤ n → digits k n ≡ last k (n / 10) ++ ((48 + n % 10) ∷ [])
    more zero n h = refl
    more (suc k) n h = rw (le-ltb n 10 h)

pub same_decimal : (n : ℕ) → n < 2 ^ 64 → std.decimal n ≡ decimal n
unfolding last decimal
same_decimal n h = sym (decimal_from_appends last appends 20 n h (length-decimal-le 20 n (omega arith) (omega arith) h))
