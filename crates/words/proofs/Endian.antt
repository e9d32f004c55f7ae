-- The bytes of a word by the library, low byte first, are those of the definitions.
use mathlib.Core.Path.{◌≡◌, ◌∙◌, ap}
use mathlib.Core.List.{List}
use Prim.Native.Nat.{ℕ, zero, suc, ◌+◌, ◌*◌, ◌<◌}
use native.Mathlib.Nat.{div-one, mul-zero, mul-suc}
use native.Mathlib.Omega.{arith}
use lib.ListN.{get_or, take, drop}
use lib.Seq.{get_or-take, get_or-drop, drop-drop}
use Rattle.std.specs.Int.{w64, to_le_bytes, from_le_bytes}
use Rattle.std.specs.Simd.{first_chunks}
use Rattle.model.specs.Lists.{tabulate}
use Rattle.model.specs.Words.{byte_of, word_of}

pub le_bytes : (x : ℕ) → to_le_bytes w64 x ≡ tabulate 8 (byte_of x)
unfolding tabulate byte_of
le_bytes x = rw (div-one x)

-- the word whose byte 0 is at an index
pub le_word : (bytes : List ℕ) (at : ℕ) {x : List ℕ} → x ≡ take 8 (drop at bytes) → from_le_bytes w64 x ≡ word_of 8 (λ i. get_or bytes (at + i) 0)
unfolding word_of
le_word bytes at {x} e =
    let f : (i : ℕ) → i < 8 → get_or x i 0 ≡ get_or bytes (at + i) 0 = λ i l. rw e (get_or-take 8 (drop at bytes) i 0 l ∙ get_or-drop at bytes i 0) in
    omega (arith, f 0 (omega arith), f 1 (omega arith), f 2 (omega arith), f 3 (omega arith), f 4 (omega arith), f 5 (omega arith), f 6 (omega arith), f 7 (omega arith))

-- chunk i of a list cut into k of n
pub chunk_at : (n k : ℕ) (l d : List ℕ) (i : ℕ) → i < k → get_or (first_chunks n k l) i d ≡ take n (drop (n * i) l)
chunk_at n zero l d i h = absurd (omega arith)
chunk_at n (suc k) l d zero h = rw (mul-zero n)
chunk_at n (suc k) l d (suc i) h =
    let e : n * suc i ≡ n + n * i = omega (arith, mul-suc n i) in
    rw e (chunk_at n k (drop n l) d i (omega arith) ∙ ap (take n) (drop-drop (n * i) n l))
