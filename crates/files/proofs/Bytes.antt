-- The bytes that a copy of a block shows, and those that the pieces of a read show.
use Rattle.std.specs.Prelude.{Some}
use mathlib.Core.Path.{◌≡◌, ◌∙◌, ap}
use mathlib.Core.List.{List}
use Prim.Native.Nat.{ℕ, ◌+◌, ◌-◌, ◌*◌, ◌/◌, ◌%◌, ◌≤◌, ◌<◌}
use native.Mathlib.Nat.{div-add-mod'}
use native.Mathlib.Omega.{arith}
use lib.Arith.{digits_div, digits_mod}
use lib.ListN.{get_or, take, drop}
use lib.Seq.{get_or-take, get_or-drop}
use Rattle.model.specs.Words.{byte_of}
use Rattle.model.specs.Tree.{cell, shown}
use Rattle.model.specs.Board.{root_walk}
use Rattle.model.proofs.Walks.{root_walk_same}
use Rattle.files.specs.Filling.{file_byte}

-- byte `from + j` of block k, where its word is x
pub one_byte : (W : ℕ) (b : List ℕ) (k from j : ℕ) {x v : ℕ} → x ≡ cell W b k ((from + j) / 8) → v ≡ byte_of x ((from + j) % 8) → v ≡ shown W b (Some k) (from + j)
unfolding shown
one_byte W b k from j ex e = e ∙ rw ex

-- the bytes of word `from + w`
pub whole_word : (W : ℕ) (b : List ℕ) (k from w : ℕ) {x : ℕ} → x ≡ cell W b k (from + w) → (i : ℕ) → i < 8 → byte_of x i ≡ shown W b (Some k) (8 * from + (8 * w + i))
unfolding shown
whole_word W b k from w ex i l =
    let q : (8 * from + (8 * w + i)) / 8 ≡ from + w = omega arith in
    let r : (8 * from + (8 * w + i)) % 8 ≡ i = omega arith in
    rw (q, r, ← ex)

-- word w of the n words from `first` on, which is word `from` of block k
pub on_run : (W : ℕ) (b : List ℕ) (k from n w : ℕ) {first : ℕ} → first ≡ W * k → w < n → get_or (take (first + from + n - (first + from)) (drop (first + from) b)) w 0 ≡ cell W b k (from + w)
unfolding cell
on_run W b k from n w {first} e l =
    let d : first + from + w ≡ W * k + (from + w) = omega (arith, e) in
    get_or-take (first + from + n - (first + from)) (drop (first + from) b) w 0 (omega arith) ∙ get_or-drop (first + from) b w 0 ∙ ap (λ (x : ℕ). get_or b x 0) d

-- two bytes of one block of m bytes
near : (m x j : ℕ) → x % m + j < m → ((x + j) / m ≡ x / m) × ((x + j) % m ≡ x % m + j)
near m x j l = let e : x + j ≡ x / m * m + (x % m + j) = omega (arith, div-add-mod' x m) in (rw e (digits_div (x / m) l), rw e (digits_mod (x / m) l))

-- what a piece shows is the file's bytes
pub pieces : (W : ℕ) → 0 < W → (b : List ℕ) (root n o done len : ℕ) → (o + done) % (8 * W) + len ≤ 8 * W → (j : ℕ) → j < len →
    shown W b (root_walk W b root n (o + done)) ((o + done) % (8 * W) + j) ≡ file_byte W b root n (o + (done + j))
pieces W pos b root n o done len l j h =
    let q : o + (done + j) ≡ o + done + j = omega arith in
    let z = near (8 * W) (o + done) j (omega arith) in
    rw (q, z.1, root_walk_same W pos b root n (o + done + j) (o + done) z.0)
