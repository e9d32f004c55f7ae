-- No answer is too great for a signed number, nor is the number of a block where a walk ends.
use Rattle.std.specs.Prelude.{Ok, Err, Some}
use mathlib.Core.Path.{◌≡◌, refl}
use mathlib.Core.Logic.{inl, inr}
use mathlib.Core.Bool.{Bool, true, false, not, cond}
use mathlib.Core.List.{List, [], ◌∷◌}
use Prim.Native.Nat.{ℕ, zero, suc, ◌+◌, ◌-◌, ◌*◌, ◌/◌, ◌%◌, ◌^◌, ◌≤◌, ◌<◌}
use native.Mathlib.Omega.{arith}
use lib.ListN.{length, get_or}
use borrow.Author.Tests.{lt-ltb, le-ltb}
use Rattle.model.specs.Lists.{cons_if, pick_from, member}
use Rattle.model.specs.Layout.{Kind}
use Rattle.model.specs.Layout.{House, Published}
use Rattle.model.specs.Layout.{Layout, house, layout_of, files}
use Rattle.model.specs.Tree.{span, cell, link, walk}
use Rattle.model.specs.Board.{root_walk, greatest, block_count, size, linked_leaf, linked_word, walk_to, live_blocks, free}
use Rattle.model.specs.Answers.{Faults, answered, counted, Answer}
use Rattle.model.specs.Calls.{board_faults, file_faults, check_answer, free_count_answer, size_answer, read_count, read_answer}
use Rattle.model.proofs.Cases.{split}
use Rattle.model.proofs.Descent.{hole≢block, ending_is}
use Rattle.model.proofs.Accepting.{facts}
use Rattle.model.proofs.Refusals.{same_refused, same_done}
use Rattle.reading.specs.Results.{ReadResult}
use Rattle.surveying.proofs.FileNumbers.{file_found}
use Rattle.model.proofs.Formatted.{fits}
use Rattle.kinds.proofs.Figures.{small_sizes}

pub counted_most : (fs : Faults) (n : ℕ) → counted (answered fs n) ≤ n
unfolding answered counted
counted_most [] n = omega arith
counted_most (t ∷ ts) n = by t.1 (counted_most ts n)
  where
    by : (s : Bool) → counted (answered ts n) ≤ n → counted (cond s (Err t.0) (answered ts n)) ≤ n
    by true h = omega arith
    by false h = h

module _ (k : Kind) (b : List ℕ) (f : ℕ) where
  abbrev faults : Faults
  faults = file_faults (layout_of k) b f

  size_counted : (r : Answer) → r ≡ answered faults 0 → counted (size_answer (layout_of k) b f) ≤ greatest (layout_of k)
  unfolding size_answer counted
  size_counted (Err x) e = rw (same_refused faults 0 (size (layout_of k) b f) e refl) (omega arith)
  size_counted (Ok v) e = let t = file_found (layout_of k) b f e refl in
      rw (same_done faults 0 (size (layout_of k) b f) e refl) ((facts (layout_of k) (fits k) b t.0).most f t.1)

-- no more are picked than there are
pick_most : (c n : ℕ) (p : ℕ → Bool) → length (pick_from c n p) ≤ n
unfolding pick_from cons_if
pick_most c zero p = omega arith
pick_most c (suc n) p = by (p c) (pick_most (c + 1) n p)
  where
    by : (t : Bool) → length (pick_from (c + 1) n p) ≤ n → length (cons_if t c (pick_from (c + 1) n p)) ≤ suc n
    by true h = omega arith
    by false h = omega arith

blocks_small : (k : Kind) (b : List ℕ) → length b < 2 ^ 64 → block_count (layout_of k) b < 2 ^ 63
unfolding block_count
blocks_small House b h = omega arith
blocks_small Published b h = omega arith

pub check_small : (g : Layout) (b : List ℕ) {r : Answer} → r ≡ check_answer g b → counted r < 2 ^ 63
unfolding check_answer
check_small g b e = rw e (omega (arith, counted_most (board_faults g b) 0))

module _ (k : Kind) (b : List ℕ) {r : Answer} where
  pub free_small : length b < 2 ^ 64 → r ≡ free_count_answer (layout_of k) b → counted r < 2 ^ 63
  unfolding free_count_answer free
  free_small h e =
      let live : ℕ → Bool = λ q. not (member q (live_blocks (layout_of k) b)) in
      let n : ℕ = block_count (layout_of k) b - 2 in
      rw e (omega (arith, counted_most (board_faults (layout_of k) b) (length (pick_from 1 n live)), pick_most 1 n live, blocks_small k b h))

  pub size_small : (f : ℕ) → r ≡ size_answer (layout_of k) b f → counted r < 2 ^ 63
  size_small f e = rw e (omega (arith, size_counted k b f (answered (file_faults (layout_of k) b f) 0) refl, small_sizes k))

  pub read_small : {f o : ℕ} {out out' : List ℕ} → length out < 2 ^ 63 → ReadResult (layout_of k) b f o out r out' → counted r < 2 ^ 63
  unfolding read_answer read_count
  read_small {f} {o} {out} h c =
      let n : ℕ = read_count (layout_of k) b f o out in
      let u : n ≤ length out = omega arith in
      rw c.answer (omega (arith, counted_most (file_faults (layout_of k) b f) n))

-- ---- Where a walk ends

-- on any words, the block is one that a word points to
module _ (b : List ℕ) (words : (i : ℕ) → get_or b i 0 < 2 ^ 64) where
  link_small : (k j : ℕ) → link 8 b k j / 8 < 2 ^ 61
  unfolding link cell
  link_small zero j = omega arith
  link_small (suc k) j = omega (arith, words (8 * suc k + j))

  walk_most : (h k n i q : ℕ) → k < 2 ^ 61 → walk 8 b h k n i ≡ Some q → q < 2 ^ 61
  unfolding walk
  walk_most zero k n i q l e = rw (ending_is k n q e).1 l
  walk_most (suc h) k n i q l e = let j : ℕ = i / span 8 h in
      walk_most h (link 8 b k j / 8) (n - j * span 8 h) (i % span 8 h) q (link_small k j) e

  root_walk_most : (r n i q : ℕ) → r / 8 < 2 ^ 61 → root_walk 8 b r n i ≡ Some q → q < 2 ^ 61
  unfolding root_walk
  root_walk_most r n i q l e = elim (split (span 8 (r % 8)) i) [
    | inl past ↦ absurd (hole≢block q (rw (le-ltb i (span 8 (r % 8)) past) at e))
    | inr u ↦ walk_most (r % 8) (r / 8) n i q l (rw (lt-ltb i (span 8 (r % 8)) u) at e)
  ]

  pub walk_small : (f i q : ℕ) → walk_to house b f i ≡ Some q → q < 2 ^ 63
  unfolding walk_to linked_word
  walk_small f i q e = elim (split (files house) f) [
    | inl none ↦ absurd (hole≢block q (rw (le-ltb f (files house) none) at e))
    | inr l ↦ omega (arith, root_walk_most _ _ i q (link_small (linked_leaf house b f) (2 * (f % 4) + 0)) (rw (lt-ltb f (files house) l) at e))
  ]
