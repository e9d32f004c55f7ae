-- The lines of files, of a board and of an image.
use Rattle.std.specs.Prelude.{Ok, Err}
use mathlib.Core.Path.{◌≡◌, refl, sym, ap, ◌∙◌}
use mathlib.Core.Logic.{inl, inr}
use mathlib.Core.List.{List, [], ◌++◌}
use Prim.Native.Nat.{ℕ, ◌+◌, ◌*◌, ◌/◌, ◌%◌, ◌≤◌}
use native.Mathlib.Omega.{arith}
use lib.ListN.{length, take, drop}
use lib.Seq.{sets-eq, take_at}
use Rattle.model.specs.declared.Fault.{Fault}
use Rattle.model.specs.Lists.{joined}
use Rattle.model.specs.Layout.{house, files}
use Rattle.model.specs.Tree.{live}
use Rattle.model.specs.Board.{root_blocks, block_count, root, size, file_blocks, free, word_count_sound}
use Rattle.model.specs.Answers.{number, answered, Answer}
use Rattle.model.specs.Calls.{word_count_fault, board_faults, check_answer, free_count_answer}
use Rattle.model.specs.Lister.{word_blocks, word_free, word_file, word_size, word_height, word_held, word_refused, field, line, held_count, file_line, board_lines, answer_lines, listing}
use Rattle.model.proofs.Refusals.{same_refused, same_done}
use Rattle.model.proofs.Trees.{live_some}
use Rattle.trees.specs.Trees.{Counted}
use Rattle.images.specs.Images.{board_of}
use Rattle.images.proofs.Boards.{read_as, check_answer_law}
use Rattle.text.specs.declared.Text.{Text}
use Rattle.text.specs.Wrote.{Wrote}
use Rattle.text.proofs.Writing.{none, both, loose, more}
use Rattle.listing.specs.Listed.{Listed}

-- the line of one file
module _ (b : List ℕ) (f : ℕ) {n : ℕ} {t : Text} (es : n ≡ size house b f) where
  pub no_line : n ≡ 0 → Wrote 106 (file_line house b f) t t
  unfolding file_line live
  no_line z = rw (← es, z) (loose (omega arith) none)

  pub one_line : {w d : ℕ} {t' : Text} → (n ≡ 0 → ⊥) → w ≡ root house b f → Counted 8 b (w % 8) (w / 8) n d →
      Wrote 106 (line word_file f (field word_size n ++ field word_height (w % 8) ++ field word_held d)) t t' →
      Wrote 106 (file_line house b f) t t'
  unfolding file_line held_count file_blocks root_blocks
  one_line z er c a = rw (← es, live_some n (omega (arith, z)), ← er, ← c.is) a

-- the lines of the first f files
module _ (b : List ℕ) {t : Text} where
  pub no_files : Wrote 0 (joined 0 (file_line house b)) t t
  unfolding joined
  no_files = none

  pub one_file_more : (f : ℕ) {u v : Text} → Wrote (106 * f) (joined f (file_line house b)) t u → Wrote 106 (file_line house b f) u v →
      Wrote (106 * (f + 1)) (joined (f + 1) (file_line house b)) t v
  one_file_more f a c = loose (omega arith) (more (file_line house b) f a c)

-- Check and the free count refuse alike, so that the free count alone is asked for.
module _ (b : List ℕ) {a : Answer} (ea : a ≡ free_count_answer house b) {t : Text} where
  pub refusal : {f : Fault} {n : ℕ} {t' : Text} → a ≡ Err f → n ≡ number f → Wrote 29 (line word_refused n []) t t' →
      Wrote 3446 (answer_lines house b (check_answer house b)) t t'
  unfolding free_count_answer check_answer answer_lines
  refusal z en w = rw (same_refused (board_faults house b) (length (free house b)) 0 ea z, z, ← en) (loose (omega arith) w)

  pub board : {v n : ℕ} {u t' : Text} → a ≡ Ok v → n ≡ block_count house b → Wrote 54 (line word_blocks n (field word_free v)) t u →
      Wrote 3392 (joined 32 (file_line house b)) u t' → Wrote 3446 (answer_lines house b (check_answer house b)) t t'
  unfolding free_count_answer check_answer answer_lines board_lines files
  board {v} z en w fs =
      let k : ℕ = length (free house b) in
      let e : Ok v ≡ Ok k = sym z ∙ ea ∙ same_done (board_faults house b) k k ea z in
      let ev : v ≡ k = cc in
      rw (same_done (board_faults house b) k 0 ea z, ← en, ← ev) (both w fs)

listing_of : (image : List ℕ) → listing house image ≡ answer_lines house (board_of image) (check_answer house (board_of image))
unfolding listing answer_lines check_answer board_faults word_count_fault word_count_sound answered
listing_of image = rw (check_answer_law image) (elim (read_as image) [
  | inl w ↦ rw w.0
  | inr w ↦ rw w.0
])

-- the text was empty before, and its buffer is lent back
pub listed : (image : List ℕ) {board : List ℕ} {t t' : Text} {out : List ℕ} → board ≡ board_of image → t.len ≡ 0 →
    Wrote 3446 (answer_lines house board (check_answer house board)) t t' → out ≡ t'.out.now → Listed image t.out.now t'.len out
listed image {board} {t} c z w o =
    let e : answer_lines house board (check_answer house board) ≡ listing house image = rw c (sym (listing_of image)) in
    record {
      count = omega (arith, w.next, ap length e);
      most = omega (arith, w.next, w.short);
      bytes = rw (o, ← e, ← z) w.bytes;
    }

-- the first r bytes of a buffer with room for any listing, which the program prints, are the listing
pub printed : {image out : List ℕ} {r : ℕ} {out' : List ℕ} → Listed image out r out' → 4096 ≤ length out → take r out' ≡ listing house image
printed {image} {out} c l =
    let t : List ℕ = listing house image in
    let fits : 0 + length t ≤ length out = omega (arith, c.count, c.most) in
    rw (c.bytes, sets-eq t out 0 fits, c.count) (take_at t (drop (0 + length t) out) (length t) refl)
