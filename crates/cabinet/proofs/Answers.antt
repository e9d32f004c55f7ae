-- What the library answers on the board of an image is what C is to get.
use Rattle.std.specs.Prelude.{Ok, Err}
use mathlib.Core.Path.{◌≡◌, refl, sym, ap, ◌∙◌}
use mathlib.Core.Logic.{inl, inr}
use mathlib.Core.List.{List, [], ◌++◌}
use Prim.Native.Nat.{ℕ}
use lib.ListN.{take, drop}
use lib.IntN.{ℤ}
use mir.Syntax.{w64}
use mir.Val.{SFits, to_z, of_z}
use mir.Facts.{to_z-of_z}
use Rattle.model.specs.Words.{words_of}
use Rattle.model.specs.Layout.{house}
use Rattle.model.specs.Board.{size, contents, word_count_sound}
use Rattle.model.specs.Answers.{answered, unless_refused, signed, Answer}
use Rattle.model.specs.Calls.{word_count_fault, board_faults, file_faults, check_answer, size_answer, read_count, read_answer, read_buffer}
use Rattle.model.specs.Cabinet.{image_check, image_size, image_read_answer, image_read, image_read_buffer}
use Rattle.images.specs.Images.{board_of}
use Rattle.images.proofs.Boards.{read_as, check_answer_law, file_answer}
use Rattle.reading.specs.Results.{ReadResult}
use Rattle.cabinet.specs.Results.{ImageReadResult}

-- a refusal leaves the buffer: the image's definition says so once more than the board's
buffer_kept : (b : List ℕ) (f o : ℕ) (out : List ℕ) →
    unless_refused (read_answer house b f o out) (read_buffer house b f o out) out ≡ read_buffer house b f o out
unfolding read_buffer unless_refused
buffer_kept b f o out =
    let n : ℕ = read_count house b f o out in
    by (read_answer house b f o out) (take n (drop o (contents house b f)) ++ drop n out)
  where
    by : (r : Answer) (x : List ℕ) → unless_refused r (unless_refused r x out) out ≡ unless_refused r x out
    by (Ok n) x = refl
    by (Err f) x = refl

buffer_none : (x : List ℕ) (f o : ℕ) (out : List ℕ) → unless_refused (read_answer house [] f o out) x out ≡ read_buffer house [] f o out
unfolding read_buffer read_answer file_faults board_faults word_count_fault word_count_sound answered unless_refused
buffer_none x f o out = refl

module _ (image : List ℕ) where
  size_answer_law : (f : ℕ) → image_size house image f ≡ signed (size_answer house (board_of image) f)
  unfolding image_size size_answer
  size_answer_law f = ap signed (file_answer image f (λ b. size house b f))

  read_answer_law : (f o : ℕ) (out : List ℕ) → image_read_answer house image f o out ≡ read_answer house (board_of image) f o out
  unfolding image_read_answer read_answer
  read_answer_law f o out = file_answer image f (λ b. read_count house b f o out)

  read_buffer_law : (f o : ℕ) (out : List ℕ) → image_read_buffer house image f o out ≡ read_buffer house (board_of image) f o out
  unfolding image_read_buffer
  read_buffer_law f o out = rw (read_answer_law f o out) (elim (read_as image) [
    | inl w ↦ rw w.0 (buffer_kept (words_of image) f o out)
    | inr w ↦ rw w.0 (buffer_none (read_buffer house (words_of image) f o out) f o out)
  ])

-- what each call has to show: what the board answers is what the image is to answer
module _ (image : List ℕ) {board : List ℕ} (c : board ≡ board_of image) where
  module _ {r : Answer} {s : ℤ} (fits : SFits w64 s) (es : s ≡ signed r) where
    pub checked : r ≡ check_answer house board → to_z w64 (of_z w64 s) ≡ image_check house image
    unfolding image_check
    checked e = to_z-of_z fits ∙ es ∙ ap signed (rw c at e ∙ sym (check_answer_law image))

    pub sized : (f : ℕ) → r ≡ size_answer house board f → to_z w64 (of_z w64 s) ≡ image_size house image f
    sized f e = to_z-of_z fits ∙ es ∙ ap signed (rw c at e) ∙ sym (size_answer_law image f)

    pub read : {f o : ℕ} {out out' : List ℕ} → ReadResult house board f o out r out' →
        ImageReadResult image f o out (to_z w64 (of_z w64 s)) out'
    unfolding image_read
    read {f} {o} {out} e = record {
      answer = to_z-of_z fits ∙ es ∙ ap signed (rw c at e.answer ∙ sym (read_answer_law image f o out));
      buffer = rw c at e.buffer ∙ sym (read_buffer_law image f o out);
    }
