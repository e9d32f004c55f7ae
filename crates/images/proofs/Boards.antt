-- The board of an image answers what the image is to answer.
use mathlib.Core.Path.{◌≡◌, refl, ap}
use mathlib.Core.Logic.{◌⊎◌, inl, inr}
use mathlib.Core.Bool.{Bool, true, false, not, and-false}
use mathlib.Core.List.{List, [], ◌∷◌, ◌++◌}
use Prim.Native.Nat.{ℕ, ◌+◌, ◌*◌, ◌/◌, ◌%◌, ◌≤◌, ◌<◌}
use native.Mathlib.Omega.{arith}
use lib.ListN.{length, get_or, drop, length-append}
use lib.Seq.{take_at}
use lib.Dec.{leb, eqb}
use borrow.Author.Tests.{leb-false, eqb-true, lt-leb, le-leb, eq-eqb, ne_eqb}
use Rattle.model.specs.declared.Fault.TheVariants.{WordCount, Trailer, Damaged, FileNumber}
use Rattle.std.specs.Prelude.{Err}
use Rattle.model.specs.Words.{word_of, words_of}
use Rattle.model.specs.Layout.{house, files}
use Rattle.model.specs.Board.{word_count_sound, trailer_sound, trees_sound}
use Rattle.model.specs.Answers.{Faults, answered}
use Rattle.model.specs.Calls.{word_count_fault, board_faults, file_faults, check_answer}
use Rattle.model.specs.Cabinet.{image_faults, image_check_answer}
use Rattle.model.proofs.Perform.{length_tabulate}
use Rattle.images.specs.Images.{board_of, Loaded}

module _ (image : List ℕ) where
  length_words : length (words_of image) ≡ length image / 8
  unfolding words_of
  length_words = length_tabulate (length image / 8) (λ w. word_of 8 (λ i. get_or image (8 * w + i) 0))

  -- the ways out of `load_words`
  pub part_of_word : {words : List ℕ} → (length image % 8 ≡ 0 → ⊥) → Loaded image 0 words
  unfolding board_of
  part_of_word h = record { within = omega arith; board = rw (ne_eqb (length image % 8) 0 h) }

  pub too_long : {words : List ℕ} → 65536 < length image → Loaded image 0 words
  unfolding board_of
  too_long h = record { within = omega arith; board = rw (lt-leb (length image) 65536 h, and-false) }

  pub decoded : (old : List ℕ) {words : List ℕ} → length image % 8 ≡ 0 → length image ≤ 65536 →
      words ≡ words_of image ++ drop (length image / 8) old → Loaded image (length image / 8) words
  unfolding board_of
  decoded old e h w = record {
    within = omega (arith, length_words, ap length w, length-append (words_of image) (drop (length image / 8) old));
    board = rw (w, eq-eqb (length image % 8) 0 e, le-leb (length image) 65536 h)
        (take_at (words_of image) (drop (length image / 8) old) (length image / 8) length_words);
  }

  -- An image is read as its words, where its byte count is not refused; or as no words, where it is refused for its byte count or for its word count.
  abbrev Whole : Type 0
  Whole = (board_of image ≡ words_of image) × ((rest : Faults) (n : ℕ) → answered (image_faults image ++ rest) n ≡ answered rest n)

  abbrev None : Type 0
  None = (board_of image ≡ [])
      × ((rest : Faults) (n : ℕ) → answered (image_faults image ++ (word_count_fault house (words_of image) ++ rest)) n ≡ Err WordCount)

  long : length image % 8 ≡ 0 → 65536 < length image → word_count_sound house (words_of image) ≡ false
  unfolding word_count_sound
  long e h =
      let l : 8192 < length (words_of image) = omega (arith, length_words) in
      rw (lt-leb (length (words_of image)) 8192 l, and-false)

  pub read_as : Whole ⊎ None
  unfolding board_of image_faults word_count_fault answered
  read_as = by (eqb (length image % 8) 0) refl (leb (length image) 65536) refl
    where
      by : (s : Bool) → eqb (length image % 8) 0 ≡ s → (t : Bool) → leb (length image) 65536 ≡ t → Whole ⊎ None
      by false d t e = inr (rw d, λ rest n. rw d)
      by true d false e = inr (rw (d, e), λ rest n. rw (d, long (eqb-true (length image % 8) 0 d) (leb-false (length image) 65536 e)))
      by true d true e = inl (rw (d, e), λ rest n. rw d)

  -- so the answer is that of the board
  image_answer : (rest : List ℕ → Faults) (n : List ℕ → ℕ) →
      answered (image_faults image ++ (word_count_fault house (words_of image) ++ rest (words_of image))) (n (words_of image))
      ≡ answered (word_count_fault house (board_of image) ++ rest (board_of image)) (n (board_of image))
  unfolding word_count_fault word_count_sound answered
  image_answer rest n = elim read_as [
    | inl w ↦ rw w.0 (w.1 (word_count_fault house (words_of image) ++ rest (words_of image)) (n (words_of image)))
    | inr w ↦ rw w.0 (w.1 (rest (words_of image)) (n (words_of image)))
  ]

  pub check_answer_law : image_check_answer house image ≡ check_answer house (board_of image)
  unfolding image_check_answer check_answer board_faults
  check_answer_law = image_answer (λ b. (Trailer, not (trailer_sound house b)) ∷ (Damaged, not (trees_sound house b)) ∷ []) (λ b. 0)

  pub file_answer : (f : ℕ) (n : List ℕ → ℕ) →
      answered (image_faults image ++ file_faults house (words_of image) f) (n (words_of image)) ≡ answered (file_faults house (board_of image) f) (n (board_of image))
  unfolding file_faults board_faults word_count_fault
  file_answer f n =
      image_answer (λ b. (Trailer, not (trailer_sound house b)) ∷ (Damaged, not (trees_sound house b)) ∷ (FileNumber, leb (files house) f) ∷ []) n
