-- The ways out of the calls that begin with a check.
use Rattle.std.specs.Prelude.{Ok, Err}
use mathlib.Core.Path.{◌≡◌, sym, ap, ◌∙◌}
use mathlib.Core.Logic.{inl, inr}
use mathlib.Core.List.{List}
use Prim.Native.Nat.{ℕ, ◌+◌, ◌-◌, ◌≤◌, ◌<◌, min}
use native.Mathlib.Omega.{arith}
use lib.ListN.{length, take, drop}
use Rattle.model.specs.declared.Fault.{Fault}
use Rattle.model.specs.Lists.{tabulate, pick_from}
use Rattle.model.specs.Layout.{Layout}
use Rattle.model.specs.Tree.{span}
use Rattle.model.specs.Board.{block_count, root, size, file_walk, contents, free}
use Rattle.model.specs.Answers.{answered, unless_refused, Answer}
use Rattle.model.specs.Calls.{board_faults, file_faults, check_answer, free_count_answer, read_count, read_answer, read_buffer}
use Rattle.model.proofs.Cases.{split}
use Rattle.model.proofs.Walks.{tabulate_part}
use Rattle.model.proofs.Refusals.{same_refused, same_done}
use Rattle.surveying.specs.Survey.{spare, Surveyed}
use Rattle.surveying.proofs.Surveying.{free_spare}
use Rattle.files.specs.Filling.{file_byte, FillResult}
use Rattle.reading.specs.Results.{ReadResult}

-- the number of free blocks
module _ {g : Layout} {b m : List ℕ} {r : Answer} (s : Surveyed g b r m) where
  pub count_refused : {f : Fault} → r ≡ Err f → r ≡ free_count_answer g b
  unfolding free_count_answer check_answer
  count_refused z = sym (same_refused (board_faults g b) 0 (length (free g b)) s.answer z)

  pub count_free : 0 < g.words → g.most ≤ 1024 → {v u top : ℕ} → r ≡ Ok v → top ≡ block_count g b - 1 → u ≡ length (pick_from 1 (top - 1) (spare m)) → Ok u ≡ free_count_answer g b
  unfolding free_count_answer check_answer
  count_free pos few {v} {u} {top} z et eu =
      let e : top - 1 ≡ block_count g b - 2 = omega arith in
      ap Ok (eu ∙ rw e (ap length (free_spare pos few v s z))) ∙ sym (same_done (board_faults g b) 0 (length (free g b)) s.answer z)

-- the bytes of a read are a part of the contents
contents_part : (g : Layout) (b : List ℕ) (f o c : ℕ) → c ≤ size g b f - o → take c (drop o (contents g b f)) ≡ tabulate c (λ d. file_byte g.words b (root g b f) (size g b f) (o + d))
unfolding contents file_walk span tabulate
contents_part g b f o c l = elim (split (o + c) (size g b f)) [
  | inl u ↦ tabulate_part c o (size g b f) (file_byte g.words b (root g b f) (size g b f)) u
  | inr u ↦ let z : c ≡ 0 = omega arith in rw z
]

-- a read
module _ {g : Layout} {b : List ℕ} {f o : ℕ} {out : List ℕ} where
  turned : {x : Fault} → Err x ≡ read_answer g b f o out → ReadResult g b f o out (Err x) out
  unfolding read_buffer unless_refused
  turned e = record { answer = e; buffer = rw (← e) }

  module _ {r : Answer} (e : r ≡ answered (file_faults g b f) 0) where
    pub read_refused : {x : Fault} → r ≡ Err x → ReadResult g b f o out r out
    unfolding read_answer
    read_refused {x} z = rw z (turned (sym (same_refused (file_faults g b f) 0 (read_count g b f o out) e z ∙ z)))

    pub read_bytes : {v p n c : ℕ} {out' : List ℕ} → r ≡ Ok v → p ≡ root g b f → n ≡ size g b f → FillResult g.words b p n o out c out' → ReadResult g b f o out (Ok c) out'
    unfolding read_answer read_buffer read_count unless_refused
    read_bytes {v} {p} {n} {c} {out'} z ep en q =
        let k : ℕ = min (length out) (size g b f - o) in
        let ec : c ≡ k = q.count ∙ rw en in
        let done = same_done (file_faults g b f) 0 k e z in
        record { answer = rw ec (sym done); buffer = q.bytes.is ∙ rw (done, ep, en, ec, contents_part g b f o k (omega arith)) }
