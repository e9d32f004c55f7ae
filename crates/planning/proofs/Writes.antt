-- A write: a single word, or growth and what follows it. The lent board decides which.
use Rattle.std.specs.Prelude.{Option, Some, None}
use mathlib.Core.Path.{◌≡◌, refl, sym, ◌∙◌}
use mathlib.Core.Logic.{◌≢◌, inl, inr}
use mathlib.Core.Bool.{and-false}
use mathlib.Core.List.{List, [], ◌∷◌}
use Prim.Native.Nat.{ℕ, ◌+◌, ◌-◌, ◌/◌, ◌%◌, ◌^◌, ◌≤◌, ◌<◌}
use native.Mathlib.Omega.{arith}
use lib.ListN.{length}
use borrow.Author.Tests.{le-leb, lt-leb, eq-eqb, ne_eqb, lt-ltb, le-ltb}
use Rattle.model.specs.declared.Inode.{Inode}
use Rattle.model.specs.Layout.{Kind}
use Rattle.model.specs.Layout.{Layout, layout_of}
use Rattle.model.specs.Tree.{span}
use Rattle.model.specs.Board.{root_walk, root, size, file_walk, root_blocks, file_blocks, word_count_sound}
use Rattle.model.specs.Change.{single_block, single_word, grown_plan, some_plan, write_plan}
use Rattle.model.proofs.Cases.{split, is_true}
use Rattle.model.proofs.Descent.{hole≢block, walk_inside}
use Rattle.model.proofs.Accepting.{accepted_parts, facts}
use Rattle.model.proofs.Ranges.{file_range}
use Rattle.model.proofs.Formatted.{fits}
use Rattle.kinds.proofs.Figures.{words_pos, few_blocks as few, files_32}
use Rattle.surveying.proofs.Surveying.{short}
use Rattle.plans.specs.Onto.{taking}
use Rattle.plans.specs.declared.Count.{Count}
use Rattle.boards.specs.Inodes.{InodeOf}
use Rattle.plans.specs.Laying.{PlanLaid}
use Rattle.planning.specs.Asked.{File, Growable, Asked}

-- ---- Whether a single word is written

-- not where the bytes are in two
pub two_words : (g : Layout) (b : List ℕ) (f o e : ℕ) → o / 8 ≢ (e - 1) / 8 → single_block g b f o e ≡ None
unfolding single_block
two_words g b f o e d = rw (ne_eqb (o / 8) ((e - 1) / 8) d, and-false)

module _ {g : Layout} {b : List ℕ} {f : ℕ} {n : Inode} (i : InodeOf g b f n) (o e : ℕ) where
  -- nor past the size
  pub past_size : n.size < e → single_block g b f o e ≡ None
  unfolding single_block
  past_size l = rw (lt-leb e (size g b f) (rw i.is at l))

  -- else where its block exists
  pub one_word : {w v : Option ℕ} → e ≤ n.size → o / 8 ≡ (e - 1) / 8 → w ≡ root_walk g.words b n.root n.size o → w ≡ v → single_block g b f o e ≡ v
  unfolding single_block file_walk
  one_word l word ew ev = rw (le-leb e (size g b f) (rw i.is at l), eq-eqb (o / 8) ((e - 1) / 8) word, ← ev, ew, i.is)

-- the block where the walk ends is on the board
pub block_small : {kind : Kind} {b : List ℕ} {f k : ℕ} {n : Inode} {w : Option ℕ} (o : ℕ) → File kind b f → InodeOf (layout_of kind) b f n
    → w ≡ root_walk (layout_of kind).words b n.root n.size o → w ≡ Some k → k < 2 ^ 54
unfolding root_walk file_blocks root_blocks
block_small {kind} {b} {f} {k} o file i ew there =
    let g : Layout = layout_of kind in
    let W : ℕ = g.words in
    let ok = facts g (fits kind) b file.board in
    let r : ℕ = root g b f in
    let walked : root_walk W b r (size g b f) o ≡ Some k = rw i.is at (sym ew ∙ there) in
    elim (split (span W (r % W)) o) [
      | inl past ↦ absurd (hole≢block k (rw (le-ltb o (span W (r % W)) past) at walked))
      | inr l ↦
          let in-file = walk_inside W b (words_pos kind) (r % W) (r / W) (size g b f) o k l (rw (lt-ltb o (span W (r % W)) l) at walked) in
          omega (arith, (file_range g (fits kind) b ok f k (rw (files_32 kind) file.file) in-file).1, short g (words_pos kind) (few kind) b (is_true (word_count_sound g b) (accepted_parts g b file.board).words))
    ]

-- ---- The plan

write_is : (g : Layout) (fresh : ℕ → ℕ) (b : List ℕ) (f o : ℕ) (new : List ℕ) → 0 < length new
    → write_plan g fresh b f o new ≡ some_plan g fresh b f (single_block g b f o (o + length new)) o new
unfolding write_plan
write_is g fresh b f o [] l = absurd (omega arith)
write_is g fresh b f o (x ∷ new) l = refl

module _ {kind : Kind} {b : List ℕ} {f o : ℕ} {new table : List ℕ} (a : Asked kind b f o new table) where
  abbrev G : Layout
  G = layout_of kind

  -- on an accepted board growth may come first
  pub growable : {n : Inode} → InodeOf G b f n → Growable kind n o new table
  growable i =
      let ok = facts G (fits kind) b a.of.board in
      record { some = a.some; end = a.end; blocks = a.blocks; address = i.small; low = rw i.is (ok.low f (rw (files_32 kind) a.of.file)) }

  pub as_grown : {slice slice' : List ℕ} {r : Count} {n : Inode} → InodeOf G b f n → single_block G b f o (o + length new) ≡ None
      → PlanLaid slice 0 (grown_plan G (taking table) b n o new) slice' r → PlanLaid slice 0 (write_plan G (taking table) b f o new) slice' r
  unfolding some_plan
  as_grown i hole w = rw (write_is G (taking table) b f o new a.some, hole) (rw i.is at w)

  pub as_single : {slice slice' : List ℕ} {r : Count} {k : ℕ} → single_block G b f o (o + length new) ≡ Some k → PlanLaid slice 0 (single_word G b k o new) slice' r
      → PlanLaid slice 0 (write_plan G (taking table) b f o new) slice' r
  unfolding some_plan
  as_single single w = rw (write_is G (taking table) b f o new a.some, single) w
