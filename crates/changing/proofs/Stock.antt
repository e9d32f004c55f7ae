-- What the table of the free blocks of a surveyed board holds.
use Rattle.model.specs.Answers.{Answer}
use Rattle.std.specs.Prelude.{Ok}
use mathlib.Core.Path.{◌≡◌, refl, sym, ap, ◌∙◌}
use mathlib.Core.Logic.{inl, inr}
use mathlib.Core.List.{List, [], ◌∷◌, ◌++◌}
use Prim.Native.Nat.{ℕ, zero, suc, ◌+◌, ◌-◌, ◌^◌, ◌≤◌, ◌<◌}
use native.Mathlib.Omega.{arith}
use lib.ListN.{length, get_or, drop, replicate, get_or-eq_default}
use lib.Seq.{get_or-drop}
use lib.Dec.{lit<}
use Rattle.model.specs.Lists.{pick_from}
use Rattle.model.specs.Layout.{Kind}
use Rattle.model.specs.Layout.{layout_of}
use Rattle.model.specs.Board.{greatest, block_count, free}
use Rattle.model.specs.Calls.{lowest}
use Rattle.model.proofs.Cases.{split}
use Rattle.model.proofs.Tailed.{Zeros, zeros_replicate}
use Rattle.model.proofs.Census.{free_at}
use Rattle.surveying.specs.Survey.{spare, Surveyed, Listed}
use Rattle.surveying.proofs.Surveying.{short, sound, free_spare}
use Rattle.kinds.proofs.Figures.{words_pos, few_blocks as figure}
use Rattle.plans.specs.Onto.{taking}
use Rattle.planning.specs.Asked.{File}
use Rattle.changing.specs.Stock.{Stocked}

-- past a list's end zeros are as good as nothing
then_zeros : (xs ys : List ℕ) (i : ℕ) → Zeros ys → get_or (xs ++ ys) i 0 ≡ get_or xs i 0
then_zeros [] ys i z = z i
then_zeros (x ∷ xs) ys zero z = refl
then_zeros (x ∷ xs) ys (suc i) z = then_zeros xs ys i z

zeros_after : (m n : ℕ) → Zeros (drop n (replicate m 0))
zeros_after m n i = get_or-drop n (replicate m 0) i 0 ∙ zeros_replicate m (n + i)

module _ (kind : Kind) {b m : List ℕ} {r : Answer} {v top : ℕ} (s : Surveyed (layout_of kind) b r m) (z : r ≡ Ok v) (et : top ≡ block_count (layout_of kind) b - 1) where
  -- the board has at most 1,024 blocks
  pub few : top ≤ 1024
  few = rw et (short (layout_of kind) (words_pos kind) (figure kind) b (sound (layout_of kind) b v (sym s.answer ∙ z)).words)

  module _ {count : ℕ} {table : List ℕ} (k : Listed m top (replicate 1024 0) count table) where
    all_listed : pick_from 1 (top - 1) (spare m) ≡ free (layout_of kind) b
    all_listed = let e : top - 1 ≡ block_count (layout_of kind) b - 2 = omega arith in rw e (free_spare (words_pos kind) (figure kind) v s z)

    -- the table has the free blocks in order
    in_order : (i : ℕ) → taking table i ≡ lowest (layout_of kind) b i
    unfolding taking lowest
    in_order i = rw (k.is, all_listed) (then_zeros (free (layout_of kind) b) (drop count (replicate 1024 0)) i (zeros_after 1024 count))

    small : (i : ℕ) → lowest (layout_of kind) b i < 2 ^ 54
    unfolding lowest
    small i = elim (split (length (free (layout_of kind) b)) i) [
      | inl past ↦ rw (get_or-eq_default (free (layout_of kind) b) 0 past) (lit< tt)
      | inr l ↦ omega (arith, (free_at (layout_of kind) b i l).1, few)
    ]

    pub stocked : {f o : ℕ} {new : List ℕ} → File kind b f → 0 < length new → o + length new ≤ greatest (layout_of kind) → Stocked kind b f o new table count
    stocked file some end = record {
      asked = record { of = file; some = some; end = end; blocks = record { small = λ i. rw (in_order i) (small i) } };
      lists = in_order;
      all = k.count ∙ ap length all_listed;
    }
