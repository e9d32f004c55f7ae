-- One word of a file's inode or tree stored on a board that shows what an accepted one shows: the file becomes something else, and nothing else does.
use mathlib.Core.Path.{◌≡◌, sym, ap, ◌∙◌}
use mathlib.Core.Logic.{inl, inr}
use mathlib.Core.List.{List}
use Prim.Native.Nat.{ℕ, ◌+◌, ◌/◌, ◌≤◌, ◌<◌}
use native.Mathlib.Omega.{arith}
use lib.ListN.{length, length-set, set}
use Rattle.model.specs.Lists.{one, occ}
use Rattle.model.specs.Layout.{Layout}
use Rattle.model.specs.Board.{trailer, inode_pointer, leaf, size_address, live_blocks}
use Rattle.model.proofs.Shown.{Same, words_pos, leaf_of, same_accepted, same_address, same_blocks, trailer_kept, inode_kept, leaf_kept, leaf_sound_kept, spare_sound_kept}
use Rattle.model.proofs.Accepting.{accepted_parts, FileOn}
use Rattle.model.proofs.Commits.{FileCommit, OneFile, Outcome, one_file, one_file_counts, others_from}
use Rattle.model.proofs.Apart.{Spot, spot_trailer, spot_pointer, spot_others}

module _ {g : Layout} {b c : List ℕ} {f : ℕ} (on : FileOn g b f) (same : Same g b c) where
  open on use {fit, board, file}

  -- the file on a board that shows the same
  pub on_same : FileOn g c f
  on_same = record { fit = fit; board = rw (← (same_accepted g fit b c same)) board; file = file }

  pub spot_same : (a : ℕ) → Spot g b f a → Spot g c f a
  unfolding size_address
  spot_same a (inl (inl e)) = inl (inl (e ∙ same_address g fit b c same f (leaf_of g fit f file)))
  spot_same a (inl (inr e)) = inl (inr (e ∙ ap (λ (x : ℕ). x + 1) (same_address g fit b c same f (leaf_of g fit f file))))
  spot_same a (inr z) = inr (rw (← (same_blocks g fit b c same f file)) z)

  module _ (a v : ℕ) (s : Spot g c f a) where
    abbrev b₂ : List ℕ
    b₂ = set c a v

    len : length b ≡ length b₂
    len = same.lengths ∙ sym (length-set c a v)

    trailers : (j : ℕ) → j < g.words → trailer g b j ≡ trailer g b₂ j
    trailers j l = same.trailers j l ∙ spot_trailer on_same a v s j l

    pointers : (l : ℕ) → l < g.words → inode_pointer g b l ≡ inode_pointer g b₂ l
    pointers l u = same.pointers l u ∙ spot_pointer on_same a v s l u

    module _ {wanted : List ℕ} {extra gone : ℕ → ℕ} (done : FileCommit g b b₂ f wanted extra gone) (spare : (q : ℕ) → occ q (live_blocks g b) + extra q ≤ 1) where
      one_word : OneFile g b b₂ f wanted (λ q. 0) (λ q. 0) extra gone
      one_word =
          let parts = accepted_parts g b board in
          let stays : (l : ℕ) → l < g.leaves → leaf g b l ≡ leaf g b₂ l = λ l u. leaf_kept g b b₂ len l (pointers l (omega (arith, fit.leaves_fit))) in
          record {
            lengths = len;
            trailers = rw (← (trailer_kept g b b₂ len fit trailers)) parts.trailers;
            inode = inode_kept g b b₂ len fit trailers;
            leaves = λ l u. rw (← (leaf_sound_kept g b b₂ len l (pointers l (omega (arith, fit.leaves_fit))))) (parts.leaves l u);
            spares = λ j u. rw (← (spare_sound_kept g b b₂ len j (pointers (g.leaves + j) (omega arith)))) (parts.spares j u);
            leaves_stay = λ l u d. stays l u;
            leaf_moved = λ q. omega (arith, ap (one q) (stays (f / g.inodes) (leaf_of g fit f file)));
            others = others_from (words_pos g fit) same (spot_others on_same a v s);
            file = done;
            spare = λ q. omega (arith, spare q);
          }

      pub spot_commit : Outcome g b b₂ f wanted
      spot_commit = one_file on one_word

      -- the live blocks are those of b and the extra ones, less those that are gone
      pub spot_counts : (q : ℕ) → occ q (live_blocks g b₂) + gone q ≡ occ q (live_blocks g b) + extra q
      spot_counts q = omega (arith, one_file_counts on one_word q)
