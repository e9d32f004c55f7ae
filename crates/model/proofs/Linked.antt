-- The walk to a byte as a call goes by links, in which null reads as zeros. On an accepted board none of them is null, so it is the walk by which a file
-- is read, and stays where that stays.
use Rattle.std.specs.Prelude.{None}
use mathlib.Core.Path.{◌≡◌, sym, ap, subst, ◌∙◌}
use mathlib.Core.Bool.{cond}
use mathlib.Core.List.{List}
use Prim.Native.Nat.{ℕ, ◌+◌, ◌-◌, ◌*◌, ◌/◌, ◌%◌, ◌<◌}
use native.Mathlib.Omega.{arith}
use native.Mathlib.Nat.{add-zero, add_assoc}
use lib.ListN.{get_or}
use lib.Dec.{T}
use borrow.Author.Tests.{lt-ltb}
use Rattle.model.specs.Layout.{Layout, Fits, files}
use Rattle.model.specs.Tree.{cell, link}
use Rattle.model.specs.Board.{root_walk, block_count, trailer, inode_block, inode_pointer, leaf, root_address, size_address, root, size, file_walk, linked_leaf, linked_word, walk_to, accepted}
use Rattle.model.specs.Claims.{Shows}
use Rattle.model.proofs.Agree.{link_cell}
use Rattle.model.proofs.Shown.{Same, words_pos, leaf_of, same_accepted, same_check, same_live, same_free, same_walk, same_contents}
use Rattle.model.proofs.Accepting.{FileOn, facts}

module _ {g : Layout} {b : List ℕ} {f : ℕ} (on : FileOn g b f) where
  abbrev W : ℕ
  W = g.words

  pos : 0 < W
  pos = words_pos g on.fit

  linked_leaf_law : linked_leaf g b f ≡ leaf g b (f / g.inodes)
  unfolding linked_leaf leaf inode_pointer inode_block trailer
  linked_leaf_law =
      let ok = facts g on.fit b on.board in
      let first : link W b (block_count g b - 1) 0 ≡ cell W b (block_count g b - 1) 0 = link_cell W pos b (block_count g b - 1) 0 (omega (arith, ok.sizes.blocks_least)) in
      rw first (ap (λ (x : ℕ). x / W) (link_cell W pos b (inode_block g b) (f / g.inodes) ok.pointers.inode.0))

  linked_word_law : (j : ℕ) → linked_word g b f j ≡ get_or b (root_address g b f + j) 0
  unfolding linked_word root_address cell
  linked_word_law j =
      let k : ℕ = leaf g b (f / g.inodes) in
      let there : 0 < k = ((facts g on.fit b on.board).pointers.leaf_in_law (f / g.inodes) (leaf_of g on.fit f on.file)).0 in
      rw (linked_leaf_law, link_cell W pos b k (2 * (f % g.inodes) + j) there) (ap (λ (x : ℕ). get_or b x 0) (sym (add_assoc (W * k) (2 * (f % g.inodes)) j)))

  -- its first two words are the file's root and size
  pub linked_root : linked_word g b f 0 ≡ root g b f
  unfolding root
  linked_root = linked_word_law 0 ∙ ap (λ (x : ℕ). get_or b x 0) (add-zero (root_address g b f))

  pub linked_size : linked_word g b f 1 ≡ size g b f
  unfolding size size_address
  linked_size = linked_word_law 1

  -- it is the walk by which the file is read
  pub walk_to_file : (i : ℕ) → walk_to g b f i ≡ file_walk g b f i
  unfolding walk_to file_walk
  walk_to_file i = λ t. cond (lt-ltb f (files g) on.file t) (root_walk W b (linked_root t) (linked_size t) i) None

-- so boards on which all that is visible is the same show the same
pub same_shows : (g : Layout) (fit : Fits g) (b b' : List ℕ) → T (accepted g b) → Same g b b' → Shows g b b'
same_shows g fit b b' t s =
    let at : (c : List ℕ) → T (accepted g c) → (f : ℕ) → f < files g → FileOn g c f = λ c u f l. record { fit = fit; board = u; file = l } in
    let now : T (accepted g b') = subst T (same_accepted g fit b b' s) t in
    record {
      boards = sym (same_accepted g fit b b' s);
      checks = sym (same_check g fit b b' s);
      lives = sym (same_live g fit b b' s);
      frees = sym (same_free g fit b b' s);
      walks = λ f l i. walk_to_file (at b' now f l) i ∙ sym (same_walk g fit b b' s f l i) ∙ sym (walk_to_file (at b t f l) i);
      reads = λ f l. sym (same_contents g fit b b' s f l);
    }
