-- The ways of planning that change a file in one word of its tree: single word, and shadow inside the file.
use Rattle.std.specs.Prelude.{Some}
use mathlib.Core.Path.{◌≡◌, refl, sym, ap, ◌∙◌}
use mathlib.Core.Logic.{◌≢◌, ◌⊎◌, inl, inr}
use mathlib.Core.List.{List, []}
use Prim.Native.Nat.{ℕ, ◌+◌, ◌-◌, ◌*◌, ◌/◌, ◌%◌, ◌≤◌, ◌<◌}
use native.Mathlib.Omega.{arith}
use native.Mathlib.Nat.{add-zero, mod-lt, mod-eq_of_lt, mul-add-mod_self_left}
use lib.ListN.{length, get_or, set, length-set}
use lib.Seq.{get_or-set_same, get_or-set_other}
use borrow.Author.Tests.{lt-ltb}
use Rattle.model.specs.Lists.{occ}
use Rattle.model.specs.Layout.{Layout}
use Rattle.model.specs.Tree.{span, cell, walk}
use Rattle.model.specs.Board.{root_walk, root_blocks, block_count, root_address, size_address, root_height, root_block, root, size, file_walk, file_blocks, live_blocks}
use Rattle.model.specs.Store.{Store, store, performed}
use Rattle.model.specs.Plan.{step}
use Rattle.model.specs.Fresh.{stored}
use Rattle.model.specs.Change.{spliced_word, Shadow, descend}
use Rattle.model.specs.GivenUp.{inside_blocks}
use Rattle.model.proofs.Cases.{decide}
use Rattle.model.proofs.Perform.{All, address_block}
use Rattle.model.proofs.Splice.{past_span}
use Rattle.model.proofs.Built.{used}
use Rattle.model.proofs.Descent.{Replaced, walk_inside, word_changed, Committed, descend_inside, descend_low, descend_changed, word_in_block}
use Rattle.model.proofs.Shown.{Same, words_pos, leaf_of, file_live, same_address, root_block_law}
use Rattle.model.proofs.Accepting.{FileOn, Facts, facts, address_on_board}
use Rattle.model.proofs.Visible.{same_refl}
use Rattle.model.proofs.Commits.{FileCommit, Written, spliced, written_commit}
use Rattle.model.proofs.Apart.{Spot, spot_ranged, spot_live, spot_root, spot_size, stored_root, leaf_not_file, tree_not_inode_of}
use Rattle.model.proofs.SpotCommits.{on_same, spot_same, spot_commit, spot_counts}
use Rattle.model.proofs.Supplied.{Supply, supply_once, stored_keeps}
use Rattle.model.proofs.Steps.{committed}
use Rattle.model.proofs.Writing.{Writing}
use Rattle.model.proofs.GoodSteps.{GoodTurn, pages_hidden, pages_once, pages_same, pages_held}

module _ {g : Layout} {b : List ℕ} {f o : ℕ} {new : List ℕ} (w : Writing g b f o new) (some : 0 < length new)
    (within : o + length new ≤ size g b f) (under : o + length new ≤ span g.words (root_height g b f)) where
  open w use {on}
  open on use {fit, board, file}

  ok : Facts g b
  ok = facts g fit b board

  pos : 0 < g.words
  pos = words_pos g fit

  tree_once : (q : ℕ) → occ q (file_blocks g b f) ≤ 1
  tree_once q = omega (arith, ok.once q, file_live g b f q file)

  -- ---- Single word

  module _ (K : ℕ) (there : file_walk g b f o ≡ Some K) (word : o / 8 ≡ (o + length new - 1) / 8) where
    abbrev a : ℕ
    a = g.words * K + o % span g.words 0 / 8

    abbrev v : ℕ
    v = spliced_word (o % 8) new (get_or b a 0)

    abbrev b₂ : List ℕ
    b₂ = set b a v

    walked : walk g.words b (root_height g b f) (root_block g b f) (size g b f) o ≡ Some K
    unfolding file_walk root_walk
    walked = rw (lt-ltb o (span g.words (root_height g b f)) (omega arith)) at there

    block_of : a / g.words ≡ K
    block_of = address_block g.words K (o % span g.words 0 / 8) (word_in_block g.words pos o)

    in_tree : 0 < occ (a / g.words) (file_blocks g b f)
    unfolding file_blocks root_blocks
    in_tree = rw block_of (walk_inside g.words b pos (root_height g b f) (root_block g b f) (size g b f) o K (omega arith) walked)

    same : Same g b b
    same = same_refl g fit b

    spot : Spot g b f a
    spot = inr in_tree

    root_stays : root g b f ≡ root g b₂ f
    root_stays = spot_root on a v spot f file (λ x. tree_not_inode_of on a in_tree f 0 file (omega arith) (add-zero (root_address g b f) ∙ x))

    size_stays : size g b f ≡ size g b₂ f
    unfolding size_address
    size_stays = spot_size on a v spot f file (tree_not_inode_of on a in_tree f 1 file (omega arith))

    on_board : a < length b
    on_board = address_on_board g fit b ok.sizes a (omega (arith, (spot_ranged on a spot).1))

    replaced : Replaced g.words b b₂ a (root_height g b f) (root_block g b f) (size g b f)
    unfolding file_blocks root_blocks cell
    replaced = record { once = tree_once; same = λ q l i u d. sym (get_or-set_other b a (g.words * q + i) v 0 d) }

    written : Written g b b₂ f (root_height g b f) (root_block g b f) o (size g b f) new (λ q. 0) (λ q. 0)
    written = record {
      old = λ live. (refl, refl);
      height = ap (λ (x : ℕ). x % g.words) (sym root_stays);
      now = sym size_stays;
      low = ok.low f file (omega arith);
      most = ok.most f file;
      past = past_span o new (span g.words (root_height g b f)) (size g b f) under;
      change = rw (← root_stays)
          (word_changed g.words pos b b₂ new w.small (block_count g b - 1) (root_height g b f) (root_block g b f) (size g b f) o K walked (omega arith) word replaced (get_or-set_same b a v 0 on_board));
    }

    pub single_live : 0 < occ (a / g.words) (live_blocks g b)
    single_live = spot_live on a spot

    single_file : FileCommit g b b₂ f (spliced g b f o new (size g b f)) (λ q. 0) (λ q. 0)
    single_file = written_commit fit (sym (length-set b a v)) written (ok.pointers.tree f file)

    pub single_good : GoodTurn g b f (step [] a v) (spliced g b f o new (size g b f)) (λ q. 0) (λ q. 0)
    unfolding step store committed performed All occ
    single_good = record {
      good = record {
        hides = tt;
        once = λ x. omega arith;
        within = spot_ranged on a spot;
        outcome = spot_commit on same a v spot single_file (λ q. omega (arith, ok.once q));
      };
      lives = spot_counts on same a v spot single_file (λ q. omega (arith, ok.once q));
    }

  -- ---- Shadow inside the file

  module _ {fresh : ℕ → ℕ} {c lim : ℕ} (supply : Supply g b fresh c lim) where
    abbrev sh : Shadow
    sh = descend g.words fresh b (root_height g b f) (root_block g b f) (size g b f) o new c (root_address g b f)

    abbrev low : ℕ
    low = get_or b sh.at 0 % g.words

    abbrev top : ℕ
    top = fresh (c + length sh.pages - 1)

    module _ (room : c + length sh.pages ≤ lim) where
      abbrev ss : List Store
      ss = stored g.words fresh sh.pages c

      c₁ : List ℕ
      c₁ = performed b ss

      shown_same : Same g b c₁
      unfolding c₁
      shown_same = pages_same fit board supply sh.pages room

      -- the file there
      on₁ : FileOn g c₁ f
      on₁ = on_same on shown_same

      value : ℕ
      value = g.words * top + low

      -- the board with the commit
      done : List ℕ
      done = set c₁ sh.at value

      place : (sh.at ≡ root_address g b f) ⊎ (0 < occ (sh.at / g.words) (file_blocks g b f))
      unfolding file_blocks root_blocks
      place = descend_inside g.words pos fresh b new c (root_height g b f) (root_block g b f) (size g b f) o (root_address g b f) (omega arith) (omega arith)

      lent_spot : Spot g b f sh.at
      lent_spot = elim place [ inl e ↦ inl (inl e) | inr z ↦ inr z ]

      pub inside_live : 0 < occ (sh.at / g.words) (live_blocks g b)
      inside_live = spot_live on sh.at lent_spot

      commit_spot : Spot g c₁ f sh.at
      commit_spot = spot_same on shown_same sh.at lent_spot

      address_same : root_address g b f ≡ root_address g c₁ f
      address_same = same_address g fit b c₁ shown_same f (leaf_of g fit f file)

      committed_block : value / g.words ≡ top
      unfolding value
      committed_block = address_block g.words top low (mod-lt (get_or b sh.at 0) pos)

      committed_low : value % g.words ≡ low
      unfolding value
      committed_low = mul-add-mod_self_left g.words top low ∙ mod-eq_of_lt (mod-lt (get_or b sh.at 0) pos)

      commits : get_or done sh.at 0 ≡ value
      unfolding done
      commits = get_or-set_same c₁ sh.at value 0 (rw (← shown_same.lengths) (address_on_board g fit b ok.sizes sh.at (omega (arith, (spot_ranged on sh.at lent_spot).1))))

      words_stay : (q : ℕ) → 0 < occ q (file_blocks g b f) → (j : ℕ) → j < g.words → g.words * q + j ≢ sh.at → cell g.words b q j ≡ cell g.words done q j
      unfolding done c₁ cell
      words_stay q live j l d = stored_keeps supply sh.pages room q (omega (arith, file_live g b f q file)) j l ∙ sym (get_or-set_other c₁ sh.at (g.words * q + j) value 0 d)

      root_hit : sh.at ≡ root_address g b f → root g done f ≡ value
      unfolding done
      root_hit e = stored_root on₁ sh.at value commit_spot (e ∙ address_same)

      root_else : sh.at ≢ root_address g b f → root g b f ≡ root g done f
      unfolding done
      root_else d = shown_same.roots f file (omega arith) ∙ spot_root on₁ sh.at value commit_spot f file (λ e. d (sym e ∙ sym address_same))

      len : length b ≡ length done
      unfolding done
      len = shown_same.lengths ∙ sym (length-set c₁ sh.at value)

      not_size : size_address g b f ≢ sh.at
      unfolding size_address
      not_size x = elim place [
        | inl e ↦ omega (arith, x, e)
        | inr z ↦ tree_not_inode_of on sh.at z f 1 file (omega arith) x
      ]

      size_kept : size g b f ≡ size g done f
      unfolding done size_address
      size_kept = shown_same.sizes f file ∙ spot_size on₁ sh.at value commit_spot f file (λ x. not_size (ap (λ (y : ℕ). y + 1) address_same ∙ x))

      root_low : root_height g done f ≡ root_height g b f
      unfolding root
      root_low = elim (decide sh.at (root_address g b f)) [
        | inl e ↦ ap (λ (x : ℕ). x % g.words) (root_hit e) ∙ committed_low ∙ ap (λ (x : ℕ). get_or b x 0 % g.words) e
        | inr d ↦ ap (λ (x : ℕ). x % g.words) (sym (root_else d))
      ]

      low_zero : sh.at ≢ root_address g b f → low ≡ 0
      low_zero d = elim (descend_low g.words pos fresh b new c (block_count g b - 1) (root_height g b f) (root_block g b f) (size g b f) o (root_address g b f) (omega arith) (omega arith) (ok.pointers.tree f file)) [
        | inl e ↦ absurd (d e)
        | inr z ↦ z
      ]

      ready : Committed g.words fresh b done c lim (length new) sh (root_height g b f) (root_block g b f) (size g b f) o (root_address g b f)
      unfolding file_blocks root_blocks done c₁
      ready = record {
        replaced = record { once = tree_once; same = words_stay };
        within = omega arith;
        under = omega arith;
        outside = rw (root_block_law g fit b f) (leaf_not_file g b ok.once (f / g.inodes) f (leaf_of g fit f file) file);
        holds = pages_held fit board supply sh.pages room sh.at value inside_live;
        room = room;
        value = ap (λ (x : ℕ). x / g.words) commits ∙ committed_block;
        low = λ d. ap (λ (x : ℕ). x % g.words) commits ∙ committed_low ∙ low_zero d;
      }

      -- the blocks under the commit that are written anew
      abbrev given : List ℕ
      given = inside_blocks g.words b (root_height g b f) (root_block g b f) (size g b f) o (length new)

      inside_written : Written g b done f (root_height g b f) (root_block g b f) o (size g b f) new (λ q. used fresh q c (length sh.pages)) (λ q. occ q given)
      inside_written = record {
        old = λ live. (refl, refl);
        height = root_low;
        now = sym size_kept;
        low = ok.low f file (omega arith);
        most = ok.most f file;
        past = past_span o new (span g.words (root_height g b f)) (size g b f) under;
        change = descend_changed g.words pos b done new some w.small supply.between c
            (root_height g b f) (root_block g b f) (size g b f) o (root_address g b f) ready (root_block g done f)
            (λ e. ap (λ (x : ℕ). x / g.words) (root_hit e ∙ sym commits ∙ ap (λ (x : ℕ). get_or done x 0) e)) (λ d. ap (λ (x : ℕ). x / g.words) (sym (root_else d)));
      }

      inside_file : FileCommit g b done f (spliced g b f o new (size g b f)) (λ q. used fresh q c (length sh.pages)) (λ q. occ q given)
      inside_file = written_commit fit len inside_written (ok.pointers.tree f file)

      pub inside_good : GoodTurn g b f (step ss sh.at (g.words * top + low)) (spliced g b f o new (size g b f)) (λ q. used fresh q c (length sh.pages)) (λ q. occ q given)
      unfolding step store committed done c₁ value
      inside_good =
          let once : (q : ℕ) → occ q (live_blocks g b) + used fresh q c (length sh.pages) ≤ 1 = supply_once supply ok.once (length sh.pages) room in
          record {
            good = record {
              hides = pages_hidden fit board supply sh.pages room;
              once = pages_once fit board supply sh.pages room;
              within = spot_ranged on sh.at lent_spot;
              outcome = spot_commit on shown_same sh.at value commit_spot inside_file once;
            };
            lives = spot_counts on shown_same sh.at value commit_spot inside_file once;
          }
