-- Growth, the first step of a write that ends past its tree's span, is a good step: the file reads as before. On the board that it leaves the tree spans
-- the write, and the fresh blocks that it did not take are still not live.
use mathlib.Core.Path.{◌≡◌, refl, sym, ap, subst, ◌∙◌}
use mathlib.Core.Logic.{◌⊎◌, inl, inr}
use mathlib.Core.Bool.{true, false, and-false}
use mathlib.Core.List.{List, [], ◌∷◌, append-nil}
use Prim.Native.Nat.{ℕ, ◌+◌, ◌-◌, ◌/◌, ◌%◌, ◌≤◌, ◌<◌}
use native.Mathlib.Omega.{arith}
use native.Mathlib.Nat.{mod-eq_of_lt, mul-add-mod_self_left, zero-add}
use lib.ListN.{length, set, length-set}
use borrow.Author.Tests.{lt-ltb, le-ltb}
use Rattle.model.specs.Lists.{concat, occ}
use Rattle.model.specs.Layout.{Layout, files}
use Rattle.model.specs.Tree.{live, span, least}
use Rattle.model.specs.Board.{root_walk, root_blocks, greatest, block_count, inode_block, root_address, size_address, root_height, root_block, root, size, file_walk, contents, file_blocks, live_blocks, inode_of}
use Rattle.model.specs.Store.{Store, store, performed}
use Rattle.model.specs.Plan.{Step, step, plan, plan_epochs}
use Rattle.model.specs.Fresh.{Page, stored}
use Rattle.model.specs.Change.{levels, level_top, growing, grown_root, growth_to}
use Rattle.model.proofs.Cases.{split}
use Rattle.model.proofs.Spans.{span_mono, least_reaches, least_within, least_above}
use Rattle.model.proofs.Perform.{All, address_block}
use Rattle.model.proofs.Trees.{live_some}
use Rattle.model.proofs.Addresses.{used_none}
use Rattle.model.proofs.Agree.{agree, agree_away, agree_blocks, agree_trans}
use Rattle.model.proofs.Built.{held, used}
use Rattle.model.proofs.Levels.{Grown, grown}
use Rattle.model.proofs.Shown.{Same, words_pos, leaf_of, same_address, count_kept, inode_kept, root_block_law, leaf_live}
use Rattle.model.proofs.Accepting.{FileOn, accepted_parts, Facts, facts}
use Rattle.model.proofs.Commits.{FileCommit, grown_commit}
use Rattle.model.proofs.Apart.{Spot, leaf_not_file, spot_ranged, spot_live, spot_trailer, spot_address, spot_size, stored_root}
use Rattle.model.proofs.SpotCommits.{on_same, spot_same, spot_commit, spot_counts}
use Rattle.model.proofs.Supplied.{Supply, supply_once}
use Rattle.model.proofs.Steps.{committed, all_committed, performed_steps}
use Rattle.model.proofs.GoodSteps.{GoodStep, pages_hidden, pages_once, pages_same, pages_held}
use Rattle.model.proofs.StepBlocks.{Takes}
use Rattle.model.proofs.Writing.{Writing, Spanned, Growing}

-- ---- The plan

module _ (g : Layout) (fresh : ℕ → ℕ) (b : List ℕ) (f h : ℕ) where
  -- the pages of the levels
  abbrev pub growth_pages : List Page
  growth_pages = levels g.words fresh (root_block g b f) (h - root_height g b f)

  -- growth to height h is one step
  abbrev pub growth_step : Step
  growth_step = step (stored g.words fresh growth_pages 0) (root_address g b f) (grown_root g fresh (inode_of g b f) h)

  -- and the board with its stores performed is the one with the step committed
  pub growth_performed : performed b (concat (plan_epochs (growth_to g fresh (inode_of g b f) h).steps)) ≡ committed b growth_step
  unfolding growth_to plan all_committed
  growth_performed = performed_steps b (growth_step ∷ [])

-- *If s > 0 and e exceeds the span*, and only then
pub growing_more : {g : Layout} {b : List ℕ} {f e : ℕ} → Growing g b f e → growing g (inode_of g b f) e ≡ true
growing_more {g} {b} {f} {e} w = rw (live_some (size g b f) w.live, lt-ltb (span g.words (root_height g b f)) e w.more)

module _ {g : Layout} {b : List ℕ} {f o : ℕ} {new : List ℕ} (w : Writing g b f o new) where
  abbrev e : ℕ
  e = o + length new

  growing_empty : size g b f ≡ 0 → growing g (inode_of g b f) e ≡ false
  unfolding live
  growing_empty z = rw z

  growing_spanned : e ≤ span g.words (root_height g b f) → growing g (inode_of g b f) e ≡ false
  growing_spanned l = rw (le-ltb (span g.words (root_height g b f)) e l, and-false)

  pub growing_cases : ((growing g (inode_of g b f) e ≡ false) × Spanned g b f e) ⊎ Growing g b f e
  growing_cases = elim (split (size g b f) 0) [
    | inl z ↦ inl (growing_empty (omega arith), λ l. absurd (omega arith))
    | inr l ↦ elim (split e (span g.words (root_height g b f))) [
      | inl u ↦ inl (growing_spanned u, λ z. u)
      | inr m ↦ inr (record { on = w.on; live = l; more = m; most = w.most })
    ]
  ]

pub growth_takes : {g : Layout} {b : List ℕ} {f : ℕ} → FileOn g b f → (fresh : ℕ → ℕ) (h : ℕ) → Takes g b fresh 0 (growth_to g fresh (inode_of g b f) h).taken (growth_step g fresh b f h)
unfolding growth_to plan step store All
growth_takes {g} {b} {f} on fresh h = record {
  pages = growth_pages g fresh b f h;
  others = [];
  is = sym (append-nil (stored g.words fresh (growth_pages g fresh b f h) 0));
  count = sym (zero-add (length (growth_pages g fresh b f h)));
  others_live = tt;
  commit_live = rw (root_block_law g on.fit b f) (leaf_live g b (f / g.inodes) (leaf_of g on.fit f on.file));
}

-- ---- The step

module _ {g : Layout} {b : List ℕ} {f e : ℕ} (w : Growing g b f e) {fresh : ℕ → ℕ} {lim : ℕ} (supply : Supply g b fresh 0 lim) where
  open w use {on}
  open on use {fit, board, file}

  ok : Facts g b
  ok = facts g fit b board

  pos : 0 < g.words
  pos = words_pos g fit

  -- the height that is reached
  abbrev h : ℕ
  h = least g.words g.height e

  reaches : e ≤ span g.words h
  unfolding greatest
  reaches = least_reaches g.words pos g.height e w.most

  higher : root_height g b f ≤ h
  unfolding greatest
  higher = least_above g.words pos g.height e (root_height g b f) w.most w.more

  low_enough : h ≤ g.height
  low_enough = least_within g.words pos g.height e

  abbrev ps : List Page
  ps = growth_pages g fresh b f h

  abbrev top : ℕ
  top = level_top fresh (root_block g b f) (h - root_height g b f)

  module _ (room : (growth_to g fresh (inode_of g b f) h).taken ≤ lim) where
    fits : 0 + length ps ≤ lim
    unfolding growth_to plan
    fits = omega (arith, room)

    abbrev ss : List Store
    ss = stored g.words fresh ps 0

    c₁ : List ℕ
    c₁ = performed b ss

    shown_same : Same g b c₁
    unfolding c₁
    shown_same = pages_same fit board supply ps fits

    -- the file there
    on₁ : FileOn g c₁ f
    on₁ = on_same on shown_same

    value : ℕ
    value = grown_root g fresh (inode_of g b f) h

    -- the board with the commit
    done : List ℕ
    done = set c₁ (root_address g b f) value

    address_same : root_address g b f ≡ root_address g c₁ f
    address_same = same_address g fit b c₁ shown_same f (leaf_of g fit f file)

    lent_spot : Spot g b f (root_address g b f)
    lent_spot = inl (inl refl)

    commit_spot : Spot g c₁ f (root_address g b f)
    commit_spot = spot_same on shown_same (root_address g b f) lent_spot

    held_done : held g.words fresh done ps 0
    unfolding done c₁
    held_done = pages_held fit board supply ps fits (root_address g b f) value (spot_live on (root_address g b f) lent_spot)

    root_done : root g done f ≡ value
    unfolding done
    root_done = stored_root on₁ (root_address g b f) value commit_spot address_same

    height_done : root_height g done f ≡ h
    unfolding value
    height_done = ap (λ (x : ℕ). x % g.words) root_done ∙ mul-add-mod_self_left g.words top h ∙ mod-eq_of_lt (omega (arith, fit.heights_fit, low_enough))

    block_done : root_block g done f ≡ top
    unfolding value
    block_done = ap (λ (x : ℕ). x / g.words) root_done ∙ address_block g.words top h (omega (arith, fit.heights_fit, low_enough))

    size_done : size g b f ≡ size g done f
    unfolding done size_address
    size_done = shown_same.sizes f file ∙ spot_size on₁ (root_address g b f) value commit_spot f file (λ x. omega (arith, x, address_same))

    len : length b ≡ length done
    unfolding done
    len = shown_same.lengths ∙ sym (length-set c₁ (root_address g b f) value)

    -- the root is in no block of the tree
    tree_stays : agree g.words b done (root_height g b f) (root_block g b f) (size g b f)
    unfolding done file_blocks root_blocks
    tree_stays =
        let tree = shown_same.trees f file in
        let away : occ (root_address g b f / g.words) (file_blocks g b f) ≡ 0 = rw (root_block_law g fit b f) (leaf_not_file g b ok.once (f / g.inodes) f (leaf_of g fit f file) file) in
        agree_trans g.words pos b c₁ done (root_height g b f) (root_block g b f) (size g b f) tree
        (agree_away g.words pos c₁ (root_address g b f) value (root_height g b f) (root_block g b f) (size g b f)
        (rw (← (agree_blocks g.words pos b c₁ (root_height g b f) (root_block g b f) (size g b f) tree)) away))

    tree_grown : Grown g.words b done (block_count g b - 1) (root_height g b f) (root_block g b f) h (root_block g done f) (size g b f) (λ q. used fresh q 0 (length ps))
    tree_grown =
        let reached : root_height g b f + (h - root_height g b f) ≡ h = omega (arith, higher) in
        rw block_done (subst (λ (x : ℕ). Grown g.words b done (block_count g b - 1) (root_height g b f) (root_block g b f) x top (size g b f) (λ q. used fresh q 0 (length ps))) reached
        (grown g.words pos b done supply.between (root_height g b f) (root_block g b f) (size g b f) (h - root_height g b f) w.live (omega (arith, fits)) held_done tree_stays))

    file_grown : FileCommit g b done f (contents g b f) (λ q. used fresh q 0 (length ps)) (λ q. 0)
    file_grown = grown_commit g fit b done len f h (λ q. used fresh q 0 (length ps)) w.live size_done height_done low_enough tree_grown ((accepted_parts g b board).files_sound f file)

    met_once : (q : ℕ) → occ q (live_blocks g b) + used fresh q 0 (length ps) ≤ 1
    met_once = supply_once supply ok.once (length ps) fits

    pub growth_good : GoodStep g b f (growth_step g fresh b f h) (contents g b f)
    unfolding step store committed done c₁ value
    growth_good = record {
      hides = pages_hidden fit board supply ps fits;
      once = pages_once fit board supply ps fits;
      within = spot_ranged on (root_address g b f) lent_spot;
      outcome = spot_commit on shown_same (root_address g b f) value commit_spot file_grown met_once;
    }

    -- ---- The grown board

    pub growth_size : size g (committed b (growth_step g fresh b f h)) f ≡ size g b f
    unfolding step store committed done c₁ value
    growth_size = sym size_done

    -- the inode is where it was
    pub growth_inode : inode_block g (committed b (growth_step g fresh b f h)) ≡ inode_block g b
    unfolding step store committed done c₁ value
    growth_inode = sym (inode_kept g b done len fit (λ j l. shown_same.trailers j l ∙ spot_trailer on₁ (root_address g b f) value commit_spot j l))

    -- and every file's
    pub growth_addresses : (i : ℕ) → i < files g → root_address g b i ≡ root_address g (committed b (growth_step g fresh b f h)) i
    unfolding step store committed done c₁ value
    growth_addresses i u = same_address g fit b c₁ shown_same i (leaf_of g fit i u) ∙ spot_address on₁ (root_address g b f) value commit_spot i u

    pub growth_address : root_address g (committed b (growth_step g fresh b f h)) f ≡ root_address g b f
    growth_address = sym (growth_addresses f file)

    pub growth_root : root g (committed b (growth_step g fresh b f h)) f ≡ grown_root g fresh (inode_of g b f) h
    unfolding step store committed done c₁ value
    growth_root = root_done

    pub growth_height : root_height g (committed b (growth_step g fresh b f h)) f ≡ h
    unfolding step store committed done c₁ value
    growth_height = height_done

    pub growth_reaches : e ≤ span g.words (root_height g (committed b (growth_step g fresh b f h)) f)
    growth_reaches = rw growth_height reaches

    -- over the tree stand the levels
    pub growth_top : root_block g (committed b (growth_step g fresh b f h)) f ≡ top
    unfolding step store committed done c₁ value
    growth_top = block_done

    pub growth_held : held g.words fresh (committed b (growth_step g fresh b f h)) ps 0
    unfolding step store committed done c₁ value
    growth_held = held_done

    -- a walk within the old span ends where it ended
    pub growth_walks : (i : ℕ) → i < span g.words (root_height g b f) → file_walk g (committed b (growth_step g fresh b f h)) f i ≡ file_walk g b f i
    unfolding step store committed done c₁ value file_walk root_walk
    growth_walks i l =
        let wider : i < span g.words h = omega (arith, span_mono g.words pos (root_height g b f) h higher) in
        rw (height_done, ← size_done, lt-ltb i (span g.words h) wider, lt-ltb i (span g.words (root_height g b f)) l) (tree_grown.walks i l)

    -- the live blocks are those of b and those of the levels
    counts_done : (q : ℕ) → occ q (live_blocks g done) ≡ occ q (live_blocks g b) + used fresh q 0 (length ps)
    unfolding done
    counts_done q = omega (arith, spot_counts on shown_same (root_address g b f) value commit_spot file_grown met_once q)

    pub growth_counts : (q : ℕ) → occ q (live_blocks g (committed b (growth_step g fresh b f h))) ≡ occ q (live_blocks g b) + used fresh q 0 (growth_to g fresh (inode_of g b f) h).taken
    unfolding step store committed done c₁ value growth_to plan
    growth_counts = counts_done

    -- so the fresh blocks that are left are still not live
    pub growth_supply : Supply g (committed b (growth_step g fresh b f h)) fresh (growth_to g fresh (inode_of g b f) h).taken lim
    unfolding step store committed done c₁ value growth_to plan
    growth_supply = record {
      between = rw (count_kept g b done len) at supply.between;
      apart = supply.apart;
      spare = λ i u l. omega (arith, counts_done (fresh i), supply.spare i (omega arith) l, used_none fresh (fresh i) 0 (length ps) (λ j v w x. supply.apart j i (omega arith) l (sym x)));
    }
