-- The ways of planning that commit with the file's size: a tail, and a length change.
use mathlib.Core.Path.{◌≡◌, refl, sym, ap, ◌∙◌}
use mathlib.Core.Logic.{◌≢◌, inl, inr}
use mathlib.Core.Bool.{◌&&◌}
use mathlib.Core.List.{List, [], ◌∷◌, ◌++◌}
use Prim.Native.Nat.{ℕ, ◌+◌, ◌-◌, ◌/◌, ◌%◌, ◌≤◌, ◌<◌}
use native.Mathlib.Omega.{arith}
use native.Mathlib.Nat.{mod-eq_of_lt, mul-add-mod_self_left, zero-div, zero-mod}
use lib.ListN.{length, get_or, set, length-set, replicate, length-replicate}
use lib.Dec.{T, eqb}
use borrow.Author.Tests.{eq-eqb}
use Rattle.model.specs.Lists.{some, member, occ}
use Rattle.model.specs.Layout.{Layout, files}
use Rattle.model.specs.Tree.{span, least, blocks, sound}
use Rattle.model.specs.Board.{root_blocks, greatest, block_count, leaf, root_address, size_address, root_height, root_block, root, size, file_blocks, live_blocks, free}
use Rattle.model.specs.Store.{Store, store, performed}
use Rattle.model.specs.Hidden.{hidden_under, hidden_in_file, hidden}
use Rattle.model.specs.Plan.{step}
use Rattle.model.specs.Fresh.{Page, splice, need, stored, fresh_pointer, build}
use Rattle.model.specs.InPlace.{at_block, walk_live, tail_need, tail_pages, in_place}
use Rattle.model.proofs.Cases.{decide, or_right, some_at}
use Rattle.model.proofs.Counting.{one_same, one_other, one_most}
use Rattle.model.proofs.Spans.{least_within, least_reaches}
use Rattle.model.proofs.Perform.{All, all_append, address_block}
use Rattle.model.proofs.Addresses.{addresses, addresses_away, Stands, all_map, all_left, all_right, occ_addresses_append, stored_once, stands_set, held_of_all}
use Rattle.model.proofs.Trees.{sound_null}
use Rattle.model.proofs.Agree.{agree_away, agree_refl}
use Rattle.model.proofs.Splice.{Small, splice_none, past_span}
use Rattle.model.proofs.Changed.{Changed, changed_to}
use Rattle.model.specs.GivenUp.{dropped_blocks}
use Rattle.model.proofs.Built.{held, used, length_build_null, build_null_changed}
use Rattle.model.proofs.InPlaceStores.{in_place_hidden, in_place_once}
use Rattle.model.proofs.Tailed.{zeros_replicate, splice_zeros, hole_changed, length_tail, tail_changed, length_changed}
use Rattle.model.proofs.Shrunk.{shrink_changed}
use Rattle.model.proofs.Shown.{Same, words_pos, leaf_of, leaf_live, file_live, same_address, root_block_law, size_block}
use Rattle.model.proofs.Accepting.{FileOn, Facts, facts}
use Rattle.model.proofs.Commits.{FileCommit, Had, had_blocks, Written, spliced, written_commit}
use Rattle.model.proofs.Apart.{Spot, spot_ranged, spot_root, stored_size, leaf_not_file}
use Rattle.model.proofs.SpotCommits.{on_same, spot_same, spot_commit, spot_counts}
use Rattle.model.proofs.Supplied.{Supply, supply_once, stored_hidden, stored_apart, stored_not_live}
use Rattle.model.proofs.Steps.{committed}
use Rattle.model.proofs.Writing.{Writing}
use Rattle.model.proofs.GoodSteps.{GoodTurn, epoch_same, epoch_stands}

module _ {g : Layout} {b : List ℕ} {f : ℕ} (on : FileOn g b f) where
  open on use {fit, board, file}

  ok : Facts g b
  ok = facts g fit b board

  pos : 0 < g.words
  pos = words_pos g fit

  -- ---- The size committed after an epoch of hidden stores

  module _ (ss : List Store) (hides : All (λ s. T (hidden g b s)) ss) (once : (x : ℕ) → occ x (addresses ss) ≤ 1) where
    -- the board after the epoch
    abbrev c₁ : List ℕ
    c₁ = performed b ss

    same : Same g b c₁
    same = epoch_same g fit b board ss hides

    -- the file there
    on₁ : FileOn g c₁ f
    on₁ = on_same on same

    stands : Stands c₁ ss
    stands = epoch_stands g fit b board ss hides once

    -- what the file's tree has become there, if its size becomes m
    pub record Sized (h k o m : ℕ) (new : List ℕ) (extra gone : ℕ → ℕ) : Type 0 where
      pub old : Had g b f h k
      pub height : root_height g c₁ f ≡ h
      pub low : h ≤ g.height
      pub most : m ≤ greatest g
      pub past : (i : ℕ) → span g.words h ≤ i → i < m → splice o new 0 i ≡ 0
      pub change : Changed g.words b c₁ (block_count g b - 1) h k (root_block g c₁ f) (size g b f) m o new extra gone
      pub fine : T (sound g.words b (block_count g b - 1) h k (size g b f))
      pub spare : (q : ℕ) → occ q (live_blocks g b) + extra q ≤ 1

    module _ {h k o m : ℕ} {new : List ℕ} {extra gone : ℕ → ℕ} (w : Sized h k o m new extra gone) where
      abbrev a : ℕ
      a = size_address g b f

      abbrev done : List ℕ
      done = set c₁ a m

      lent_spot : Spot g b f a
      lent_spot = inl (inr refl)

      spot : Spot g c₁ f a
      spot = spot_same on same a lent_spot

      address_kept : root_address g b f ≡ root_address g c₁ f
      address_kept = same_address g fit b c₁ same f (leaf_of g fit f file)

      len : length b ≡ length done
      len = same.lengths ∙ sym (length-set c₁ a m)

      root_kept : root g c₁ f ≡ root g done f
      unfolding size_address
      root_kept = spot_root on₁ a m spot f file (λ x. omega (arith, x, address_kept))

      now : size g done f ≡ m
      unfolding size_address
      now = stored_size on₁ a m spot (ap (λ (x : ℕ). x + 1) address_kept)

      -- the leaf is no block of the tree, also not of what it has become
      leaf_out : occ (a / g.words) (blocks g.words c₁ h (root_block g c₁ f) m) ≡ 0
      leaf_out =
          let q : ℕ = leaf g b (f / g.inodes) in
          rw (size_block g fit b f) (omega (
            arith,
            w.change.counts q,
            ap (occ q) (had_blocks g fit b f h k w.old),
            leaf_not_file g b ok.once (f / g.inodes) f (leaf_of g fit f file) file,
            leaf_live g b (f / g.inodes) (leaf_of g fit f file),
            w.spare q,
          ))

      written : Written g b done f h k o m new extra gone
      written = record {
        old = w.old;
        height = ap (λ (x : ℕ). x % g.words) (sym root_kept) ∙ w.height;
        now = now;
        low = w.low;
        most = w.most;
        past = w.past;
        change = rw (← root_kept) (changed_to g.words pos b c₁ (block_count g b - 1) done h k (root_block g c₁ f) (size g b f) m o new extra gone w.change
            (agree_away g.words pos c₁ a m h (root_block g c₁ f) m leaf_out));
      }

      sized_file : FileCommit g b done f (spliced g b f o new m) extra gone
      sized_file = written_commit fit len written w.fine

      pub size_good : GoodTurn g b f (step ss a m) (spliced g b f o new m) extra gone
      unfolding step store committed
      size_good = record {
        good = record {
          hides = hides;
          once = once;
          within = spot_ranged on a lent_spot;
          outcome = spot_commit on same a m spot sized_file w.spare;
        };
        lives = spot_counts on same a m spot sized_file w.spare;
      }

  -- the file's own tree
  tree_had : Had g b f (root_height g b f) (root_block g b f)
  tree_had live = (refl, refl)

  -- ---- Hidden stores of a file

  -- in its tree
  under_hidden : (s : Store) → T (hidden_under g.words b s (root_height g b f) (root_block g b f) (size g b f)) → T (hidden g b s)
  unfolding hidden hidden_in_file
  under_hidden s h = or_right (member (s.at / g.words) (free g b)) (some (files g) (hidden_in_file g b s)) (some_at (files g) (hidden_in_file g b s) f file
      (or_right (eqb s.at (root_address g b f) && eqb (size g b f) 0) (hidden_under g.words b s (root_height g b f) (root_block g b f) (size g b f)) h))

  -- its root, where the size is 0
  root_hidden : (v : ℕ) → size g b f ≡ 0 → T (hidden g b (store (root_address g b f) v))
  unfolding hidden hidden_in_file store
  root_hidden v z = or_right (member (root_address g b f / g.words) (free g b)) (some (files g) (hidden_in_file g b (store (root_address g b f) v)))
      (some_at (files g) (hidden_in_file g b (store (root_address g b f) v)) f file (rw (eq-eqb (root_address g b f) (root_address g b f) refl, eq-eqb (size g b f) 0 z) tt))

  -- what is stored in place in its tree is hidden, and goes to no word twice
  in_tree_hidden : (hook : ℕ → ℕ → ℕ → ℕ) (new : List ℕ) (c : ℕ) → 0 < size g b f → Small new
      → All (λ s. T (hidden g b s)) (in_place g.words b hook (root_height g b f) (root_block g b f) (size g b f) new c (root_address g b f))
  in_tree_hidden hook new c live small = all_map _ (λ s. T (hidden g b s)) under_hidden _
      (in_place_hidden g.words b hook (root_height g b f) (root_block g b f) (size g b f) new c (root_address g b f) live small)

  in_tree_once : (hook : ℕ → ℕ → ℕ → ℕ) (new : List ℕ) (c : ℕ) → 0 < size g b f → (x : ℕ)
      → occ x (addresses (in_place g.words b hook (root_height g b f) (root_block g b f) (size g b f) new c (root_address g b f))) ≤ occ (x / g.words) (live_blocks g b)
  unfolding file_blocks root_blocks
  in_tree_once hook new c live x = omega (
    arith,
    in_place_once g.words b hook (root_height g b f) (root_block g b f) (size g b f) new c (root_address g b f) x live,
    file_live g b f (x / g.words) file,
  )

  -- the root word that an epoch stored
  root_stored : (ss : List Store) → All (λ s. T (hidden g b s)) ss → (v : ℕ) → get_or (performed b ss) (root_address g b f) 0 ≡ v → root g (performed b ss) f ≡ v
  unfolding root
  root_stored ss hides v e = ap (λ (x : ℕ). get_or (performed b ss) x 0) (sym (same_address g fit b (performed b ss) (epoch_same g fit b board ss hides) f (leaf_of g fit f file))) ∙ e

  -- ---- Length change

  -- n < s: one store of the size
  pub shorten_good : (n : ℕ) → n ≤ size g b f → 0 < size g b f → GoodTurn g b f (step [] (size_address g b f) n) (spliced g b f 0 [] n) (λ q. 0)
      (λ q. occ q (dropped_blocks g.words b (root_height g b f) (root_block g b f) (size g b f) n))
  unfolding All occ performed
  shorten_good n less live = size_good [] tt (λ x. omega arith) (record {
    old = tree_had;
    height = refl;
    low = ok.low f file live;
    most = omega (arith, ok.most f file);
    past = λ i u v. splice_none 0 [] 0 i refl;
    change = shrink_changed g.words pos b b (block_count g b - 1) (root_height g b f) (root_block g b f) (size g b f) n 0 less (agree_refl g.words pos b _ _ _);
    fine = ok.pointers.tree f file;
    spare = λ q. omega (arith, ok.once q);
  })

  -- s = 0: *it stores 0 to the root word*
  pub lengthen_empty_good : (n : ℕ) → size g b f ≡ 0 → n ≤ greatest g
      → GoodTurn g b f (step (store (root_address g b f) 0 ∷ []) (size_address g b f) n) (spliced g b f (size g b f) (replicate (n - size g b f) 0) n) (λ q. 0) (λ q. 0)
  unfolding All occ store
  lengthen_empty_good n z most =
      let ss : List Store = store (root_address g b f) 0 ∷ [] in
      let hides : All (λ s. T (hidden g b s)) ss = (root_hidden 0 z, tt) in
      let once : (x : ℕ) → occ x (addresses ss) ≤ 1 = λ x. omega (arith, one_most x (root_address g b f)) in
      let zero-root : root g (performed b ss) f ≡ 0 = root_stored ss hides 0 (stands ss hides once).0 in
      size_good ss hides once {h = 0} {k = 0} (record {
        old = λ live. absurd (omega arith);
        height = ap (λ (x : ℕ). x % g.words) zero-root ∙ zero-mod g.words;
        low = omega arith;
        most = most;
        past = λ i u v. splice_zeros (size g b f) (replicate (n - size g b f) 0) 0 i (zeros_replicate (n - size g b f)) refl;
        change = rw (ap (λ (x : ℕ). x / g.words) zero-root ∙ zero-div g.words) (hole_changed g.words b (performed b ss) (block_count g b - 1) 0 (size g b f) n (size g b f) (replicate (n - size g b f) 0) (zeros_replicate (n - size g b f)));
        fine = rw (sound_null g.words b (block_count g b - 1) 0 (size g b f)) tt;
        spare = λ q. omega (arith, ok.once q);
      })

  -- s > 0
  module _ (n : ℕ) (live : 0 < size g b f) (more : size g b f ≤ n) (most : n ≤ greatest g) where
    abbrev zeros : List ℕ
    zeros = replicate (n - size g b f) 0

    abbrev clears : List Store
    clears = in_place g.words b (λ h l c. 0) (root_height g b f) (root_block g b f) (size g b f) zeros 0 (root_address g b f)

    clears_hidden : All (λ s. T (hidden g b s)) clears
    clears_hidden = in_tree_hidden (λ h l c. 0) zeros 0 live (λ i. omega (arith, zeros_replicate (n - size g b f) i))

    clears_once : (x : ℕ) → occ x (addresses clears) ≤ 1
    clears_once x = omega (arith, in_tree_once (λ h l c. 0) zeros 0 live x, ok.once (x / g.words))

    root_same : root g b f ≡ root g (performed b clears) f
    root_same = (same clears clears_hidden clears_once).roots f file live

    pub lengthen_good : GoodTurn g b f (step clears (size_address g b f) n) (spliced g b f (size g b f) zeros n) (λ q. 0) (λ q. 0)
    lengthen_good = size_good clears clears_hidden clears_once (record {
      old = tree_had;
      height = ap (λ (x : ℕ). x % g.words) (sym root_same);
      low = ok.low f file live;
      most = most;
      past = λ i u v. splice_zeros (size g b f) zeros 0 i (zeros_replicate (n - size g b f)) refl;
      change = rw (← root_same) (length_changed g.words pos b (performed b clears) (block_count g b - 1) (root_height g b f) (root_block g b f) (size g b f) n (n - size g b f) 0 (root_address g b f) live (record {
        grows = more;
        fits = rw (length-replicate {A = ℕ} (n - size g b f) 0) (omega arith);
        cover = λ i u v w. (u, rw (length-replicate {A = ℕ} (n - size g b f) 0) (omega arith));
        visible = (same clears clears_hidden clears_once).trees f file;
        stands = stands clears clears_hidden clears_once;
      }));
      fine = ok.pointers.tree f file;
      spare = λ q. omega (arith, ok.once q);
    })

  -- ---- Tail

  -- s > 0, and no live pointer on the path is null
  module _ {new : List ℕ} (w : Writing g b f (size g b f) new) (live : 0 < size g b f) (path : T (at_block (walk_live g.words b (root_height g b f) (root_block g b f) (size g b f))))
      (under : size g b f + length new ≤ span g.words (root_height g b f)) {fresh : ℕ → ℕ} {c lim : ℕ} (supply : Supply g b fresh c lim) where
    abbrev tails : List Page
    tails = tail_pages g.words b fresh (root_height g b f) (root_block g b f) (size g b f) new c

    abbrev others : List Store
    others = in_place g.words b (λ h l i. fresh_pointer g.words fresh h 0 l i) (root_height g b f) (root_block g b f) (size g b f) new c (root_address g b f)

    module _ (room : c + length tails ≤ lim) where
      abbrev tail_epoch : List Store
      tail_epoch = stored g.words fresh tails c ++ others

      taken : length tails ≡ tail_need g.words (root_height g b f) (size g b f) (length new)
      taken = length_tail g.words pos b fresh (root_height g b f) (root_block g b f) (size g b f) new c

      tail_hidden : All (λ s. T (hidden g b s)) tail_epoch
      tail_hidden = all_append (λ s. T (hidden g b s)) (stored g.words fresh tails c) others (stored_hidden supply fit tails room)
          (in_tree_hidden (λ h l i. fresh_pointer g.words fresh h 0 l i) new c live w.small)

      tail_once : (x : ℕ) → occ x (addresses tail_epoch) ≤ 1
      tail_once x = omega (
        arith,
        occ_addresses_append x (stored g.words fresh tails c) others,
        stored_once g.words fresh tails c x,
        in_tree_once (λ h l i. fresh_pointer g.words fresh h 0 l i) new c live x,
        supply_once supply ok.once (length tails) room (x / g.words),
      )

      tail_root : root g b f ≡ root g (performed b tail_epoch) f
      tail_root = (same tail_epoch tail_hidden tail_once).roots f file live

      Stood : Store → Type 0
      Stood s = get_or (performed b tail_epoch) s.at 0 ≡ s.value

      pub tail_good : GoodTurn g b f (step tail_epoch (size_address g b f) (size g b f + length new)) (spliced g b f (size g b f) new (size g b f + length new))
          (λ q. used fresh q c (tail_need g.words (root_height g b f) (size g b f) (length new))) (λ q. 0)
      unfolding Stood
      tail_good =
          let all_stand : Stands (performed b tail_epoch) tail_epoch = stands tail_epoch tail_hidden tail_once in
          size_good tail_epoch tail_hidden tail_once (record {
            old = tree_had;
            height = ap (λ (x : ℕ). x % g.words) (sym tail_root);
            low = ok.low f file live;
            most = w.most;
            past = past_span (size g b f) new (span g.words (root_height g b f)) (size g b f + length new) under;
            change = rw (← tail_root) (tail_changed g.words pos b (performed b tail_epoch) supply.between
                (root_height g b f) (root_block g b f) (size g b f) (size g b f + length new) new c (root_address g b f) live (record {
                  grows = omega arith;
                  fits = omega arith;
                  cover = λ i u v l. (u, v);
                  visible = (same tail_epoch tail_hidden tail_once).trees f file;
                  stands = all_right Stood (stored g.words fresh tails c) others all_stand;
                }) w.small (rw (← taken) room)
                (held_of_all g.words fresh (performed b tail_epoch) tails c (all_left Stood (stored g.words fresh tails c) others all_stand)) path);
            fine = ok.pointers.tree f file;
            spare = λ q. rw (← taken) (supply_once supply ok.once (length tails) room q);
          })

  -- s = 0: *the old root is ignored and the least sufficient height is used*, wherever the bytes begin
  module _ {o : ℕ} {new : List ℕ} (w : Writing g b f o new) (filled : 0 < length new) (empty : size g b f ≡ 0) {fresh : ℕ → ℕ} {c lim : ℕ} (supply : Supply g b fresh c lim) where
    abbrev h : ℕ
    h = least g.words g.height (o + length new)

    abbrev pages : List Page
    pages = build g.words fresh b h 0 0 o new c

    abbrev hook : ℕ
    hook = fresh_pointer g.words fresh h o (length new) c + h

    module _ (room : c + length pages ≤ lim) where
      abbrev first_epoch : List Store
      first_epoch = stored g.words fresh pages c ++ (store (root_address g b f) hook ∷ [])

      first_taken : length pages ≡ need g.words h o (length new)
      first_taken = length_build_null g.words pos b fresh h 0 o new c

      first_hidden : All (λ s. T (hidden g b s)) first_epoch
      unfolding All
      first_hidden = all_append (λ s. T (hidden g b s)) (stored g.words fresh pages c) (store (root_address g b f) hook ∷ []) (stored_hidden supply fit pages room) (root_hidden hook empty, tt)

      first_once : (x : ℕ) → occ x (addresses first_epoch) ≤ 1
      unfolding occ store
      first_once x = elim (decide x (root_address g b f)) [
        | inl e ↦ rw e (omega (
          arith,
          occ_addresses_append (root_address g b f) (stored g.words fresh pages c) (store (root_address g b f) hook ∷ []),
          one_same (root_address g b f),
          addresses_away (root_address g b f) (stored g.words fresh pages c) (all_map (λ s. s.at ≢ root_address g b f) (λ s. root_address g b f ≢ s.at) (λ s d z. d (sym z)) (stored g.words fresh pages c)
              (stored_not_live supply pages room (root_address g b f) (rw (root_block_law g fit b f) (leaf_live g b (f / g.inodes) (leaf_of g fit f file))))),
        ))
        | inr d ↦ omega (
          arith,
          occ_addresses_append x (stored g.words fresh pages c) (store (root_address g b f) hook ∷ []),
          one_other x (root_address g b f) d,
          stored_apart supply pages room x,
        )
      ]

      h_fits : h < g.words
      h_fits = omega (arith, fit.heights_fit, least_within g.words pos g.height (o + length new))

      hook_low : hook % g.words ≡ h
      unfolding fresh_pointer
      hook_low = mul-add-mod_self_left g.words (fresh (c + need g.words h o (length new) - 1)) h ∙ mod-eq_of_lt h_fits

      hook_block : hook / g.words ≡ fresh (c + need g.words h o (length new) - 1)
      unfolding fresh_pointer
      hook_block = address_block g.words (fresh (c + need g.words h o (length new) - 1)) h h_fits

      Held : Store → Type 0
      Held s = get_or (performed b first_epoch) s.at 0 ≡ s.value

      -- the board after the epoch has the pages, and a root that leads to them
      all_stand : Stands (performed b first_epoch) first_epoch
      all_stand = stands first_epoch first_hidden first_once

      root_is : root g (performed b first_epoch) f ≡ hook
      unfolding Held All store
      root_is = root_stored first_epoch first_hidden hook (all_right Held (stored g.words fresh pages c) (store (root_address g b f) hook ∷ []) all_stand).0

      pages_stand : Stands (performed b first_epoch) (stored g.words fresh pages c)
      unfolding Held
      pages_stand = all_left Held (stored g.words fresh pages c) (store (root_address g b f) hook ∷ []) all_stand

      sized : Sized first_epoch first_hidden first_once h 0 o (o + length new) new (λ q. used fresh q c (need g.words h o (length new))) (λ q. 0)
      unfolding greatest
      sized = record {
        old = λ live. absurd (omega arith);
        height = ap (λ (x : ℕ). x % g.words) root_is ∙ hook_low;
        low = least_within g.words pos g.height (o + length new);
        most = w.most;
        past = past_span o new (span g.words h) (o + length new) (omega (arith, least_reaches g.words pos g.height (o + length new) w.most));
        change = rw (ap (λ (x : ℕ). x / g.words) root_is ∙ hook_block, empty) (build_null_changed g.words pos b fresh (performed b first_epoch) supply.between
            h o new c (o + length new) filled (rw (← first_taken) room) w.small (held_of_all g.words fresh (performed b first_epoch) pages c pages_stand) (omega arith) (λ i u v l. omega arith));
        fine = rw (sound_null g.words b (block_count g b - 1) h (size g b f)) tt;
        spare = λ q. rw (← first_taken) (supply_once supply ok.once (length pages) room q);
      }

      pub empty_tail_good : GoodTurn g b f (step first_epoch (size_address g b f) (o + length new)) (spliced g b f o new (o + length new))
          (λ q. used fresh q c (need g.words h o (length new))) (λ q. 0)
      empty_tail_good = size_good first_epoch first_hidden first_once sized

      -- ---- The board that it leaves

      empty_root : root g (committed b (step first_epoch (size_address g b f) (o + length new))) f ≡ hook
      unfolding step store committed
      empty_root = sym (root_kept first_epoch first_hidden first_once sized) ∙ root_is

      pub empty_height : root g (committed b (step first_epoch (size_address g b f) (o + length new))) f % g.words ≡ h
      empty_height = ap (λ (x : ℕ). x % g.words) empty_root ∙ hook_low

      pub empty_block : root g (committed b (step first_epoch (size_address g b f) (o + length new))) f / g.words ≡ fresh (c + need g.words h o (length new) - 1)
      empty_block = ap (λ (x : ℕ). x / g.words) empty_root ∙ hook_block

      -- the size stands in the leaf, which is no fresh block
      pub empty_held : held g.words fresh (committed b (step first_epoch (size_address g b f) (o + length new))) pages c
      unfolding step store committed
      empty_held = held_of_all g.words fresh (set (performed b first_epoch) (size_address g b f) (o + length new)) pages c
          (stands_set (performed b first_epoch) (stored g.words fresh pages c) (size_address g b f) (o + length new)
          (stored_not_live supply pages room (size_address g b f) (rw (size_block g fit b f) (leaf_live g b (f / g.inodes) (leaf_of g fit f file)))) pages_stand)
