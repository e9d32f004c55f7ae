-- Shadow with length: fresh blocks for the paths of a file's tree to written bytes and to the last byte before, and a fresh copy of its inode leaf. The commit is the inode pointer.
use mathlib.Core.Path.{◌≡◌, refl, sym, ap, ◌∙◌, subst}
use mathlib.Core.Logic.{◌≢◌, inl, inr}
use mathlib.Core.List.{List, [], ◌∷◌, ◌++◌, append-nil}
use Prim.Native.Nat.{ℕ, ◌+◌, ◌-◌, ◌*◌, ◌/◌, ◌%◌, ◌≤◌, ◌<◌, max}
use native.Mathlib.Omega.{arith}
use native.Mathlib.Nat.{add-zero, add_assoc, mod-lt, mod-eq_of_lt, mul-add-mod_self_left, mul-div_cancel_left, mul-mod_right}
use lib.ListN.{length, get_or, set, length-set, length-append}
use lib.Seq.{get_or-set_same, get_or-set_other}
use lib.Dec.{T, eqb}
use borrow.Author.Tests.{eq-eqb, ne_eqb}
use Rattle.model.specs.Lists.{one, occ}
use Rattle.model.specs.Layout.{Layout, Fits, files}
use Rattle.model.specs.Tree.{span, cell}
use Rattle.model.specs.Board.{root_blocks, block_count, trailer, inode_block, inode_pointer, leaf, root_address, size_address, root_height, root_block, root, size, file_blocks, live_blocks, in_range, leaf_sound, spare_sound}
use Rattle.model.specs.Store.{Store, store, performed}
use Rattle.model.specs.Plan.{Step, step}
use Rattle.model.specs.Fresh.{Page, fresh_need, stored, build}
use Rattle.model.specs.Change.{replaced, copied_leaf, leaf_page}
use Rattle.model.proofs.Cases.{decide, and_both}
use Rattle.model.proofs.Perform.{All, address_block, address_place}
use Rattle.model.proofs.Agree.{agree, frame, cell_away}
use Rattle.model.proofs.Splice.{Reach, past_span}
use Rattle.model.specs.GivenUp.{path_blocks}
use Rattle.model.proofs.Paths.{touched_new}
use Rattle.model.proofs.Changed.{Changed}
use Rattle.model.proofs.Built.{held, used, used_add, used_one, length_build, held_left, held_right, build_changed}
use Rattle.model.proofs.Shown.{Same, words_pos, count_kept, inode_kept, trailer_kept, leaf_kept, leaf_sound_kept, spare_sound_kept, inode_live, leaf_live, file_live, leaf_of, slot, root_block_law}
use Rattle.model.proofs.Accepting.{FileOn, Ranged, in_range_law, accepted_parts, Facts, facts, address_on_board}
use Rattle.model.proofs.Commits.{Written, spliced, written_commit, Others, one_file, OneFile, one_file_counts}
use Rattle.model.proofs.Apart.{inode_not_leaf, file_not_inode, inodes_apart}
use Rattle.model.proofs.Supplied.{Supply, supply_once, stored_keeps}
use Rattle.model.proofs.Steps.{committed}
use Rattle.model.proofs.GoodSteps.{GoodTurn, pages_hidden, pages_once, pages_same, pages_held}
use Rattle.model.proofs.StepBlocks.{Takes}
use Rattle.model.proofs.Writing.{Writing}

-- ---- The step

module _ (g : Layout) (fresh : ℕ → ℕ) (b : List ℕ) (f o : ℕ) (new : List ℕ) (c : ℕ) where
  -- the pages of the fresh tree
  abbrev pub tree_pages : List Page
  tree_pages = build g.words fresh b (root_height g b f) (root_block g b f) (size g b f) o new c

  -- the file's new root word
  abbrev new_root : ℕ
  new_root = g.words * fresh (c + length tree_pages - 1) + root_height g b f

  -- those pages and the copy of the leaf
  abbrev shadow_pages : List Page
  shadow_pages = tree_pages ++ (leaf_page g.words b (root_address g b f) new_root (max (size g b f) (o + length new)) ∷ [])

  -- they are stored, then the inode pointer
  abbrev pub leaf_step : Step
  leaf_step = step (stored g.words fresh shadow_pages c) (g.words * inode_block g b + f / g.inodes) (g.words * fresh (c + length tree_pages))

  pub leaf_takes : FileOn g b f → Takes g b fresh c (c + length tree_pages + 1) leaf_step
  unfolding step store All
  leaf_takes on = record {
    pages = shadow_pages;
    others = [];
    is = sym (append-nil (stored g.words fresh shadow_pages c));
    count = omega (arith, length-append tree_pages (leaf_page g.words b (root_address g b f) new_root (max (size g b f) (o + length new)) ∷ []));
    others_live = tt;
    commit_live = rw (address_block g.words (inode_block g b) (f / g.inodes) (omega (arith, leaf_of g on.fit f on.file, on.fit.leaves_fit))) (inode_live g b);
  }

-- ---- The copy of the leaf

module _ (g : Layout) (fit : Fits g) (b : List ℕ) (f r s : ℕ) where
  -- the inode's place in its leaf
  place : root_address g b f % g.words ≡ 2 * (f % g.inodes)
  unfolding root_address
  place = address_place g.words (leaf g b (f / g.inodes)) (2 * (f % g.inodes)) (omega (arith, slot g fit f))

  copy_root : leaf_page g.words b (root_address g b f) r s (2 * (f % g.inodes)) ≡ r
  unfolding leaf_page copied_leaf replaced
  copy_root = rw (place, eq-eqb (2 * (f % g.inodes)) (2 * (f % g.inodes)) refl)

  copy_size : leaf_page g.words b (root_address g b f) r s (2 * (f % g.inodes) + 1) ≡ s
  unfolding leaf_page copied_leaf replaced
  copy_size = rw (place, ne_eqb (2 * (f % g.inodes) + 1) (2 * (f % g.inodes)) (omega arith), eq-eqb (2 * (f % g.inodes) + 1) (2 * (f % g.inodes) + 1) refl)

  -- the words of the other inodes are those of the old leaf
  copy_other : (j : ℕ) → j ≢ 2 * (f % g.inodes) → j ≢ 2 * (f % g.inodes) + 1 → leaf_page g.words b (root_address g b f) r s j ≡ cell g.words b (leaf g b (f / g.inodes)) j
  unfolding leaf_page copied_leaf replaced
  copy_other j d e = rw (place, root_block_law g fit b f, ne_eqb j (2 * (f % g.inodes)) d, ne_eqb j (2 * (f % g.inodes) + 1) e)

-- ---- The words of an inode, as words of its leaf

pub root_word : (g : Layout) (b : List ℕ) (f : ℕ) → root g b f ≡ cell g.words b (leaf g b (f / g.inodes)) (2 * (f % g.inodes))
unfolding root root_address cell
root_word g b f = refl

pub size_word : (g : Layout) (b : List ℕ) (f : ℕ) → size g b f ≡ cell g.words b (leaf g b (f / g.inodes)) (2 * (f % g.inodes) + 1)
unfolding size size_address root_address cell
size_word g b f = ap (λ (x : ℕ). get_or b x 0) (add_assoc (g.words * leaf g b (f / g.inodes)) (2 * (f % g.inodes)) 1)

-- ---- The step is good

module _ {g : Layout} {b : List ℕ} {f o : ℕ} {new : List ℕ} (w : Writing g b f o new) (some : 0 < length new) (live : 0 < size g b f) (beyond : size g b f < o + length new)
    (under : o + length new ≤ span g.words (root_height g b f)) {fresh : ℕ → ℕ} {c lim : ℕ} (supply : Supply g b fresh c lim) (room : c + length (tree_pages g fresh b f o new c) + 1 ≤ lim) where
  open w.on use {fit, board, file}

  ok : Facts g b
  ok = facts g fit b board

  pos : 0 < g.words
  pos = words_pos g fit

  abbrev ps : List Page
  ps = tree_pages g fresh b f o new c

  abbrev pages : List Page
  pages = shadow_pages g fresh b f o new c

  -- the file's new root word and size, and the copy of its leaf with them
  abbrev r : ℕ
  r = new_root g fresh b f o new c

  abbrev m : ℕ
  m = max (size g b f) (o + length new)

  abbrev copy : Page
  copy = leaf_page g.words b (root_address g b f) r m

  -- which leaf it is, the block of the copy, and the address of the commit
  abbrev l₀ : ℕ
  l₀ = f / g.inodes

  abbrev copied : ℕ
  copied = fresh (c + length ps)

  abbrev a : ℕ
  a = g.words * inode_block g b + l₀

  abbrev ss : List Store
  ss = stored g.words fresh pages c

  l₀_lt : l₀ < g.leaves
  l₀_lt = leaf_of g fit f file

  pages_room : c + length pages ≤ lim
  pages_room = omega (arith, length-append ps (copy ∷ []))

  -- the board with the fresh blocks, and with the commit
  c₁ : List ℕ
  c₁ = performed b ss

  b₂ : List ℕ
  b₂ = set c₁ a (g.words * copied)

  shown_same : Same g b c₁
  unfolding c₁
  shown_same = pages_same fit board supply pages pages_room

  len : length b ≡ length b₂
  unfolding b₂
  len = shown_same.lengths ∙ sym (length-set c₁ a (g.words * copied))

  commit_block : a / g.words ≡ inode_block g b
  commit_block = address_block g.words (inode_block g b) l₀ (omega (arith, l₀_lt, fit.leaves_fit))

  -- live blocks other than the inode pointer block stay
  live_stays : (q : ℕ) → 0 < occ q (live_blocks g b) → q ≢ inode_block g b → (j : ℕ) → j < g.words → cell g.words b q j ≡ cell g.words b₂ q j
  unfolding b₂ c₁
  live_stays q z d j l = stored_keeps supply pages pages_room q z j l ∙ sym (cell_away g.words pos c₁ a (g.words * copied) q j l (λ x. d (x ∙ commit_block)))

  tree_stays : (i : ℕ) → i < files g → agree g.words b b₂ (root_height g b i) (root_block g b i) (size g b i)
  unfolding file_blocks root_blocks
  tree_stays i u = frame g.words pos b b₂ (root_height g b i) (root_block g b i) (size g b i)
      (λ q z. live_stays q (omega (arith, file_live g b i q u)) (file_not_inode g b ok.once i q u z))

  trailers : (j : ℕ) → j < g.words → trailer g b j ≡ trailer g b₂ j
  unfolding trailer b₂
  trailers j l =
      let count : block_count g b ≡ block_count g c₁ = count_kept g b c₁ shown_same.lengths in
      shown_same.trailers j l ∙ sym (cell_away g.words pos c₁ a (g.words * copied) (block_count g c₁ - 1) j l (λ x. omega (arith, ok.pointers.inode.1, count, commit_block)))
      ∙ ap (λ (x : ℕ). cell g.words b₂ (x - 1) j) (sym count ∙ count_kept g b b₂ len)

  inode : inode_block g b ≡ inode_block g b₂
  inode = inode_kept g b b₂ len fit trailers

  -- the inode pointers
  pointer_stays : (l : ℕ) → l < g.words → l ≢ l₀ → inode_pointer g b l ≡ inode_pointer g b₂ l
  unfolding inode_pointer cell b₂ c₁
  pointer_stays l u d = stored_keeps supply pages pages_room (inode_block g b) (inode_live g b) l u
      ∙ sym (get_or-set_other c₁ a (g.words * inode_block g b + l) (g.words * copied) 0 (λ x. d (omega arith)))
      ∙ ap (λ (x : ℕ). get_or b₂ (g.words * x + l) 0) inode

  pointer_new : inode_pointer g b₂ l₀ ≡ g.words * copied
  unfolding inode_pointer cell b₂
  pointer_new = ap (λ (x : ℕ). get_or b₂ (g.words * x + l₀) 0) (sym inode)
      ∙ get_or-set_same c₁ a (g.words * copied) 0 (rw (← shown_same.lengths) (address_on_board g fit b ok.sizes a (omega (arith, ok.pointers.inode.1, commit_block))))

  leaf_new : leaf g b₂ l₀ ≡ copied
  unfolding leaf
  leaf_new = ap (λ (x : ℕ). x / g.words) pointer_new ∙ mul-div_cancel_left copied pos

  leaf_stays : (l : ℕ) → l < g.leaves → l ≢ l₀ → leaf g b l ≡ leaf g b₂ l
  leaf_stays l u d = leaf_kept g b b₂ len l (pointer_stays l (omega (arith, fit.leaves_fit)) d)

  copied_in : Ranged g b₂ copied
  copied_in = rw (← (count_kept g b b₂ len)) (supply.between.nonzero (c + length ps) (omega arith), supply.between.below (c + length ps) (omega arith))

  leaf_new_sound : T (leaf_sound g b₂ l₀)
  unfolding leaf_sound
  leaf_new_sound = rw (pointer_new, leaf_new) (and_both (eqb (g.words * copied % g.words) 0) (in_range g b₂ copied)
      (rw (eq-eqb (g.words * copied % g.words) 0 (mul-mod_right g.words copied)) tt) (in_range_law g b₂ copied copied_in))

  leaves_sound : (l : ℕ) → l < g.leaves → T (leaf_sound g b₂ l)
  leaves_sound l u = elim (decide l l₀) [
    | inl e ↦ rw e leaf_new_sound
    | inr d ↦ rw (← (leaf_sound_kept g b b₂ len l (pointer_stays l (omega (arith, fit.leaves_fit)) d))) ((accepted_parts g b board).leaves l u)
  ]

  spares_sound_law : (j : ℕ) → j < g.words - g.leaves → T (spare_sound g b₂ j)
  spares_sound_law j u =
      let stays = pointer_stays (g.leaves + j) (omega arith) (λ x. omega (arith, leaf_of g fit f file)) in
      rw (← (spare_sound_kept g b b₂ len j stays)) ((accepted_parts g b board).spares j u)

  -- the fresh blocks
  all_held : held g.words fresh b₂ pages c
  unfolding b₂ c₁
  all_held = pages_held fit board supply pages pages_room a (g.words * copied) (rw commit_block (inode_live g b))

  tree_held : held g.words fresh b₂ ps c
  tree_held = held_left g.words pos b fresh b₂ ps (copy ∷ []) c all_held

  copy_word : (j : ℕ) → j < g.words → cell g.words b₂ (leaf g b₂ l₀) j ≡ copy j
  unfolding held
  copy_word j l = rw leaf_new ((held_right g.words pos b fresh b₂ ps (copy ∷ []) c all_held).0 j l)

  -- the inodes
  root_new : root g b₂ f ≡ r
  root_new = root_word g b₂ f ∙ copy_word (2 * (f % g.inodes)) (omega (arith, slot g fit f)) ∙ copy_root g fit b f r m

  size_new : size g b₂ f ≡ m
  size_new = size_word g b₂ f ∙ copy_word (2 * (f % g.inodes) + 1) (slot g fit f) ∙ copy_size g fit b f r m

  -- two files of one leaf have different words there
  slots_apart : (i d e : ℕ) → i < files g → i ≢ f → i / g.inodes ≡ l₀ → d ≤ 1 → e ≤ 1 → 2 * (i % g.inodes) + d ≢ 2 * (f % g.inodes) + e
  unfolding root_address
  slots_apart i d e u ne same v w x = inodes_apart g fit b ok i f d e u file ne v w (omega (arith, ap (λ (y : ℕ). g.words * leaf g b y) same))

  inode_stays : (i : ℕ) → i < files g → i ≢ f → (d : ℕ) → d ≤ 1
      → cell g.words b (leaf g b (i / g.inodes)) (2 * (i % g.inodes) + d) ≡ cell g.words b₂ (leaf g b₂ (i / g.inodes)) (2 * (i % g.inodes) + d)
  inode_stays i u ne d v = elim (decide (i / g.inodes) l₀) [
    | inl e ↦ rw e (sym (copy_word (2 * (i % g.inodes) + d) (omega (arith, slot g fit i)) ∙ copy_other g fit b f r m (2 * (i % g.inodes) + d)
        (λ x. slots_apart i d 0 u ne e v (omega arith) (x ∙ sym (add-zero (2 * (f % g.inodes))))) (slots_apart i d 1 u ne e v (omega arith))))
    | inr n ↦ live_stays (leaf g b (i / g.inodes)) (leaf_live g b (i / g.inodes) (leaf_of g fit i u)) (inode_not_leaf g b ok.once (i / g.inodes) (leaf_of g fit i u))
        (2 * (i % g.inodes) + d) (omega (arith, slot g fit i)) ∙ ap (λ (x : ℕ). cell g.words b₂ x (2 * (i % g.inodes) + d)) (leaf_stays (i / g.inodes) (leaf_of g fit i u) n)
  ]

  others : Others g b b₂ f
  others = record {
    sizes = λ i u d. size_word g b i ∙ inode_stays i u d 1 (omega arith) ∙ sym (size_word g b₂ i);
    roots = λ i u d z. root_word g b i ∙ (rw (add-zero (2 * (i % g.inodes))) at (inode_stays i u d 0 (omega arith))) ∙ sym (root_word g b₂ i);
    trees = λ i u d. tree_stays i u;
  }

  -- the file's tree
  height_new : root_height g b₂ f ≡ root_height g b f
  height_new = ap (λ (x : ℕ). x % g.words) root_new ∙ mul-add-mod_self_left g.words (fresh (c + length ps - 1)) (root_height g b f) ∙ mod-eq_of_lt (mod-lt (root g b f) pos)

  block_new : root_block g b₂ f ≡ fresh (c + length ps - 1)
  block_new = ap (λ (x : ℕ). x / g.words) root_new ∙ address_block g.words (fresh (c + length ps - 1)) (root_height g b f) (mod-lt (root g b f) pos)

  -- what lies past the old size ends where the written bytes end
  reach : Reach (size g b f) m o (length new) (span g.words (root_height g b f))
  reach i u v w = omega arith

  -- the blocks on the paths that are made fresh
  abbrev path : List ℕ
  path = path_blocks g.words b (root_height g b f) (root_block g b f) (size g b f) o (length new)

  changed : Changed g.words b b₂ (block_count g b - 1) (root_height g b f) (root_block g b f) (root_block g b₂ f) (size g b f) m o new (λ q. used fresh q c (length ps)) (λ q. occ q path)
  changed =
      let count : fresh_need g.words b (root_height g b f) (root_block g b f) (size g b f) o (length new) ≡ length ps = sym (length_build g.words pos b fresh (root_height g b f) (root_block g b f) (size g b f) o new c) in
      rw block_new (subst
      (λ (x : ℕ). Changed g.words b b₂ (block_count g b - 1) (root_height g b f) (root_block g b f) (fresh (c + x - 1)) (size g b f) m o new (λ q. used fresh q c x) (λ q. occ q path)) count
      (build_changed g.words pos b fresh b₂ supply.between (root_height g b f) (root_block g b f) (size g b f) o new c m
      (touched_new g.words (root_height g b f) (root_block g b f) (size g b f) o (length new) some) (omega (arith, count)) w.small tree_held (tree_stays f file) (omega arith) (omega arith) (λ u. omega arith) reach))

  written : Written g b b₂ f (root_height g b f) (root_block g b f) o m new (λ q. used fresh q c (length ps)) (λ q. occ q path)
  written = record {
    old = λ z. (refl, refl);
    height = height_new;
    now = size_new;
    low = ok.low f file live;
    most = omega arith;
    past = past_span o new (span g.words (root_height g b f)) m under;
    change = changed;
  }

  moved : OneFile g b b₂ f (spliced g b f o new m) (λ q. one q copied) (λ q. one q (leaf g b l₀)) (λ q. used fresh q c (length ps)) (λ q. occ q path)
  moved = record {
    lengths = len;
    trailers = rw (← (trailer_kept g b b₂ len fit trailers)) (accepted_parts g b board).trailers;
    inode = inode;
    leaves = leaves_sound;
    spares = spares_sound_law;
    leaves_stay = leaf_stays;
    leaf_moved = λ q. omega (arith, ap (one q) leaf_new);
    others = others;
    file = written_commit fit len written (ok.pointers.tree f file);
    spare = λ q. omega (arith, supply_once supply ok.once (length ps + 1) (omega arith) q, used_add fresh q c (length ps) 1, used_one fresh q (c + length ps));
  }

  leaf_lives : (q : ℕ) → occ q (live_blocks g b₂) + occ q (leaf g b l₀ ∷ path) ≡ occ q (live_blocks g b) + used fresh q c (length ps + 1)
  unfolding occ
  leaf_lives q = omega (
    arith,
    one_file_counts w.on moved q,
    used_add fresh q c (length ps) 1,
    used_one fresh q (c + length ps),
  )

  pub leaf_good : GoodTurn g b f (leaf_step g fresh b f o new c) (spliced g b f o new (max (size g b f) (o + length new))) (λ q. used fresh q c (length (tree_pages g fresh b f o new c) + 1))
      (λ q. occ q (leaf g b (f / g.inodes) ∷ path_blocks g.words b (root_height g b f) (root_block g b f) (size g b f) o (length new)))
  unfolding step store committed b₂ c₁
  leaf_good = record {
    good = record {
      hides = pages_hidden fit board supply pages pages_room;
      once = pages_once fit board supply pages pages_room;
      within = rw commit_block ok.pointers.inode;
      outcome = one_file w.on moved;
    };
    lives = leaf_lives;
  }

  -- ---- The board that it leaves

  pub leaf_held : held g.words fresh (committed b (leaf_step g fresh b f o new c)) ps c
  unfolding step store committed b₂ c₁
  leaf_held = tree_held

  pub leaf_height : root_height g (committed b (leaf_step g fresh b f o new c)) f ≡ root_height g b f
  unfolding step store committed b₂ c₁
  leaf_height = height_new

  pub leaf_block : root_block g (committed b (leaf_step g fresh b f o new c)) f ≡ fresh (c + length ps - 1)
  unfolding step store committed b₂ c₁
  leaf_block = block_new

  pub leaf_size : size g (committed b (leaf_step g fresh b f o new c)) f ≡ m
  unfolding step store committed b₂ c₁
  leaf_size = size_new
