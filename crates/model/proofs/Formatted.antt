-- Format: how many pairs its plan has, and what it leaves once performed, for every layout that fits and every block count.
use mathlib.Core.Path.{◌≡◌, refl, sym, ap, ◌∙◌}
use mathlib.Core.Logic.{◌≢◌, inl, inr}
use mathlib.Core.Bool.{◌&&◌}
use mathlib.Core.List.{List, [], ◌∷◌, ◌++◌}
use Prim.Native.Nat.{ℕ, suc, ◌+◌, ◌-◌, ◌*◌, ◌/◌, ◌%◌, ◌^◌, ◌≤◌, ◌<◌}
use native.Mathlib.Omega.{arith}
use native.Mathlib.Nat.{add_assoc, mul-add, mul-one, mul-suc, mul-div_right, mul-mod_right, mod-eq_of_lt, add-mod_left}
use lib.ListN.{length, get_or, set, length-set, length-append, length-replicate, get_or-replicate}
use lib.Seq.{get_or-set_same, get_or-set_other}
use lib.Dec.{T, eqb, eqb_refl, lit≤, lit<}
use borrow.Author.Tests.{le-leb, lt-ltb, le-ltb}
use Rattle.model.specs.Lists.{tabulate, every, concat, occ}
use Rattle.model.specs.Layout.{Kind}
use Rattle.model.specs.Layout.{House, Published}
use Rattle.model.specs.Layout.{Layout, Fits, house, published, layout_of, files}
use Rattle.model.specs.Tree.{cell}
use Rattle.model.specs.Board.{root_blocks, root_sound, trailer_word, greatest, block_count, trailer, inode_block, inode_pointer, leaf, root_address, size_address, root_height, root_block, size, contents, file_blocks, live_blocks, in_range, word_count_sound, trailer_sound, leaf_sound, spare_sound, file_sound}
use Rattle.model.specs.Store.{Store, store, barrier, performed, stores, fenced}
use Rattle.model.specs.Plan.{plan, step, step_epochs, plan_epochs, pairs}
use Rattle.model.specs.Fresh.{Page, stored}
use Rattle.model.specs.Format.{inode_page, format_pages, trailer_address, trailer_stores, format_plan}
use Rattle.model.specs.Claims.{Empty}
use Rattle.model.proofs.Cases.{decide, and_both, every_all, tabulate_cong, joined_none}
use Rattle.model.proofs.Counting.{one_same, one_other, occ_append, occ_tabulate, sum_none, sum_once}
use Rattle.model.proofs.Perform.{All, Plain, all_append, all_tabulate, length_tabulate, length_performed, performed_append, performed_away, performed_tabulate, stores_fenced, address_block, block_on, blocks_differ, length_stored, stored_blocks, stored_cell}
use Rattle.model.proofs.Addresses.{all_concat}
use Rattle.model.proofs.Trees.{blocks_dead}
use Rattle.model.proofs.Shown.{count_kept, words_kept, leaf_of, slot}
use Rattle.model.proofs.Accepting.{Counted, counted, in_range_law, parts_accepted}

-- what format leaves on b' in place of b
pub record Formatted (g : Layout) (b b' : List ℕ) : Type 0 where
  pub lengths : length b' ≡ length b
  pub inode_root : trailer g b' 0 ≡ g.words + 1
  pub trailers : (j : ℕ) → suc j < g.words → trailer g b' (suc j) ≡ trailer_word g (block_count g b) (suc j)
  pub pointers : (l : ℕ) → l < g.leaves → cell g.words b' 1 l ≡ g.words * (2 + l)
  pub spares_zero : (l : ℕ) → g.leaves ≤ l → l < g.words → cell g.words b' 1 l ≡ 0
  pub leaves_zero : (l j : ℕ) → l < g.leaves → j < g.words → cell g.words b' (2 + l) j ≡ 0

-- ---- Such a board has only empty files

module _ (g : Layout) (fit : Fits g) (b b' : List ℕ) (ok : T (word_count_sound g b)) (p : Formatted g b b') where
  n : Counted g b
  n = counted g fit b ok

  pos : 0 < g.words
  pos = omega (arith, fit.trailer_fits)

  same_count : block_count g b' ≡ block_count g b
  same_count = count_kept g b' b p.lengths

  inode_block_law : inode_block g b' ≡ 1
  unfolding inode_block
  inode_block_law = rw p.inode_root (ap (λ (x : ℕ). (x + 1) / g.words) (sym (mul-one g.words)) ∙ address_block g.words 1 1 (omega (arith, fit.trailer_fits)))

  leaf_is : (l : ℕ) → l < g.leaves → leaf g b' l ≡ 2 + l
  unfolding leaf inode_pointer
  leaf_is l h = rw (inode_block_law, p.pointers l h) (mul-div_right (2 + l) pos)

  size_zero : (f : ℕ) → f < files g → size g b' f ≡ 0
  unfolding size size_address root_address cell
  size_zero f h =
      let l : f / g.inodes < g.leaves = leaf_of g fit f h in
      rw (leaf_is (f / g.inodes) l, add_assoc (g.words * (2 + f / g.inodes)) (2 * (f % g.inodes)) 1) (p.leaves_zero (f / g.inodes) (2 * (f % g.inodes) + 1) l (slot g fit f))

  low_range : (k : ℕ) → 0 < k → k < 15 → T (in_range g b' k)
  low_range k u v = in_range_law g b' k (u, rw same_count (omega (arith, n.blocks_least)))

  trailer_sound_law : T (trailer_sound g b')
  unfolding trailer_sound
  trailer_sound_law =
      and_both (eqb (trailer g b' 0 % g.words) 1 && in_range g b' (inode_block g b')) (every (g.words - 1) (λ j. eqb (trailer g b' (suc j)) (trailer_word g (block_count g b') (suc j))))
      (and_both (eqb (trailer g b' 0 % g.words) 1) (in_range g b' (inode_block g b'))
      (let wide : 1 < g.words = omega (arith, fit.trailer_fits) in rw (p.inode_root, add-mod_left g.words 1, mod-eq_of_lt wide) tt)
      (rw inode_block_law (low_range 1 (omega arith) (omega arith))))
      (every_all (g.words - 1) (λ j. eqb (trailer g b' (suc j)) (trailer_word g (block_count g b') (suc j)))
      (λ j l. rw (same_count, p.trailers j (omega arith)) (eqb_refl (trailer_word g (block_count g b) (suc j)))))

  leaf_sound_law : (l : ℕ) → l < g.leaves → T (leaf_sound g b' l)
  unfolding leaf_sound inode_pointer
  leaf_sound_law l h =
      and_both (eqb (cell g.words b' (inode_block g b') l % g.words) 0) (in_range g b' (leaf g b' l))
      (rw (inode_block_law, p.pointers l h, mul-mod_right g.words (2 + l)) tt)
      (rw (leaf_is l h) (low_range (2 + l) (omega arith) (omega (arith, fit.format_fits))))

  spare_sound_law : (j : ℕ) → j < g.words - g.leaves → T (spare_sound g b' j)
  unfolding spare_sound inode_pointer
  spare_sound_law j h = rw (inode_block_law, p.spares_zero (g.leaves + j) (omega arith) (omega arith)) tt

  file_sound_law : (f : ℕ) → f < files g → T (file_sound g b' f)
  unfolding file_sound root_sound
  file_sound_law f h = rw (size_zero f h, le-leb 0 (greatest g) (omega arith)) tt

  no_blocks : (f : ℕ) → f < files g → file_blocks g b' f ≡ []
  unfolding file_blocks root_blocks
  no_blocks f h = rw (size_zero f h) (blocks_dead g.words b' (root_height g b' f) (root_block g b' f))

  pub live_are : live_blocks g b' ≡ 1 ∷ (tabulate g.leaves (λ l. 2 + l) ++ [])
  unfolding live_blocks
  live_are = rw (inode_block_law, tabulate_cong g.leaves (leaf g b') (λ l. 2 + l) leaf_is, joined_none (files g) (file_blocks g b') no_blocks)

  live_once : (q : ℕ) → occ q (1 ∷ (tabulate g.leaves (λ l. 2 + l) ++ [])) ≤ 1
  unfolding occ
  live_once q = elim (decide q 1) [
    | inl e ↦ rw e (grind (arith, one_same 1, occ_append 1 (tabulate g.leaves (λ l. 2 + l)) [], occ_tabulate 1 g.leaves (λ l. 2 + l), sum_none 1 g.leaves (λ l. 2 + l) (λ j l. omega arith)))
    | inr d ↦ omega (arith, one_other q 1 d, occ_append q (tabulate g.leaves (λ l. 2 + l)) [], occ_tabulate q g.leaves (λ l. 2 + l), sum_once q g.leaves (λ l. 2 + l) (λ i j u v. omega arith))
  ]

  pub formatted_empty : Empty g b'
  unfolding contents tabulate
  formatted_empty = record {
    board = parts_accepted g b' (record {
      words = rw (words_kept g b' b p.lengths) ok;
      trailers = trailer_sound_law;
      leaves = leaf_sound_law;
      spares = spare_sound_law;
      files_sound = file_sound_law;
      once = λ q. rw live_are (live_once q);
    });
    files_empty = λ f h. rw (size_zero f h);
  }

-- ---- Format leaves such a board

step_epochs_law : (ss : List Store) (c : Store) → 0 < length ss → step_epochs ss c ≡ ss ∷ (c ∷ []) ∷ []
unfolding step_epochs
step_epochs_law [] c l = absurd (omega arith)
step_epochs_law (s ∷ ss) c l = refl

-- the stores of the plan: word 0 of the trailer becomes 0, its word i + 1 is stored, and word 0 commits
abbrev pub clears : Layout → List ℕ → Store
clears g b = store (trailer_address g b 0) 0

abbrev pub trailer_store : Layout → List ℕ → ℕ → Store
trailer_store g b i = store (trailer_address g b (suc i)) (trailer_word g (block_count g b) (suc i))

abbrev pub commits : Layout → List ℕ → Store
commits g b = store (trailer_address g b 0) (g.words + 1)

-- the middle epoch: pages, then trailer words
unfoldable pub pages : Layout → List Store
pages g = stored g.words (λ c. c) (format_pages g) 1

unfoldable pub filling : Layout → List ℕ → List Store
filling g b = pages g ++ trailer_stores g b

-- the three epochs
abbrev pub format_epochs : Layout → List ℕ → List (List Store)
format_epochs g b = (clears g b ∷ []) ∷ filling g b ∷ (commits g b ∷ []) ∷ []

pub length_pages : (g : Layout) → length (format_pages g) ≡ suc g.leaves
unfolding format_pages
length_pages g = ap suc (length-replicate {A = Page} g.leaves (λ j. 0))

module _ (g : Layout) (fit : Fits g) (b : List ℕ) where
  length_filling : length (filling g b) ≡ g.words * (g.leaves + 2) - 1
  unfolding filling pages trailer_stores
  length_filling = rw (length-append (pages g) (trailer_stores g b)) (
      omega (
        arith,
        fit.trailer_fits,
        length_stored g.words (λ c. c) (format_pages g) 1,
        length_tabulate (g.words - 1) (trailer_store g b),
        ap (λ (x : ℕ). g.words * x) (length_pages g),
        mul-suc g.words g.leaves,
        mul-add g.words g.leaves 2,
      )
      )

  pub filling_some : 0 < length (filling g b)
  filling_some = omega (arith, length_filling, fit.trailer_fits, mul-add g.words g.leaves 2)

  pub format_epochs_law : plan_epochs (format_plan g b).steps ≡ format_epochs g b
  unfolding format_plan plan step plan_epochs step_epochs filling pages
  format_epochs_law = ap (λ (r : List (List Store)). (clears g b ∷ []) ∷ (r ++ [])) (step_epochs_law (filling g b) (commits g b) filling_some)

  -- the middle epoch's stores go to the first blocks and to the trailer past word 0
  pub filling_goes : (P : ℕ → Type 0) → ((k j : ℕ) → 0 < k → k < 15 → j < g.words → P (g.words * k + j)) → ((j : ℕ) → suc j < g.words → P (trailer_address g b (suc j)))
      → All (λ s. P s.at) (filling g b)
  unfolding filling pages trailer_stores store
  filling_goes P p q = all_append (λ s. P s.at) (pages g) (trailer_stores g b)
      (stored_blocks g.words (λ c. c) P (format_pages g) 1 (λ k j u v l. p k j (omega arith) (omega (arith, length_pages g, fit.format_fits)) l))
      (all_tabulate (λ s. P s.at) (g.words - 1) (trailer_store g b) (λ j l. q j (omega arith)))

  -- *Its plan has 83 pairs*
  pub format_pairs : length (pairs (format_plan g b)) ≡ g.words * (g.leaves + 2) + 3
  unfolding pairs fenced
  format_pairs = rw format_epochs_law (omega (arith, length-append (filling g b) (barrier ∷ commits g b ∷ []), length_filling, fit.trailer_fits, mul-add g.words g.leaves 2))

module _ (g : Layout) (fit : Fits g) (b : List ℕ) (ok : T (word_count_sound g b)) where
  start : List ℕ
  start = set b (trailer_address g b 0) 0

  paged : List ℕ
  unfolding start
  paged = performed start (pages g)

  trailed : List ℕ
  unfolding paged
  trailed = performed paged (trailer_stores g b)

  -- the board with the whole plan performed
  done : List ℕ
  unfolding trailed
  done = set trailed (trailer_address g b 0) (g.words + 1)

  size_of : Counted g b
  size_of = counted g fit b ok

  -- the words of a block below B are on the board
  on_board : (k j : ℕ) → k < block_count g b → j < g.words → g.words * k + j < length b
  on_board k j u l = omega (arith, size_of.whole, block_on g.words k (block_count g b) u)

  pub trailer_on : (j : ℕ) → j < g.words → trailer_address g b j < length b
  unfolding trailer_address
  trailer_on j l = on_board (block_count g b - 1) j (omega (arith, size_of.blocks_least)) l

  length_start : length start ≡ length b
  unfolding start
  length_start = length-set b (trailer_address g b 0) 0

  length_paged : length paged ≡ length b
  unfolding paged
  length_paged = length_performed start (pages g) ∙ length_start

  length_trailed : length trailed ≡ length b
  unfolding trailed
  length_trailed = length_performed paged (trailer_stores g b) ∙ length_paged

  length_done : length done ≡ length b
  unfolding done
  length_done = length-set trailed (trailer_address g b 0) (g.words + 1) ∙ length_trailed

  -- words of blocks 0 to 14 are no trailer's
  trailer_away : (k j : ℕ) → k < 15 → j < g.words → (i : ℕ) → i < g.words → g.words * k + j ≢ trailer_address g b i
  unfolding trailer_address
  trailer_away k j u l i m = blocks_differ g.words k (block_count g b - 1) j i l m (omega (arith, size_of.blocks_least))

  stay : (k j : ℕ) → k < 15 → j < g.words → cell g.words done k j ≡ cell g.words paged k j
  unfolding done trailed trailer_stores store cell
  stay k j u l =
      get_or-set_other trailed (trailer_address g b 0) (g.words * k + j) (g.words + 1) 0 (trailer_away k j u l 0 (omega arith))
      ∙ performed_away paged (trailer_stores g b) (g.words * k + j) (
      all_tabulate (λ s. g.words * k + j ≢ s.at) (g.words - 1) (trailer_store g b)
      (λ i m. trailer_away k j u l (suc i) (omega arith))
      )

  page_held : (i j : ℕ) → i < suc g.leaves → j < g.words → cell g.words done (1 + i) j ≡ get_or (format_pages g) i (λ x. 0) j
  unfolding paged pages
  page_held i j u l =
      stay (1 + i) j (omega (arith, fit.format_fits)) l
      ∙ stored_cell g.words (λ c. c) start (format_pages g) 1
      (λ k v w. omega (arith, length_start, size_of.whole, size_of.blocks_least, length_pages g, fit.format_fits, block_on g.words k (block_count g b) (omega (arith, length_pages g, fit.format_fits, size_of.blocks_least))))
      (λ x y v w m. omega arith) i j (omega (arith, length_pages g)) l

  trailer_held : (j : ℕ) → suc j < g.words → get_or done (trailer_address g b (suc j)) 0 ≡ trailer_word g (block_count g b) (suc j)
  unfolding done trailed trailer_stores store trailer_address
  trailer_held j l =
      get_or-set_other trailed (trailer_address g b 0) (trailer_address g b (suc j)) (g.words + 1) 0 (omega arith)
      ∙ performed_tabulate paged (g.words - 1) (trailer_store g b)
      (λ i m. omega (arith, length_paged, trailer_on (suc i) (omega arith))) (λ x y v w. omega arith) j (omega arith)

  same_blocks : block_count g done ≡ block_count g b
  same_blocks = count_kept g done b length_done

  root_held : get_or done (trailer_address g b 0) 0 ≡ g.words + 1
  unfolding done
  root_held = get_or-set_same trailed (trailer_address g b 0) (g.words + 1) 0 (omega (arith, length_trailed, trailer_on 0 (omega (arith, fit.trailer_fits))))

  pointer_held : (l : ℕ) → l < g.leaves → cell g.words done 1 l ≡ g.words * (2 + l)
  unfolding format_pages inode_page
  pointer_held l h = page_held 0 l (omega arith) (omega (arith, fit.leaves_fit)) ∙ rw (lt-ltb l g.leaves h)

  spare_held : (l : ℕ) → g.leaves ≤ l → l < g.words → cell g.words done 1 l ≡ 0
  unfolding format_pages inode_page
  spare_held l u h = page_held 0 l (omega arith) h ∙ rw (le-ltb l g.leaves u)

  leaf_held : (l j : ℕ) → l < g.leaves → j < g.words → cell g.words done (2 + l) j ≡ 0
  unfolding format_pages
  leaf_held l j h m =
      let e : 2 + l ≡ 1 + suc l = omega arith in
      rw e (page_held (suc l) j (omega arith) m ∙ ap (λ (p : Page). p j) (get_or-replicate {A = Page} g.leaves l (λ x. 0) (λ x. 0) h))

  formatted : Formatted g b done
  unfolding trailer cell trailer_address
  formatted = record {
    lengths = length_done;
    inode_root = rw same_blocks root_held;
    trailers = λ j l. rw same_blocks (trailer_held j l);
    pointers = pointer_held;
    spares_zero = spare_held;
    leaves_zero = leaf_held;
  }

  -- what is so of every address on the board is so of the plan's
  goes : (P : ℕ → Type 0) → ((x : ℕ) → x < length b → P x) → All (All (λ s. P s.at)) (format_epochs g b)
  unfolding All store
  goes P p =
      let first : P (trailer_address g b 0) = p (trailer_address g b 0) (trailer_on 0 (omega (arith, fit.trailer_fits))) in
      let middle : All (λ s. P s.at) (filling g b) = filling_goes g fit b P
      (λ k j u v l. p (g.words * k + j) (on_board k j (omega (arith, size_of.blocks_least)) l))
      (λ j l. p (trailer_address g b (suc j)) (trailer_on (suc j) l)) in
      ((first, tt), (middle, ((first, tt), tt)))

  -- no store of the plan is a barrier
  pub format_plain : All Plain (format_epochs g b)
  format_plain = goes (λ x. x ≢ 2 ^ 64 - 1) (λ x l. omega (arith, size_of.below))

  pub format_stores : stores (pairs (format_plan g b)) ≡ clears g b ∷ (filling g b ++ (commits g b ∷ []))
  unfolding pairs concat
  format_stores = rw (format_epochs_law g fit b) (stores_fenced (format_epochs g b) format_plain)

  -- and all of them go to the board
  pub format_on : All (λ s. s.at < length b) (stores (pairs (format_plan g b)))
  unfolding concat
  format_on = rw format_stores (all_concat (λ s. s.at < length b) (format_epochs g b) (goes (λ x. x < length b) (λ x l. l)))

  -- format's stores, all performed
  performed_done : performed b (stores (pairs (format_plan g b))) ≡ done
  unfolding performed start paged trailed done filling store
  performed_done = rw (
    format_stores,
    performed_append (set b (trailer_address g b 0) 0) (filling g b) (commits g b ∷ []),
    performed_append (set b (trailer_address g b 0) 0) (pages g) (trailer_stores g b),
  )

  -- *32 empty files*
  pub format_empties : Empty g (performed b (stores (pairs (format_plan g b))))
  format_empties = rw performed_done (formatted_empty g fit b done ok formatted)

  pub format_lives : live_blocks g (performed b (stores (pairs (format_plan g b)))) ≡ 1 ∷ (tabulate g.leaves (λ l. 2 + l) ++ [])
  format_lives = rw performed_done (live_are g fit b done ok formatted)

-- ---- Each kind's boards

pub house_fits : Fits house
house_fits = record { trailer_fits = lit≤ tt; leaves_fit = lit≤ tt; inodes_fit = lit≤ tt; inodes_some = lit< tt; heights_fit = lit< tt; format_fits = lit≤ tt; addresses_fit = lit< tt }

pub published_fits : Fits published
published_fits = record { trailer_fits = lit≤ tt; leaves_fit = lit≤ tt; inodes_fit = lit≤ tt; inodes_some = lit< tt; heights_fit = lit< tt; format_fits = lit≤ tt; addresses_fit = lit< tt }

-- the laws hold of every kind
pub fits : (k : Kind) → Fits (layout_of k)
fits House = house_fits
fits Published = published_fits

-- on every board whose word count is in order
pub house_format : (b : List ℕ) → T (word_count_sound house b) → (length (pairs (format_plan house b)) ≡ 83) × Empty house (performed b (stores (pairs (format_plan house b))))
house_format b ok = (format_pairs house house_fits b, format_empties house house_fits b ok)

pub published_format : (b : List ℕ) → T (word_count_sound published b)
    → (length (pairs (format_plan published b)) ≡ 1539) × Empty published (performed b (stores (pairs (format_plan published b))))
published_format b ok = (format_pairs published published_fits b, format_empties published published_fits b ok)
