-- Boards that are alike outside block 0 have the same plans: each way of planning a write, growth before it, and length change. A file's plan is
-- read off its inode and its tree, so all that is asked of a board is that the file's inode is found outside block 0 (Found).
use Rattle.std.specs.Prelude.{Option, Some, None}
use mathlib.Core.Path.{◌≡◌, refl, ◌∙◌}
use mathlib.Core.Bool.{Bool, true, false, not, cond, ◌&&◌, ◌||◌}
use mathlib.Core.List.{List, [], ◌∷◌, ◌++◌}
use Prim.Native.Nat.{ℕ, zero, suc, ◌+◌, ◌-◌, ◌*◌, ◌/◌, ◌%◌, ◌≤◌, ◌<◌, max}
use native.Mathlib.Omega.{arith}
use native.Mathlib.Nat.{le-div_iff_mul-le}
use lib.ListN.{length, get_or, replicate}
use lib.Dec.{leb, ltb, eqb}
use Rattle.model.specs.declared.Inode.{Inode}
use Rattle.model.specs.Lists.{joined, sum, choose, concat}
use Rattle.model.specs.Words.{byte_of, word_of}
use Rattle.model.specs.Layout.{Layout}
use Rattle.model.specs.Tree.{live, seen, ending, span, least, cell}
use Rattle.model.specs.Board.{root_address, size_address, root, size, file_walk, inode_of}
use Rattle.model.specs.Store.{Store, store, performed}
use Rattle.model.specs.Plan.{Plan, plan, step, plan_epochs, afterwards}
use Rattle.model.specs.Fresh.{Page, splice, part, part_length, touched, fresh_need, fresh_before, data_page, stored, fresh_pointer, pointer_page, build}
use Rattle.model.specs.InPlace.{at_block, tail_before, walk_live, tail_pages, tail_words, hooked, in_place}
use Rattle.model.specs.Change.{growth, grown_inode, spliced_word, single_block, single_word, is_tail, empty_tail_to, empty_tail, tail, Shadow, descend, shadow_inside, replaced, copied_leaf, leaf_page, shadow_with_length, chosen_way, grown_plan, some_plan, write_plan, cleared, length_plan}
use Rattle.boot.proofs.Alike.{Alike, performed_alike, Off, off_cond, file_walk_off, cell_alike, link_alike, Found, inode_alike, address_alike, address_off, root_alike, size_alike, file_walk_alike}

-- ---- Trees

-- the descent arrives at no word of block 0
descend_off : (W : ℕ) (fresh : ℕ → ℕ) (b : List ℕ) (h k n o : ℕ) (new : List ℕ) (c a : ℕ) → W ≤ a → W ≤ (descend W fresh b h k n o new c a).at
unfolding descend
descend_off W fresh b zero k n o new c a l = l
descend_off W fresh b (suc h) zero n o new c a l = l
descend_off W fresh b (suc h) (suc k) n o new c a l =
    let j : ℕ = o / span W h in
    let below : Shadow = descend W fresh b h (cell W b (suc k) j / W) (n - j * span W h) (o % span W h) new c (W * suc k + j) in
    let here : Shadow = record { at = a; pages = build W fresh b (suc h) (suc k) n o new c } in
    by (leb (o % span W h + length new) (span W h)) below here
    (descend_off W fresh b h (cell W b (suc k) j / W) (n - j * span W h) (o % span W h) new c (W * suc k + j) (omega arith)) l
  where
    by : (t : Bool) (x y : Shadow) → W ≤ x.at → W ≤ y.at → W ≤ (cond t x y).at
    by true x y u v = u
    by false x y u v = v

module _ (W : ℕ) {b b' : List ℕ} (same : Alike W b b') where
  data_alike : (k n o : ℕ) (new : List ℕ) → data_page W b k n o new ≡ data_page W b' k n o new
  unfolding data_page
  data_alike k n o new = λ t j. word_of 8 (λ i. splice o new (seen (n - (8 * j + i)) (byte_of (link_alike W same k j t) i)) (8 * j + i))

  walk_live_alike : (h k n : ℕ) → walk_live W b h k n ≡ walk_live W b' h k n
  unfolding walk_live
  walk_live_alike zero k n = refl
  walk_live_alike (suc h) k n = λ t. choose (n % span W h) (ending k n) (walk_live_alike h (link_alike W same k (n / span W h) t / W) (n % span W h) t)

  tail_words_alike : (k n : ℕ) (new : List ℕ) → tail_words W b k n new ≡ tail_words W b' k n new
  unfolding tail_words
  tail_words_alike k n new = λ t. joined W (λ j. choose (part_length 8 j n (length new)) [] (store (W * k + j) (data_alike k n n new t j) ∷ []))

  in_place_alike : (hook : ℕ → ℕ → ℕ → ℕ) (h k n : ℕ) (new : List ℕ) (c a : ℕ) → in_place W b hook h k n new c a ≡ in_place W b' hook h k n new c a
  unfolding in_place hooked
  in_place_alike hook zero k zero new c a = refl
  in_place_alike hook zero zero (suc n) new c a = refl
  in_place_alike hook zero (suc k) (suc n) new c a = tail_words_alike (suc k) (suc n) new
  in_place_alike hook (suc h) k zero new c a = refl
  in_place_alike hook (suc h) zero (suc n) new c a = refl
  in_place_alike hook (suc h) (suc k) (suc n) new c a =
      λ t. joined W (λ j. in_place_alike hook h (cell_alike W same (suc k) j (omega arith) t / W) (suc n - j * span W h) (part (span W h) j (suc n) new)
      (c + tail_before W h (suc n) (length new) j) (W * suc k + j) t)

  need_alike : (h k n o l : ℕ) → fresh_need W b h k n o l ≡ fresh_need W b' h k n o l
  unfolding fresh_need
  need_alike zero k n o l = refl
  need_alike (suc h) k n o l = λ t. cond (touched W (suc h) k n o l)
      (suc (sum W (λ j. need_alike h (link_alike W same k j t / W) (n - j * span W h) (o - j * span W h) (part_length (span W h) j o l) t))) 0

  before_alike : (h k n o l j : ℕ) → fresh_before W b h k n o l j ≡ fresh_before W b' h k n o l j
  unfolding fresh_before
  before_alike h k n o l j = λ t. sum j (λ i. need_alike h (link_alike W same k i t / W) (n - i * span W h) (o - i * span W h) (part_length (span W h) i o l) t)

  module _ (fresh : ℕ → ℕ) where
    pointer_page_alike : (h k n o l c : ℕ) → pointer_page W fresh b h k n o l c ≡ pointer_page W fresh b' h k n o l c
    unfolding pointer_page
    pointer_page_alike h k n o l c = λ t j.
        let m : ℕ = need_alike h (link_alike W same k j t / W) (n - j * span W h) (o - j * span W h) (part_length (span W h) j o l) t in
        choose m (seen (n - j * span W h) (link_alike W same k j t)) (W * fresh (c + before_alike h k n o l j t + m - 1))

    build_alike : (h k n o : ℕ) (new : List ℕ) (c : ℕ) → build W fresh b h k n o new c ≡ build W fresh b' h k n o new c
    unfolding build
    build_alike zero k n o new c = λ t. cond (touched W zero k n o (length new)) (data_alike k n o new t ∷ []) []
    build_alike (suc h) k n o new c =
        λ t. cond (touched W (suc h) k n o (length new)) (joined W (λ j. build_alike h (link_alike W same k j t / W) (n - j * span W h) (o - j * span W h) (part (span W h) j o new)
        (c + before_alike h k n o (length new) j t) t)
        ++ (pointer_page_alike h k n o (length new) c t ∷ [])) []

    tail_pages_alike : (h k n : ℕ) (new : List ℕ) (c : ℕ) → tail_pages W b fresh h k n new c ≡ tail_pages W b' fresh h k n new c
    unfolding tail_pages
    tail_pages_alike zero k zero new c = build_alike zero 0 0 0 new c
    tail_pages_alike zero k (suc n) new c = refl
    tail_pages_alike (suc h) k zero new c = build_alike (suc h) 0 0 0 new c
    tail_pages_alike (suc h) k (suc n) new c =
        λ t. joined W (λ j. tail_pages_alike h (link_alike W same k j t / W) (suc n - j * span W h) (part (span W h) j (suc n) new)
        (c + tail_before W h (suc n) (length new) j) t)

    descend_alike : (h k n o : ℕ) (new : List ℕ) (c a : ℕ) → descend W fresh b h k n o new c a ≡ descend W fresh b' h k n o new c a
    unfolding descend
    descend_alike zero k n o new c a = λ t. record { at = a; pages = build_alike zero k n o new c t }
    descend_alike (suc h) zero n o new c a = λ t. record { at = a; pages = build_alike (suc h) zero n o new c t }
    descend_alike (suc h) (suc k) n o new c a = λ t.
        let j : ℕ = o / span W h in
        let here : Shadow = record { at = a; pages = build_alike (suc h) (suc k) n o new c t } in
        let below : Shadow = descend_alike h (cell_alike W same (suc k) j (omega arith) t / W) (n - j * span W h) (o % span W h) new c (W * suc k + j) t in
        cond (leb (o % span W h + length new) (span W h)) below here

-- ---- Ways of planning

single_off : (g : Layout) (b : List ℕ) (f o e : ℕ) → Off (single_block g b f o e)
unfolding single_block
single_off g b f o e = off_cond (leb e (size g b f) && eqb (o / 8) ((e - 1) / 8)) (file_walk g b f o) (file_walk_off g b f o)

module _ (g : Layout) {b b' : List ℕ} (same : Alike g.words b b') {f : ℕ} (found : Found g b f) where
  address : root_address g b f ≡ root_address g b' f
  address = address_alike g same found

  root_word : root g b f ≡ root g b' f
  root_word = root_alike g same found

  sizes : size g b f ≡ size g b' f
  sizes = size_alike g same found

  size_address_law : size_address g b f ≡ size_address g b' f
  unfolding size_address
  size_address_law = λ t. address t + 1

  single_block_alike : (o e : ℕ) → single_block g b f o e ≡ single_block g b' f o e
  unfolding single_block
  single_block_alike o e = λ t. cond (leb e (sizes t) && eqb (o / 8) ((e - 1) / 8)) (file_walk_alike g same found o t) None

  single_word_alike : (k o : ℕ) (new : List ℕ) → 0 < k → single_word g b k o new ≡ single_word g b' k o new
  unfolding single_word cell
  single_word_alike k o new l = λ t.
      let j : ℕ = o % span g.words 0 / 8 in
      plan (step [] (g.words * k + j) (spliced_word (o % 8) new (cell_alike g.words same k j l t)) ∷ []) 0

  cleared_alike : (s n : ℕ) → cleared g b f s n ≡ cleared g b' f s n
  unfolding cleared
  cleared_alike zero n = λ t. store (address t) 0 ∷ []
  cleared_alike (suc s) n =
      λ t. in_place_alike g.words same (λ h l c. 0) (root_word t % g.words) (root_word t / g.words) (suc s) (replicate (n - suc s) 0) 0 (address t) t

  pub length_plan_alike : (n : ℕ) → length_plan g b f n ≡ length_plan g b' f n
  unfolding length_plan
  length_plan_alike n = λ t.
      let hidden : List Store = cond (ltb n (sizes t)) [] (cleared_alike (sizes t) n t) in
      cond (eqb n (sizes t)) (plan [] 0) (plan (step hidden (size_address_law t) n ∷ []) 0)

  lent_inode_alike : inode_of g b f ≡ inode_of g b' f
  lent_inode_alike = λ t. record { pointer = g.words * inode_alike g same found.trailer_there t + f / g.inodes; at = address t; root = root_word t; size = sizes t }

-- ways 4 to 6, of an inode that stands outside block 0
module _ (g : Layout) {b b' : List ℕ} (same : Alike g.words b b') (pos : 0 < g.words) (n : Inode) (off : g.words ≤ n.at) where
  is_tail_alike : (o : ℕ) → is_tail g b n o ≡ is_tail g b' n o
  unfolding is_tail
  is_tail_alike o = λ t. not (live n.size) || eqb o n.size && at_block (walk_live_alike g.words same (n.root % g.words) (n.root / g.words) n.size t)

  module _ (fresh : ℕ → ℕ) where
    empty_tail_alike : (o : ℕ) (new : List ℕ) (c : ℕ) → empty_tail g fresh b n o new c ≡ empty_tail g fresh b' n o new c
    unfolding empty_tail_to empty_tail
    empty_tail_alike o new c = λ t.
        let h : ℕ = least g.words g.height (o + length new) in
        let ps : List Page = build_alike g.words same fresh h 0 0 o new c t in
        let hook : Store = store n.at (fresh_pointer g.words fresh h o (length new) c + h) in
        plan (step (stored g.words fresh ps c ++ (hook ∷ [])) (n.at + 1) (o + length new) ∷ []) (c + length ps)

    tail_alike : (s o : ℕ) (new : List ℕ) (c : ℕ) → tail g fresh b n s o new c ≡ tail g fresh b' n s o new c
    unfolding tail
    tail_alike zero o new c = empty_tail_alike o new c
    tail_alike (suc s) o new c = λ t.
        let h : ℕ = n.root % g.words in
        let k : ℕ = n.root / g.words in
        let ps : List Page = tail_pages_alike g.words same fresh h k (suc s) new c t in
        let others : List Store = in_place_alike g.words same (λ h l i. fresh_pointer g.words fresh h 0 l i) h k (suc s) new c n.at t in
        plan (step (stored g.words fresh ps c ++ others) (n.at + 1) (suc s + length new) ∷ []) (c + length ps)

    shadow_inside_alike : (o : ℕ) (new : List ℕ) (c : ℕ) → shadow_inside g fresh b n o new c ≡ shadow_inside g fresh b' n o new c
    unfolding shadow_inside
    shadow_inside_alike o new c =
        let W : ℕ = g.words in
        let w : Shadow = descend W fresh b (n.root % W) (n.root / W) n.size o new c n.at in
        let w' : Shadow = descend W fresh b' (n.root % W) (n.root / W) n.size o new c n.at in
        let arrived : w ≡ w' = descend_alike W same fresh (n.root % W) (n.root / W) n.size o new c n.at in
        let outside : W ≤ w.at = descend_off W fresh b (n.root % W) (n.root / W) n.size o new c n.at off in
        let word : get_or b w.at 0 ≡ get_or b' w'.at 0 = same.words w.at outside ∙ (λ t. get_or b' (arrived t).at 0) in
        λ t. let ps : List Page = (arrived t).pages in
        plan (step (stored W fresh ps c) (arrived t).at (W * fresh (c + length ps - 1) + word t % W) ∷ []) (c + length ps)

    leaf_there : 0 < n.at / g.words
    leaf_there = (le-div_iff_mul-le pos).1 (omega arith)

    leaf_page_alike : (r s : ℕ) → leaf_page g.words b n.at r s ≡ leaf_page g.words b' n.at r s
    unfolding leaf_page copied_leaf replaced
    leaf_page_alike r s = λ t j. cond (eqb j (n.at % g.words)) r (cond (eqb j (n.at % g.words + 1)) s (cell_alike g.words same (n.at / g.words) j leaf_there t))

    shadow_with_length_alike : (o : ℕ) (new : List ℕ) (c : ℕ) → shadow_with_length g fresh b n o new c ≡ shadow_with_length g fresh b' n o new c
    unfolding shadow_with_length
    shadow_with_length_alike o new c = λ t.
        let ps : List Page = build_alike g.words same fresh (n.root % g.words) (n.root / g.words) n.size o new c t in
        let copy : Page = leaf_page_alike (g.words * fresh (c + length ps - 1) + n.root % g.words) (max n.size (o + length new)) t in
        plan (step (stored g.words fresh (ps ++ (copy ∷ [])) c) n.pointer (g.words * fresh (c + length ps)) ∷ []) (c + length ps + 1)

    way_alike : (o : ℕ) (new : List ℕ) (c : ℕ) → chosen_way g fresh b n o new c ≡ chosen_way g fresh b' n o new c
    unfolding chosen_way
    way_alike o new c = λ t.
        cond (is_tail_alike o t) (tail_alike n.size o new c t)
        (cond (leb (o + length new) n.size) (shadow_inside_alike o new c t) (shadow_with_length_alike o new c t))

-- ---- Write

-- the stores of a plan
abbrev stores_of : Plan → List Store
stores_of p = concat (plan_epochs p.steps)

module _ (g : Layout) (pos : 0 < g.words) {b b' : List ℕ} (same : Alike g.words b b') (fresh : ℕ → ℕ) (f : ℕ) (found : Found g b f) where
  inode_off : (e : ℕ) → g.words ≤ (grown_inode g fresh (inode_of g b f) e).at
  unfolding grown_inode
  inode_off e = address_off g same found

  -- first the grown boards, by one plan of growth; then that plan and the other board's
  grown_plan_alike : (o : ℕ) (new : List ℕ) → grown_plan g fresh b (inode_of g b f) o new ≡ grown_plan g fresh b' (inode_of g b' f) o new
  unfolding grown_plan
  grown_plan_alike o new =
      let e : ℕ = o + length new in
      let p : Plan = growth g fresh (inode_of g b f) e in
      let same' : Alike g.words (performed b (stores_of p)) (performed b' (stores_of p)) = performed_alike g.words b b' (stores_of p) same in
      (λ t. afterwards p (way_alike g same' pos (grown_inode g fresh (inode_of g b f) e) (inode_off e) fresh o new p.taken t))
      ∙ (λ t. grown_plan g fresh b' (lent_inode_alike g same found t) o new)

  some_plan_alike : (end : Option ℕ) → Off end → (o : ℕ) (new : List ℕ) → some_plan g fresh b f end o new ≡ some_plan g fresh b' f end o new
  unfolding some_plan Off
  some_plan_alike (Some k) off o new = single_word_alike g same found k o new off
  some_plan_alike None off o new = grown_plan_alike o new

  pub write_plan_alike : (o : ℕ) (new : List ℕ) → write_plan g fresh b f o new ≡ write_plan g fresh b' f o new
  unfolding write_plan
  write_plan_alike o [] = refl
  write_plan_alike o (x ∷ new) =
      let e : ℕ = o + suc (length new) in
      some_plan_alike (single_block g b f o e) (single_off g b f o e) o (x ∷ new) ∙ (λ t. some_plan g fresh b' f (single_block_alike g same found o e t) o (x ∷ new))
