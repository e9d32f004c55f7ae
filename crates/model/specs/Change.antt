-- How a write and a length change are planned. Document 01, 'How a change is planned', and N3 of document 02, *Writing past the end*: a write of `new`,
-- L bytes, at o; e = o + L, and s is the size. Where c is an argument, c fresh blocks are taken before.
use Rattle.std.specs.Prelude.{Bool, not, cond, ◌&&◌, ◌||◌, List, [], ◌∷◌, ◌++◌, ℕ, zero, suc, ◌+◌, ◌-◌, ◌*◌, ◌/◌, ◌%◌, max, length, get_or, replicate, leb, ltb, eqb, Option, Some, None}
use Rattle.model.specs.declared.Inode.{Inode}
use Rattle.model.specs.Lists.{tabulate, concat}
use Rattle.model.specs.Words.{byte_of, word_of}
use Rattle.model.specs.Layout.{Layout}
use Rattle.model.specs.Tree.{live, span, least, cell}
use Rattle.model.specs.Board.{root_address, root_height, root_block, size, size_address, inode_of, file_walk}
use Rattle.model.specs.Store.{Store, store, performed}
use Rattle.model.specs.Plan.{Plan, plan, step, plan_epochs, afterwards}
use Rattle.model.specs.Fresh.{Page, splice, stored, fresh_pointer, build}
use Rattle.model.specs.InPlace.{at_block, walk_live, tail_pages, in_place}

-- ---- 2. Growth

-- the page over the tree at block k: *its first pointer the old tree and the rest 0*
unfoldable pub level_page : ℕ → ℕ → Page
level_page W k zero = W * k
level_page W k (suc j) = 0

-- the block under level i: the old tree's, or the fresh block before
unfoldable pub level_below : (ℕ → ℕ) → ℕ → ℕ → ℕ
level_below fresh k zero = k
level_below fresh k (suc i) = fresh i

-- *A root that isn't null gets one fresh block for each level*, of d; a null root none
unfoldable pub levels : ℕ → (ℕ → ℕ) → ℕ → ℕ → List Page
levels W fresh zero d = []
levels W fresh (suc k) d = tabulate d (λ i. level_page W (level_below fresh (suc k) i))

-- the block at the top of the grown tree
unfoldable pub level_top : (ℕ → ℕ) → ℕ → ℕ → ℕ
level_top fresh zero d = 0
level_top fresh (suc k) d = level_below fresh (suc k) d

-- Ways 2 and 4 to 6 take the file's inode, n. In `descend` n is the number of a tree's bytes below the size, in `length_plan` the new length.

-- *If s > 0 and e exceeds the span*
abbrev pub growing : (g : Layout) (n : Inode) (e : ℕ) → Bool
growing g n e = live n.size && ltb (span g.words (n.root % g.words)) e

module _ (g : Layout) (fresh : ℕ → ℕ) (n : Inode) where
  -- the root word of the tree grown to height h
  abbrev pub grown_root : ℕ → ℕ
  grown_root h = g.words * level_top fresh (n.root / g.words) (h - n.root % g.words) + h

  -- growth to height h: the levels; *barrier; then the root word*. *A null root gets the root word alone*
  unfoldable pub growth_to : ℕ → Plan
  growth_to h =
      let ps : List Page = levels g.words fresh (n.root / g.words) (h - n.root % g.words) in
      plan (step (stored g.words fresh ps 0) n.at (grown_root h) ∷ []) (length ps)

  -- *the least sufficient height is reached first*
  unfoldable pub growth : ℕ → Plan
  growth e = cond (growing g n e) (growth_to (least g.words g.height e)) (plan [] 0)

  -- *What follows sees the grown tree*: its root, and the rest of the inode as it was
  unfoldable pub grown_inode : ℕ → Inode
  grown_inode e = record {
    pointer = n.pointer;
    at = n.at;
    root = cond (growing g n e) (grown_root (least g.words g.height e)) n.root;
    size = n.size;
  }

-- ---- 3. Single word

-- the word x with `new` from its byte o on, *the word's other bytes kept*
unfoldable pub spliced_word : ℕ → List ℕ → ℕ → ℕ
spliced_word o new x = word_of 8 (λ i. splice o new (byte_of x i) i)

-- *If e ≤ s, all bytes fall in one word and its data block exists*: that block. Growth comes before no such write, so the lent board decides
unfoldable pub single_block : (g : Layout) (b : List ℕ) (f o e : ℕ) → Option ℕ
single_block g b f o e = cond (leb e (size g b f) && eqb (o / 8) ((e - 1) / 8)) (file_walk g b f o) None

-- *one store*, in data block k
unfoldable pub single_word : (g : Layout) (b : List ℕ) (k o : ℕ) → List ℕ → Plan
single_word g b k o new =
    let a : ℕ = g.words * k + o % span g.words 0 / 8 in
    plan (step [] a (spliced_word (o % 8) new (get_or b a 0)) ∷ []) 0

-- ---- 4. Tail

-- *With size 0 it goes the tail way*, wherever the bytes begin; else *if o = s and no live pointer on the path to byte o is null*, the root among them
unfoldable pub is_tail : (g : Layout) (b : List ℕ) (n : Inode) → ℕ → Bool
is_tail g b n o = not (live n.size) || eqb o n.size && at_block (walk_live g.words b (n.root % g.words) (n.root / g.words) n.size)

module _ (g : Layout) (fresh : ℕ → ℕ) (b : List ℕ) (n : Inode) where
  -- with s = 0, to height h: *the old root is ignored*, *with holes left null*
  unfoldable pub empty_tail_to : ℕ → ℕ → List ℕ → ℕ → Plan
  empty_tail_to h o new c =
      let ps : List Page = build g.words fresh b h 0 0 o new c in
      let hook : Store = store n.at (fresh_pointer g.words fresh h o (length new) c + h) in
      plan (step (stored g.words fresh ps c ++ (hook ∷ [])) (n.at + 1) (o + length new) ∷ []) (c + length ps)

  -- *the least sufficient height is used*
  unfoldable pub empty_tail : ℕ → List ℕ → ℕ → Plan
  empty_tail o new c = empty_tail_to (least g.words g.height (o + length new)) o new c

  -- *one epoch of hidden stores, then the size alone*. With s > 0, o is s
  unfoldable pub tail : ℕ → ℕ → List ℕ → ℕ → Plan
  tail zero o new c = empty_tail o new c
  tail (suc s) o new c =
      let ps : List Page = tail_pages g.words b fresh (n.root % g.words) (n.root / g.words) (suc s) new c in
      let others : List Store = in_place g.words b (λ h l i. fresh_pointer g.words fresh h 0 l i) (n.root % g.words) (n.root / g.words) (suc s) new c n.at in
      plan (step (stored g.words fresh ps c ++ others) (n.at + 1) (suc s + length new) ∷ []) (c + length ps)

-- ---- 5. Shadow inside the file

-- fresh pages, and the address of the word that commits them
pub record Shadow : Type 0 where
  pub at : ℕ
  pub pages : List Page

-- *go down from the root word while its block exists, isn't data and all written bytes lie under one of its pointers. The word arrived at
-- is the commit; all touched beneath it is fresh*
module _ (W : ℕ) (fresh : ℕ → ℕ) (b : List ℕ) where
  -- with `new` written at o of the tree (h, k, n), whose pointer stands at address a
  unfoldable pub descend : ℕ → ℕ → ℕ → ℕ → List ℕ → ℕ → ℕ → Shadow
  descend zero k n o new c a = record { at = a; pages = build W fresh b zero k n o new c }
  descend (suc h) zero n o new c a = record { at = a; pages = build W fresh b (suc h) zero n o new c }
  descend (suc h) (suc k) n o new c a =
      let j : ℕ = o / span W h in
      let here : Shadow = record { at = a; pages = build W fresh b (suc h) (suc k) n o new c } in
      let below : Shadow = descend h (cell W b (suc k) j / W) (n - j * span W h) (o % span W h) new c (W * suc k + j) in
      cond (leb (o % span W h + length new) (span W h)) below here

-- new root and size for the inode at word `place` of its leaf
pub record Slot : Type 0 where
  pub place : ℕ
  pub root : ℕ
  pub size : ℕ

-- word j of a leaf where w stood, with inodes of that leaf replaced
unfoldable pub replaced : List Slot → ℕ → ℕ → ℕ
replaced [] j w = w
replaced (i ∷ is) j w = cond (eqb j i.place) i.root (cond (eqb j (i.place + 1)) i.size (replaced is j w))

-- *a fresh copy of the inode leaf*, block k, with inodes of it replaced
unfoldable pub copied_leaf : ℕ → List ℕ → ℕ → List Slot → Page
copied_leaf W b k is j = replaced is j (cell W b k j)

-- *a fresh copy of the inode leaf*, the block of the inode at address a, *with new root* r *and size* s: a page of way 6
unfoldable pub leaf_page : ℕ → List ℕ → ℕ → ℕ → ℕ → Page
leaf_page W b a r s = copied_leaf W b (a / W) (record { place = a % W; root = r; size = s } ∷ [])

module _ (g : Layout) (fresh : ℕ → ℕ) (b : List ℕ) (n : Inode) where
  -- the commit keeps its word's low bits: a root's height, 0 in any other live pointer
  unfoldable pub shadow_inside : ℕ → List ℕ → ℕ → Plan
  shadow_inside o new c =
      let w : Shadow = descend g.words fresh b (n.root % g.words) (n.root / g.words) n.size o new c n.at in
      let top : ℕ = fresh (c + length w.pages - 1) in
      plan (step (stored g.words fresh w.pages c) w.at (g.words * top + get_or b w.at 0 % g.words) ∷ []) (c + length w.pages)

  -- ---- 6. Shadow with length

  -- *fresh blocks on all paths from the root to written bytes*, and to byte s − 1 where o lies past s, the leaf last; *the commit is the inode pointer*
  unfoldable pub shadow_with_length : ℕ → List ℕ → ℕ → Plan
  shadow_with_length o new c =
      let ps : List Page = build g.words fresh b (n.root % g.words) (n.root / g.words) n.size o new c in
      let copy : Page = leaf_page g.words b n.at (g.words * fresh (c + length ps - 1) + n.root % g.words) (max n.size (o + length new)) in
      plan (step (stored g.words fresh (ps ++ (copy ∷ [])) c) n.pointer (g.words * fresh (c + length ps)) ∷ []) (c + length ps + 1)

  -- ---- Write

  -- the first of ways 4 to 6 whose condition holds
  unfoldable pub chosen_way : ℕ → List ℕ → ℕ → Plan
  chosen_way o new c =
      cond (is_tail g b n o) (tail g fresh b n n.size o new c)
      (cond (leb (o + length new) n.size) (shadow_inside o new c) (shadow_with_length o new c))

-- growth, and the way that follows: blocks are read on the board with growth's stores performed
unfoldable pub grown_plan : (g : Layout) (fresh : ℕ → ℕ) (b : List ℕ) (n : Inode) → ℕ → List ℕ → Plan
grown_plan g fresh b n o new =
    let p : Plan = growth g fresh n (o + length new) in
    let grown : List ℕ = performed b (concat (plan_epochs p.steps)) in
    afterwards p (chosen_way g fresh grown (grown_inode g fresh n (o + length new)) o new p.taken)

module _ (g : Layout) (fresh : ℕ → ℕ) (b : List ℕ) (f : ℕ) where
  -- a single word, or ways 2 and 4 to 6
  unfoldable pub some_plan : Option ℕ → ℕ → List ℕ → Plan
  some_plan (Some k) o new = single_word g b k o new
  some_plan None o new = grown_plan g fresh b (inode_of g b f) o new

  -- *1. L = 0: an empty plan.*
  unfoldable pub write_plan : ℕ → List ℕ → Plan
  write_plan o [] = plan [] 0
  write_plan o (x ∷ new) = some_plan (single_block g b f o (o + suc (length new))) o (x ∷ new)

-- ---- Length change

module _ (g : Layout) (b : List ℕ) (f : ℕ) where
  -- *each word of the live data block holding byte s − 1 that covers bytes s to n − 1, zero there and past it, and 0 to each pointer of a live
  -- block whose span starts in s to n − 1*: n - s zeros written in place, with 0 for a hook. *With s = 0 it stores 0 to the root word*
  unfoldable pub cleared : ℕ → ℕ → List Store
  cleared zero n = store (root_address g b f) 0 ∷ []
  cleared (suc s) n = in_place g.words b (λ h l c. 0) (root_height g b f) (root_block g b f) (suc s) (replicate (n - suc s) 0) 0 (root_address g b f)

  -- *Length change to n: n = s, empty plan. n < s, one store of the size. n > s: one epoch, then the size. If it would be empty, only the size
  -- is stored.*
  unfoldable pub length_plan : ℕ → Plan
  length_plan n =
      let hidden : List Store = cond (ltb n (size g b f)) [] (cleared (size g b f) n) in
      cond (eqb n (size g b f)) (plan [] 0) (plan (step hidden (size_address g b f) n ∷ []) 0)
