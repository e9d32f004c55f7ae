-- The ways of planning a write, 3 to 6 of document 01, at any offset: whichever is chosen, its one step is good.
use Rattle.std.specs.Prelude.{Some}
use mathlib.Core.Path.{◌≡◌, refl, sym, ap, ◌∙◌}
use mathlib.Core.Logic.{inl, inr}
use mathlib.Core.Bool.{Bool, true, false, not, cond, ◌&&◌, ◌||◌, false≢true}
use mathlib.Core.List.{List, [], ◌∷◌, ◌++◌, append-nil}
use Prim.Native.Nat.{ℕ, zero, suc, ◌+◌, ◌-◌, ◌/◌, ◌≤◌, ◌<◌, max}
use native.Mathlib.Omega.{arith}
use lib.ListN.{length, take, replicate}
use lib.Dec.{T, leb, eqb}
use borrow.Author.Tests.{le-leb, lt-leb, eq-eqb, ne_eqb, eqb-true}
use Rattle.model.specs.declared.Inode.{Inode}
use Rattle.model.specs.Lists.{tabulate, sum, occ}
use Rattle.model.specs.Layout.{Layout, Fits}
use Rattle.model.specs.Tree.{live, least}
use Rattle.model.specs.Board.{leaf, root_address, size_address, root_height, root_block, root, size, inode_of, file_walk, contents, live_blocks}
use Rattle.model.specs.Store.{Store, store}
use Rattle.model.specs.Plan.{Plan, plan, Step, step}
use Rattle.model.specs.Fresh.{Page, stored, fresh_pointer}
use Rattle.model.specs.GivenUp.{path_blocks, inside_blocks, way_gives}
use Rattle.model.specs.InPlace.{at_block, walk_live, tail_pages, in_place}
use Rattle.model.specs.Change.{single_block, single_word, is_tail, empty_tail_to, empty_tail, tail, shadow_inside, shadow_with_length, chosen_way}
use Rattle.model.specs.Cut.{overwritten}
use Rattle.model.proofs.Cases.{split, decide, true_left, true_right}
use Rattle.model.proofs.Perform.{All, length_tabulate}
use Rattle.model.proofs.Altering.{spliced_write, spliced_cut, spliced_zeros}
use Rattle.model.proofs.Built.{used, length_build_null}
use Rattle.model.proofs.Tailed.{length_tail}
use Rattle.model.proofs.Steps.{committed}
use Rattle.model.proofs.Descent.{hole≢block}
use Rattle.model.proofs.Shown.{words_pos, root_byte, contents_bytes, leaf_of, leaf_live, root_block_law, size_block}
use Rattle.model.proofs.Commits.{spliced}
use Rattle.model.proofs.Supplied.{Supply}
use Rattle.model.proofs.GoodSteps.{GoodStep, GoodTurn}
use Rattle.model.proofs.StepBlocks.{Takes, in_place_live}
use Rattle.model.proofs.Writing.{Writing, Spanned}
use Rattle.model.proofs.InsideWays.{single_live, single_good, inside_live, inside_good}
use Rattle.model.proofs.SizeWays.{tail_good, empty_tail_good}
use Rattle.model.proofs.LeafWay.{leaf_takes, leaf_good}

-- ---- What a file reads as, as a list

module _ (g : Layout) (fit : Fits g) (b : List ℕ) (f : ℕ) where
  bytes : ℕ → ℕ
  bytes = root_byte g.words b (root g b f) (size g b f)

  contents_are : contents g b f ≡ tabulate (size g b f) bytes
  unfolding bytes
  contents_are = contents_bytes g (words_pos g fit) b f

  pub length_contents : length (contents g b f) ≡ size g b f
  length_contents = ap (λ (l : List ℕ). length l) contents_are ∙ length_tabulate (size g b f) bytes

  -- what a write of `new` at o makes of it
  pub spliced_writes : (o : ℕ) (new : List ℕ) → 0 < length new → (m : ℕ) → m ≡ max (size g b f) (o + length new) → spliced g b f o new m ≡ overwritten o new (contents g b f)
  unfolding bytes overwritten
  spliced_writes o [] some m e = absurd (omega arith)
  spliced_writes o (x ∷ new) some m e = rw (e, length_contents, contents_are) (spliced_write (size g b f) bytes o (x ∷ new))

  -- what a length change to n makes of it
  abbrev pub lengthened : ℕ → List ℕ
  lengthened n = take n (contents g b f) ++ replicate (n - length (contents g b f)) 0

  pub spliced_cuts : (n : ℕ) → n ≤ size g b f → spliced g b f 0 [] n ≡ lengthened n
  unfolding bytes
  spliced_cuts n l = rw (length_contents, contents_are) (spliced_cut (size g b f) bytes n 0 l)

  pub spliced_lengthens : (n : ℕ) → size g b f ≤ n → spliced g b f (size g b f) (replicate (n - size g b f) 0) n ≡ lengthened n
  unfolding bytes
  spliced_lengthens n l = rw (length_contents, contents_are) (spliced_zeros (size g b f) bytes n l)

-- ---- The way that is chosen

-- a plan of one step, which is good and takes fresh blocks from number c on; the live blocks are those before and those taken, less those given up
pub record OneStep (g : Layout) (b : List ℕ) (f : ℕ) (fresh : ℕ → ℕ) (c : ℕ) (wanted given : List ℕ) (p : Plan) : Type 0 where
  pub only : Step
  pub steps_are : p.steps ≡ only ∷ []
  pub good : GoodStep g b f only wanted
  pub takes : Takes g b fresh c p.taken only
  pub lives : (q : ℕ) → occ q (live_blocks g (committed b only)) + occ q given ≡ occ q (live_blocks g b) + used fresh q c (p.taken - c)

module _ {g : Layout} {b : List ℕ} {f o : ℕ} {new : List ℕ} (w : Writing g b f o new) (some : 0 < length new) (reach : Spanned g b f (o + length new))
    {fresh : ℕ → ℕ} {c lim : ℕ} (supply : Supply g b fresh c lim) where
  open w.on use {fit, file}

  abbrev wanted : List ℕ
  wanted = overwritten o new (contents g b f)

  abbrev inode : Inode
  inode = inode_of g b f

  abbrev Good : Plan → List ℕ → Type 0
  Good p given = p.taken ≤ lim → OneStep g b f fresh c wanted given p

  -- one that leaves m bytes
  one_good : {s : Step} {m c' : ℕ} {extra gone : ℕ → ℕ} {given : List ℕ} → GoodTurn g b f s (spliced g b f o new m) extra gone → m ≡ max (size g b f) (o + length new) → Takes g b fresh c c' s
      → ((q : ℕ) → (extra q ≡ used fresh q c (c' - c)) × (gone q ≡ occ q given)) → OneStep g b f fresh c wanted given (plan (s ∷ []) c')
  unfolding plan
  one_good {s} {m} y e k counts = record {
    only = s;
    steps_are = refl;
    good = rw (spliced_writes g fit b f o new some m e) at y.good;
    takes = k;
    lives = λ q. omega (arith, y.lives q, (counts q).0, (counts q).1);
  }

  -- what a plan takes that takes m more
  used_more : (q m : ℕ) → used fresh q c m ≡ used fresh q c (c + m - c)
  used_more q m = ap (used fresh q c) (omega arith)

  -- a word of the file's inode lies in a live block
  inode_live_at : (a : ℕ) → a / g.words ≡ leaf g b (f / g.inodes) → 0 < occ (a / g.words) (live_blocks g b)
  inode_live_at a e = rw e (leaf_live g b (f / g.inodes) (leaf_of g fit f file))

  -- 3: *e ≤ s, all bytes fall in one word and its data block exists*
  single_parts : (K : ℕ) → single_block g b f o (o + length new) ≡ Some K → (o + length new ≤ size g b f) × (o / 8 ≡ (o + length new - 1) / 8) × (file_walk g b f o ≡ Some K)
  unfolding single_block
  single_parts K e = elim (split (o + length new) (size g b f)) [
    | inl l ↦ elim (decide (o / 8) ((o + length new - 1) / 8)) [
      | inl same ↦ (l, same, rw (le-leb (o + length new) (size g b f) l, eq-eqb (o / 8) ((o + length new - 1) / 8) same) at e)
      | inr d ↦ absurd (hole≢block K (rw (le-leb (o + length new) (size g b f) l, ne_eqb (o / 8) ((o + length new - 1) / 8) d) at e))
    ]
    | inr m ↦ absurd (hole≢block K (rw (lt-leb (o + length new) (size g b f) m) at e))
  ]

  pub single_way : c ≡ 0 → (K : ℕ) → single_block g b f o (o + length new) ≡ Some K → Good (single_word g b K o new) []
  unfolding single_word plan step store stored All occ used sum
  single_way first K e room =
      let p = single_parts K e in
      let l : o + length new ≤ size g b f = p.0 in
      one_good (single_good w some l (reach (omega arith)) K p.2 p.1) (omega arith) (record {
        pages = [];
        others = [];
        is = refl;
        count = omega arith;
        others_live = tt;
        commit_live = single_live w some l (reach (omega arith)) K p.2 p.1;
      }) (λ q. let z : 0 - c ≡ 0 = omega arith in (rw z, refl))

  -- 4
  tail_empty : (s : ℕ) → s ≡ 0 → tail g fresh b inode s o new c ≡ empty_tail g fresh b inode o new c
  unfolding tail
  tail_empty zero e = refl
  tail_empty (suc s) e = absurd (omega arith)

  -- the tail of a file of size s above 0
  abbrev tail_of : ℕ → Plan
  tail_of s =
      let ps : List Page = tail_pages g.words b fresh (root_height g b f) (root_block g b f) s new c in
      let others : List Store = in_place g.words b (λ h l i. fresh_pointer g.words fresh h 0 l i) (root_height g b f) (root_block g b f) s new c (root_address g b f) in
      plan (step (stored g.words fresh ps c ++ others) (size_address g b f) (s + length new) ∷ []) (c + length ps)

  tail_live : (s : ℕ) → 0 < s → tail g fresh b inode s o new c ≡ tail_of s
  unfolding tail size_address
  tail_live zero l = absurd (omega arith)
  tail_live (suc s) l = refl

  tail_parts : is_tail g b inode o ≡ true → 0 < size g b f → (o ≡ size g b f) × T (at_block (walk_live g.words b (root_height g b f) (root_block g b f) (size g b f)))
  unfolding is_tail live
  tail_parts e l =
      let path : Bool = at_block (walk_live g.words b (root_height g b f) (root_block g b f) (size g b f)) in
      let both : (eqb o (size g b f) && path) ≡ true = passes (size g b f) (eqb o (size g b f) && path) l e in
      (eqb-true o (size g b f) (true_left (eqb o (size g b f)) path both), rw (true_right (eqb o (size g b f)) path both) tt)
    where
      passes : (s : ℕ) (u : Bool) → 0 < s → (not (live s) || u) ≡ true → u ≡ true
      passes zero u l z = absurd (omega arith)
      passes (suc s) u l z = z

  empty_tail_way : size g b f ≡ 0 → Good (empty_tail g fresh b inode o new c) []
  unfolding empty_tail_to empty_tail plan step store All occ size_address
  empty_tail_way z room = one_good (empty_tail_good w.on w some z supply room) (omega arith)
      (record { pages = _; others = _; is = refl; count = refl; others_live = (inode_live_at (root_address g b f) (root_block_law g fit b f), tt); commit_live = inode_live_at (size_address g b f) (size_block g fit b f) })
      (λ q. (ap (used fresh q c) (sym (length_build_null g.words (words_pos g fit) b fresh (least g.words g.height (o + length new)) 0 o new c)) ∙ used_more q _, refl))

  live_tail_way : 0 < size g b f → o ≡ size g b f → T (at_block (walk_live g.words b (root_height g b f) (root_block g b f) (size g b f))) → Good (tail_of (size g b f)) []
  unfolding plan step store occ
  live_tail_way l e path room = one_good {m = size g b f + length new} (rw e (tail_good w.on (rw e at w) l path (rw e at (reach l)) supply room)) (omega arith) (record {
    pages = _;
    others = _;
    is = refl;
    count = refl;
    others_live = in_place_live g b f file (λ h l i. fresh_pointer g.words fresh h 0 l i) new c l;
    commit_live = inode_live_at (size_address g b f) (size_block g fit b f);
  }) (λ q. (ap (used fresh q c) (sym (length_tail g.words (words_pos g fit) b fresh (root_height g b f) (root_block g b f) (size g b f) new c)) ∙ used_more q _, refl))

  tail_way : is_tail g b inode o ≡ true → Good (tail g fresh b inode (size g b f) o new c) []
  tail_way e = elim (split (size g b f) 0) [
    | inl z ↦ let z' : size g b f ≡ 0 = omega arith in rw (tail_empty (size g b f) z') (empty_tail_way z')
    | inr l ↦ rw (tail_live (size g b f) l) (live_tail_way l (tail_parts e l).0 (tail_parts e l).1)
  ]

  -- 5
  inside_way : o + length new ≤ size g b f → Good (shadow_inside g fresh b inode o new c) (inside_blocks g.words b (root_height g b f) (root_block g b f) (size g b f) o (length new))
  unfolding shadow_inside plan step store All
  inside_way l room = one_good (inside_good w some l (reach (omega arith)) supply room) (omega arith) (record {
    pages = _;
    others = [];
    is = sym (append-nil _);
    count = refl;
    others_live = tt;
    commit_live = inside_live w some l (reach (omega arith)) supply room;
  }) (λ q. (used_more q _, refl))

  -- 6
  leaf_way : 0 < size g b f → size g b f < o + length new → Good (shadow_with_length g fresh b inode o new c)
      (root_address g b f / g.words ∷ path_blocks g.words b (root_height g b f) (root_block g b f) (size g b f) o (length new))
  unfolding shadow_with_length plan
  leaf_way l m room = one_good (leaf_good w some l m (reach l) supply room) refl (leaf_takes g fresh b f o new c w.on)
      (λ q. (ap (used fresh q c) (omega arith), ap (λ (x : ℕ). occ q (x ∷ path_blocks g.words b (root_height g b f) (root_block g b f) (size g b f) o (length new))) (sym (root_block_law g fit b f))))

  -- whichever it is
  not_tail : is_tail g b inode o ≡ false → 0 < size g b f
  unfolding is_tail live
  not_tail e = elim (split (size g b f) 0) [
    | inl z ↦ let z' : size g b f ≡ 0 = omega arith in absurd (false≢true (sym (rw z' at e)))
    | inr l ↦ l
  ]

  pub way_good : Good (chosen_way g fresh b inode o new c) (way_gives g b inode o new)
  unfolding chosen_way way_gives
  way_good = by (is_tail g b inode o) refl
    where
      by : (u : Bool) → is_tail g b inode o ≡ u
          → Good (cond u (tail g fresh b inode (size g b f) o new c) (cond (leb (o + length new) (size g b f)) (shadow_inside g fresh b inode o new c) (shadow_with_length g fresh b inode o new c)))
          (cond u [] (cond (leb (o + length new) (size g b f)) (inside_blocks g.words b (root_height g b f) (root_block g b f) (size g b f) o (length new))
          (root_address g b f / g.words ∷ path_blocks g.words b (root_height g b f) (root_block g b f) (size g b f) o (length new))))
      by true z = tail_way z
      by false z = elim (split (o + length new) (size g b f)) [
        | inl l ↦ rw (le-leb (o + length new) (size g b f) l) (inside_way l)
        | inr m ↦ rw (lt-leb (o + length new) (size g b f) m) (leaf_way (not_tail z) m)
      ]

-- each takes blocks from number c on
pub taken_from : (g : Layout) (fresh : ℕ → ℕ) (b : List ℕ) (n : Inode) (o : ℕ) (new : List ℕ) (c : ℕ) → c ≤ (chosen_way g fresh b n o new c).taken
unfolding chosen_way empty_tail_to empty_tail tail shadow_inside shadow_with_length plan
taken_from g fresh b n o new c = by (is_tail g b n o) (leb (o + length new) n.size)
  where
    tails : (s : ℕ) → c ≤ (tail g fresh b n s o new c).taken
    tails zero = omega arith
    tails (suc s) = omega arith

    by : (u v : Bool) → c ≤ (cond u (tail g fresh b n n.size o new c) (cond v (shadow_inside g fresh b n o new c) (shadow_with_length g fresh b n o new c))).taken
    by true v = tails n.size
    by false true = omega arith
    by false false = omega arith
