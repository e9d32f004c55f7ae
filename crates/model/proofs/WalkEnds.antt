-- Where the walk to a byte of a file ends: at the live data blocks of the file, at each of them, and at none from bytes of different blocks.
use Rattle.std.specs.Prelude.{Some, None}
use mathlib.Core.Path.{◌≡◌, sym, ap, ◌∙◌}
use mathlib.Core.Logic.{◌≢◌, inl, inr}
use mathlib.Core.Bool.{Bool, true, false, cond}
use mathlib.Core.List.{List}
use Prim.Native.Nat.{ℕ, zero, suc, ◌+◌, ◌-◌, ◌*◌, ◌/◌, ◌%◌, ◌^◌, ◌≤◌, ◌<◌}
use native.Mathlib.Omega.{arith}
use native.Mathlib.Nat.{mul_assoc, add-mul, div-eq_of_lt}
use lib.Dec.{T, ltb}
use borrow.Author.Tests.{lt-ltb, le-ltb}
use Rattle.model.specs.Lists.{sum, member, occ}
use Rattle.model.specs.Layout.{Layout, files}
use Rattle.model.specs.Tree.{ending, span, cell, link, walk, blocks, data_blocks}
use Rattle.model.specs.Board.{root_walk, root_blocks, root_height, root_block, size, file_walk, linked_word, walk_to, file_blocks, file_data}
use Rattle.model.specs.Claims.{Walked, WalkRule, NullRule}
use Rattle.model.proofs.Cases.{split, decide}
use Rattle.model.proofs.Sums.{sum_at, sum_two, sum_some}
use Rattle.model.proofs.Counting.{one_some, occ_joined, member_occ}
use Rattle.model.proofs.Spans.{child, child_only, walk_child, span_pos}
use Rattle.model.proofs.Trees.{child_blocks, walk_null, walk_dead}
use Rattle.model.proofs.Walks.{span_blocks, block_by_child}
use Rattle.model.proofs.Agree.{occ_children, occ_child}
use Rattle.model.proofs.Descent.{hole≢block, ending_is, walk_live_law, walk_inside}
use Rattle.model.proofs.Shown.{words_pos, file_live}
use Rattle.model.proofs.Accepting.{FileOn, facts}
use Rattle.model.proofs.Linked.{walk_to_file}

module _ (W : ℕ) (pos : 0 < W) (b : List ℕ) where
  -- how often q is among the data blocks of child j
  abbrev data_under : ℕ → ℕ → ℕ → ℕ → ℕ → ℕ
  data_under h k n q j = occ q (data_blocks W b h (link W b k j / W) (n - j * span W h))

  data_children : (h k n q : ℕ) → occ q (data_blocks W b (suc h) k n) ≡ sum W (data_under h k n q)
  unfolding data_blocks
  data_children h k n q = occ_joined q W (λ j. data_blocks W b h (link W b k j / W) (n - j * span W h))

  -- a walk ends at a data block
  walk_data : (h k n i q : ℕ) → i < span W h → walk W b h k n i ≡ Some q → 0 < occ q (data_blocks W b h k n)
  unfolding walk data_blocks
  walk_data zero k n i q l e = walk_inside W b pos zero k n i q l e
  walk_data (suc h) k n i q l e =
      let j : ℕ = i / span W h in
      let place = child W pos h i l in
      omega (
        arith,
        data_children h k n q,
        sum_at W (data_under h k n q) j place.which,
        walk_data h (link W b k j / W) (n - j * span W h) (i % span W h) q place.inside e,
      )

  -- and at each, from a byte below the size
  data_walk : (h k n q : ℕ) → 0 < occ q (data_blocks W b h k n) → (i : ℕ) × (i < span W h) × (i < n) × (walk W b h k n i ≡ Some q)
  unfolding data_blocks blocks occ walk ending
  data_walk zero zero n q l = absurd (omega arith)
  data_walk zero (suc k) zero q l = absurd (omega arith)
  data_walk zero (suc k) (suc n) q l = (0, span_pos W pos zero, omega arith, ap Some (sym (one_some q (suc k) (omega arith))))
  data_walk (suc h) k n q l =
      let s = sum_some W (data_under h k n q) (omega (arith, data_children h k n q)) in
      let r = data_walk h (link W b k s.0 / W) (n - s.0 * span W h) q s.2 in
      (s.0 * span W h + r.0, (child_only W pos h s.0 r.0 s.1 r.1).0, omega (arith, r.2), walk_child W pos b h k n s.0 r.0 s.1 r.1 ∙ r.3)

  -- walks that end at one block are to bytes of one block, where no block is reached twice
  walk_once : (h k n i i' q : ℕ) → i < span W h → i' < span W h → walk W b h k n i ≡ Some q → walk W b h k n i' ≡ Some q → occ q (blocks W b h k n) ≤ 1
      → i / (8 * W) ≡ i' / (8 * W)
  unfolding walk link span
  walk_once zero k n i i' q l l' e e' once = rw (div-eq_of_lt l, div-eq_of_lt l')
  walk_once (suc h) zero n i i' q l l' e e' once = absurd (hole≢block q (sym (walk_null W b (suc h) n i) ∙ e))
  walk_once (suc h) (suc k) n i i' q l l' e e' once =
      let s : ℕ = span W h in
      let j : ℕ = i / s in
      let j' : ℕ = i' / s in
      let place = child W pos h i l in
      let place' = child W pos h i' l' in
      let live : 0 < n = walk_live_law W b (suc h) (suc k) n i q e in
      elim (decide j j') [
        | inl z ↦
            let e'' : walk W b h (cell W b (suc k) j / W) (n - j * s) (i' % s) ≡ Some q = rw (← z) at e' in
            let below = walk_once h (cell W b (suc k) j / W) (n - j * s) (i % s) (i' % s) q place.inside place'.inside e e''
            (omega (arith, occ_child W pos b h k n live q j place.which)) in
            rw (block_by_child W pos h i, block_by_child W pos h i', z, below)
        | inr d ↦ absurd (omega (
          arith,
          occ_children W pos b h k n live q,
          sum_two W (λ x. occ q (child_blocks W b h (suc k) n x)) j j' place.which place'.which d,
          walk_inside W b pos h (cell W b (suc k) j / W) (n - j * s) (i % s) q place.inside e,
          walk_inside W b pos h (cell W b (suc k) j' / W) (n - j' * s) (i' % s) q place'.inside e',
        ))
      ]

  -- a byte whose block would begin past the n bytes is in a hole
  walk_past : (h k n i : ℕ) → i < span W h → n ≤ i / (8 * W) * (8 * W) → walk W b h k n i ≡ None
  unfolding walk span
  walk_past zero k n i l past = let none : n ≤ 0 * (8 * W) = rw (div-eq_of_lt l) at past in let z : n ≡ 0 = omega arith in rw z (walk_dead W b zero k i)
  walk_past (suc h) k n i l past =
      let s : ℕ = span W h in
      let j : ℕ = i / s in
      let first : j * W ^ h * (8 * W) ≡ j * s = mul_assoc j (W ^ h) (8 * W) ∙ ap (λ (x : ℕ). j * x) (sym (span_blocks W pos h)) in
      let sum : i / (8 * W) * (8 * W) ≡ j * s + i % s / (8 * W) * (8 * W) = rw (block_by_child W pos h i, add-mul (j * W ^ h) (i % s / (8 * W)) (8 * W), first) in
      walk_past h (link W b k j / W) (n - j * s) (i % s) (child W pos h i l).inside (omega arith)

-- ---- Files

module _ {g : Layout} {b : List ℕ} {f : ℕ} (on : FileOn g b f) where
  abbrev W : ℕ
  W = g.words

  pos : 0 < W
  pos = words_pos g on.fit

  abbrev h : ℕ
  h = root_height g b f

  -- a walk that ends at a block is one in the tree
  in_tree : (i k : ℕ) → walk_to g b f i ≡ Some k → (i < span W h) × (walk W b h (root_block g b f) (size g b f) i ≡ Some k)
  unfolding file_walk root_walk
  in_tree i k e = elim (split (span W h) i) [
    | inl beyond ↦ absurd (hole≢block k (sym (walk_to_file on i ∙ rw (le-ltb i (span W h) beyond)) ∙ e))
    | inr l ↦ (l, rw (lt-ltb i (span W h) l) at (sym (walk_to_file on i) ∙ e))
  ]

  tree_in : (i : ℕ) → i < span W h → walk_to g b f i ≡ walk W b h (root_block g b f) (size g b f) i
  unfolding file_walk root_walk
  tree_in i l = walk_to_file on i ∙ rw (lt-ltb i (span W h) l)

  reached : (k : ℕ) → T (member k (file_data g b f)) → (i : ℕ) × (i < span W h) × (i < size g b f) × (walk W b h (root_block g b f) (size g b f) i ≡ Some k)
  unfolding file_data
  reached k m = data_walk W pos b h (root_block g b f) (size g b f) k ((member_occ k (file_data g b f)).0 m)

  pub file_once : (q : ℕ) → occ q (blocks W b h (root_block g b f) (size g b f)) ≤ 1
  unfolding file_blocks root_blocks
  file_once q = omega (arith, (facts g on.fit b on.board).once q, file_live g b f q on.file)

  walked : Walked g b f
  unfolding file_data file_blocks root_blocks file_walk root_walk span
  walked = record {
    same = walk_to_file on;
    ends = λ i k e. let w = in_tree i k e in (member_occ k (file_data g b f)).1 (walk_data W pos b h (root_block g b f) (size g b f) i k w.0 w.1);
    lives = λ k m. let r = reached k m in (member_occ k (file_blocks g b f)).1 (walk_inside W b pos h (root_block g b f) (size g b f) r.0 k r.1 r.3);
    reaches = λ k m. let r = reached k m in (r.0, r.2, tree_in r.0 r.1 ∙ r.3);
    once = λ i j k e d. let w = in_tree i k e in let v = in_tree j k d in
        walk_once W pos b h (root_block g b f) (size g b f) i j k w.0 v.0 w.1 v.1 (file_once k);
    past = λ i l. elim (split (span W h) i) [
      | inl beyond ↦ walk_to_file on i ∙ rw (le-ltb i (span W h) beyond)
      | inr u ↦ tree_in i u ∙ walk_past W pos b h (root_block g b f) (size g b f) i u l
    ];
  }

-- ---- Block 0, on any board

module _ (W : ℕ) (b : List ℕ) where
  walk_not_null : (h k n i : ℕ) → walk W b h k n i ≢ Some 0
  unfolding walk ending
  walk_not_null zero zero n i e = hole≢block 0 e
  walk_not_null zero (suc k) zero i e = hole≢block 0 e
  walk_not_null zero (suc k) (suc n) i e = let same = (ending_is (suc k) (suc n) 0 e).1 in omega (arith, same)
  walk_not_null (suc h) k n i e = walk_not_null h (link W b k (i / span W h) / W) (n - i / span W h * span W h) (i % span W h) e

  root_not_null : (r n i : ℕ) → root_walk W b r n i ≢ Some 0
  unfolding root_walk
  root_not_null r n i e = by (ltb i (span W (r % W))) e
    where
      by : (t : Bool) → cond t (walk W b (r % W) (r / W) n i) None ≡ Some 0 → ⊥
      by true e = walk_not_null (r % W) (r / W) n i e
      by false e = hole≢block 0 e

pub null_rule : NullRule
unfolding walk_to
null_rule g b f i e = by (ltb f (files g)) e
  where
    by : (t : Bool) → cond t (root_walk g.words b (linked_word g b f 0) (linked_word g b f 1) i) None ≡ Some 0 → ⊥
    by true e = root_not_null g.words b (linked_word g b f 0) (linked_word g b f 1) i e
    by false e = hole≢block 0 e

pub walk_rule : WalkRule
walk_rule g fit b t f l = walked (record { fit = fit; board = t; file = l })
