-- Growth: fresh blocks over a tree, one for each level. The first pointer of each leads to the block below it, the rest are 0. The grown tree is
-- higher, so its bytes are compared by span_byte, which is 0 past the span.
use mathlib.Core.Path.{◌≡◌, sym, ap, ◌∙◌, subst}
use mathlib.Core.Logic.{inl, inr}
use mathlib.Core.List.{List, [], ◌∷◌}
use Prim.Native.Nat.{ℕ, zero, suc, ◌+◌, ◌-◌, ◌*◌, ◌/◌, ◌%◌, ◌≤◌, ◌<◌}
use native.Mathlib.Omega.{arith}
use native.Mathlib.Nat.{zero-add, zero-mul, sub-zero, add-zero, add-suc, div-eq_of_lt, mod-eq_of_lt, le-div_iff_mul-le, mul-div_cancel_left, mul-mod_right, zero-div, zero-mod}
use lib.ListN.{length}
use lib.Dec.{T}
use Rattle.model.specs.Lists.{tabulate, sum, one, occ}
use Rattle.model.specs.Tree.{span, cell, link, walk, blocks, sound}
use Rattle.model.specs.Fresh.{Page}
use Rattle.model.specs.Change.{level_page, level_below, levels, level_top}
use Rattle.model.proofs.Cases.{split}
use Rattle.model.proofs.Sums.{sum_cong, only, only_same, only_other, sum_only_at}
use Rattle.model.proofs.Spans.{child, span_pos, span_mono}
use Rattle.model.proofs.Perform.{length_tabulate}
use Rattle.model.proofs.Trees.{walk_null, blocks_null, sound_null}
use Rattle.model.proofs.Agree.{byte_at, span_byte, agree, byte_at_null, span_byte_in, span_byte_past, span_byte_null, agree_span_byte, link_cell, agree_blocks, agree_sound, beneath, occ_node, sound_node, aligned_zero}
use Rattle.model.proofs.Built.{Between, held, held_left, held_right, used}
use Rattle.model.proofs.Shown.{agree_walk}

module _ (W : ℕ) (b b' : List ℕ) (top : ℕ) where
  -- (h, k, n) on b has become (h', k', n) on b': all bytes are as they were, walks to them end where they ended, and the extra blocks are more
  pub record Grown (h k h' k' n : ℕ) (extra : ℕ → ℕ) : Type 0 where
    pub bytes : (i : ℕ) → span_byte W b' h' k' n i ≡ span_byte W b h k n i
    pub walks : (i : ℕ) → i < span W h → walk W b' h' k' n i ≡ walk W b h k n i
    pub counts : (q : ℕ) → occ q (blocks W b' h' k' n) ≡ occ q (blocks W b h k n) + extra q
    pub fine : T (sound W b top h k n) → T (sound W b' top h' k' n)

-- ---- one level: block p over the tree at block k

module _ (W : ℕ) (pos : 0 < W) (b : List ℕ) (h k p n : ℕ) (there : 0 < p) (page : (j : ℕ) → j < W → cell W b p j ≡ level_page W k j) where
  first_pointer : link W b p 0 ≡ W * k
  unfolding level_page
  first_pointer = link_cell W pos b p 0 there ∙ page 0 pos

  other_pointer : (j : ℕ) → 0 < j → j < W → link W b p j ≡ 0
  unfolding level_page
  other_pointer zero some l = absurd (omega arith)
  other_pointer (suc j) some l = link_cell W pos b p (suc j) there ∙ page (suc j) l

  first_block : link W b p 0 / W ≡ k
  first_block = ap (λ (x : ℕ). x / W) first_pointer ∙ mul-div_cancel_left k pos

  pub other_block : (j : ℕ) → 0 < j → j < W → link W b p j / W ≡ 0
  other_block j some l = ap (λ (x : ℕ). x / W) (other_pointer j some l) ∙ zero-div W

  grow_low : (i : ℕ) → i < span W h → byte_at W b (suc h) p n i ≡ byte_at W b h k n i
  unfolding byte_at
  grow_low i l = rw (div-eq_of_lt l, mod-eq_of_lt l, first_block, zero-mul, sub-zero)

  grow_walk : (i : ℕ) → i < span W h → walk W b (suc h) p n i ≡ walk W b h k n i
  unfolding walk
  grow_walk i l = rw (div-eq_of_lt l, mod-eq_of_lt l, first_block, zero-mul, sub-zero)

  grow_high : (i : ℕ) → span W h ≤ i → i < span W (suc h) → byte_at W b (suc h) p n i ≡ 0
  unfolding byte_at
  grow_high i l u = rw (other_block (i / span W h) ((le-div_iff_mul-le (span_pos W pos h)).1 (omega arith)) (child W pos h i u).which) (byte_at_null W b h _ _)

  grow_byte : (i : ℕ) → span_byte W b (suc h) p n i ≡ span_byte W b h k n i
  grow_byte i = elim (split (span W (suc h)) i) [
    | inl past ↦ span_byte_past W b (suc h) p n i past ∙ sym (span_byte_past W b h k n i (omega (arith, span_mono W pos h (suc h) (omega arith))))
    | inr l ↦ span_byte_in W b (suc h) p n i l ∙ elim (split (span W h) i) [
      | inl high ↦ grow_high i high l ∙ sym (span_byte_past W b h k n i high)
      | inr low ↦ grow_low i low ∙ sym (span_byte_in W b h k n i low)
    ]
  ]

  grow_occ : 0 < n → (q : ℕ) → occ q (blocks W b (suc h) p n) ≡ occ q (blocks W b h k n) + one q p
  unfolding beneath occ
  grow_occ live q =
      let c : ℕ = occ q (blocks W b h k n) in
      omega (
        arith,
        occ_node W pos b h p n q there live,
        sum_only_at W 0 c pos,
        sum_cong W (λ j. occ q (blocks W b h (link W b p j / W) (n - j * span W h))) (λ j. only j 0 c) (λ j l. elim (split j 0) [
          | inl z ↦ let z' : j ≡ 0 = omega arith in rw z' (rw (first_block, zero-mul, sub-zero) (sym (only_same 0 c)))
          | inr z ↦ rw (other_block j z l) (rw (blocks_null W b h (n - j * span W h)) (sym (only_other j 0 c (λ e. omega arith))))
        ]),
      )

  grow_sound : (top : ℕ) → p < top → T (sound W b top h k n) → T (sound W b top (suc h) p n)
  grow_sound top below t = sound_node W pos top b h p n below (λ j l. elim (split j 0) [
    | inl z ↦ let z' : j ≡ 0 = omega arith in rw z' (
      aligned_zero W pos _ _ (ap (λ (x : ℕ). x % W) first_pointer ∙ mul-mod_right W k),
      rw (first_block, zero-mul, sub-zero) t,
    )
    | inr z ↦ (aligned_zero W pos _ _ (ap (λ (x : ℕ). x % W) (other_pointer j z l) ∙ zero-mod W), rw (other_block j z l, sound_null W b top h (n - j * span W h)) tt)
  ])

-- ---- all levels

used_next : (fresh : ℕ → ℕ) (q d : ℕ) → used fresh q 0 (suc d) ≡ used fresh q 0 d + one q (fresh d)
unfolding used sum
used_next fresh q d = ap (λ (x : ℕ). sum d (λ i. one q (fresh (0 + i))) + one q (fresh x)) (zero-add d)

module _ (W : ℕ) (fresh : ℕ → ℕ) where
  pub length_levels : (k d : ℕ) → 0 < k → length (levels W fresh k d) ≡ d
  unfolding levels
  length_levels zero d some = absurd (omega arith)
  length_levels (suc k) d some = length_tabulate d _

  -- what the last block holds
  pub last_level : 0 < W → (b : List ℕ) (d : ℕ) (f : ℕ → Page) → held W fresh b (tabulate (suc d) f) 0 → (j : ℕ) → j < W → cell W b (fresh d) j ≡ f d j
  unfolding tabulate held
  last_level pos b d f g = subst (λ (c : ℕ). (j : ℕ) → j < W → cell W b (fresh c) j ≡ f d j) (omega (arith, length_tabulate d f)) (held_right W pos b fresh b (tabulate d f) (f d ∷ []) 0 g).0

module _ (W : ℕ) (pos : 0 < W) (b b' : List ℕ) {fresh : ℕ → ℕ} {lim top : ℕ} (within : Between fresh lim top) where
  -- d blocks over block k, one after the other
  grown_over : (h k n d : ℕ) → 0 < n → d ≤ lim → held W fresh b' (tabulate d (λ i. level_page W (level_below fresh k i))) 0 → agree W b b' h k n
      → Grown W b b' top h k (h + d) (level_below fresh k d) n (λ q. used fresh q 0 d)
  unfolding tabulate level_below held used sum
  grown_over h k n zero live le g a = rw (add-zero h) (record {
    bytes = λ i. sym (agree_span_byte W pos b b' h k n i a);
    walks = λ i l. sym (agree_walk W pos b b' h k n i l a);
    counts = λ q. omega (arith, ap (occ q) (agree_blocks W pos b b' h k n a));
    fine = λ t. rw (agree_sound W pos b b' top h k n a) at t;
  })
  grown_over h k n (suc d) live le g a =
      let f : ℕ → Page = λ i. level_page W (level_below fresh k i) in
      let old : Grown W b b' top h k (h + d) (level_below fresh k d) n (λ q. used fresh q 0 d) = grown_over h k n d live (omega arith) (held_left W pos b fresh b' (tabulate d f) (f d ∷ []) 0 g) a in
      let page : (j : ℕ) → j < W → cell W b' (fresh d) j ≡ f d j = last_level W fresh pos b' d f g in
      let there : 0 < fresh d = within.nonzero d (omega arith) in
      rw (add-suc h d) (record {
        bytes = λ i. grow_byte W pos b' (h + d) (level_below fresh k d) (fresh d) n there page i ∙ old.bytes i;
        walks = λ i l. grow_walk W pos b' (h + d) (level_below fresh k d) (fresh d) n there page i (omega (arith, span_mono W pos h (h + d) (omega arith))) ∙ old.walks i l;
        counts = λ q. omega (arith, grow_occ W pos b' (h + d) (level_below fresh k d) (fresh d) n there page live q, old.counts q, used_next fresh q d);
        fine = λ t. grow_sound W pos b' (h + d) (level_below fresh k d) (fresh d) n there page top (within.below d (omega arith)) (old.fine t);
      })

  -- the levels of a plan: over a null tree there are none, and it stays null
  pub grown : (h k n d : ℕ) → 0 < n → length (levels W fresh k d) ≤ lim → held W fresh b' (levels W fresh k d) 0 → agree W b b' h k n
      → Grown W b b' top h k (h + d) (level_top fresh k d) n (λ q. used fresh q 0 (length (levels W fresh k d)))
  unfolding levels level_top occ used sum
  grown h zero n d live le g a = record {
    bytes = λ i. span_byte_null W b' (h + d) n i ∙ sym (span_byte_null W b h n i);
    walks = λ i l. walk_null W b' (h + d) n i ∙ sym (walk_null W b h n i);
    counts = λ q. omega (arith, ap (occ q) (blocks_null W b' (h + d) n), ap (occ q) (blocks_null W b h n));
    fine = λ t. rw (sound_null W b' top (h + d) n) tt;
  }
  grown h (suc k) n d live le g a =
      let len : length (levels W fresh (suc k) d) ≡ d = length_levels W fresh (suc k) d (omega arith) in
      rw len (grown_over h (suc k) n d live (omega arith) g a)
