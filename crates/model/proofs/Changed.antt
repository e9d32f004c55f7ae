-- A tree that is changed by a write: what it reads as, which blocks it has, and that it is sound.
use mathlib.Core.Path.{◌≡◌, sym, ap, ◌∙◌, subst}
use mathlib.Core.Logic.{inl, inr}
use mathlib.Core.Bool.{false, false≢true}
use mathlib.Core.List.{List}
use Prim.Native.Nat.{ℕ, suc, ◌+◌, ◌-◌, ◌*◌, ◌/◌, ◌%◌, ◌≤◌, ◌<◌}
use native.Mathlib.Omega.{arith}
use native.Mathlib.Nat.{mod-lt, div-add-mod'}
use lib.ListN.{length}
use lib.Dec.{T}
use Rattle.model.specs.Lists.{sum, one, occ}
use Rattle.model.specs.Tree.{seen, span, aligned, link, blocks, sound}
use Rattle.model.specs.Fresh.{splice, part, touched}
use Rattle.model.proofs.Cases.{split}
use Rattle.model.proofs.Sums.{sum_cong, sum_add}
use Rattle.model.proofs.Spans.{child, span_pos}
use Rattle.model.proofs.Agree.{byte_at, byte_at_null, byte_at_past, seen_live, seen_dead, agree, agree_byte, agree_blocks, agree_sound, occ_node, beneath, sound_child, sound_node, byte_at_size, blocks_none, sound_none, blocks_full, sound_full}
use Rattle.model.proofs.Splice.{Cover, Reach, splice_none, splice_part}
use Rattle.model.proofs.Paths.{touched_last, untouched_part}
use Rattle.model.proofs.Trees.{blocks_null, sound_null}

module _ (W : ℕ) (b b' : List ℕ) (top : ℕ) where
  -- (h, k, n) on b has become (h, k', m) on b': `new` is written at o, the extra blocks are more, and those that are gone are less
  pub record Changed (h k k' n m o : ℕ) (new : List ℕ) (extra gone : ℕ → ℕ) : Type 0 where
    pub bytes : (i : ℕ) → i < span W h → i < m → byte_at W b' h k' m i ≡ splice o new (byte_at W b h k n i) i
    pub counts : (q : ℕ) → occ q (blocks W b' h k' m) + gone q ≡ occ q (blocks W b h k n) + extra q
    pub fine : T (sound W b top h k n) → T (sound W b' top h k' m)

module _ (W : ℕ) (pos : 0 < W) (b b' : List ℕ) (top : ℕ) where
  -- the same balance in other words
  pub recount : (h k k' n m o : ℕ) (new : List ℕ) (e x f y : ℕ → ℕ) → ((q : ℕ) → e q + y q ≡ f q + x q) → Changed W b b' top h k k' n m o new e x → Changed W b b' top h k k' n m o new f y
  recount h k k' n m o new e x f y same c = record { bytes = c.bytes; counts = λ q. omega (arith, same q, c.counts q); fine = c.fine }

  -- the same on a board that agrees on what the tree became
  pub changed_to : (c : List ℕ) (h k k' n m o : ℕ) (new : List ℕ) (e d : ℕ → ℕ) → Changed W b b' top h k k' n m o new e d → agree W b' c h k' m → Changed W b c top h k k' n m o new e d
  changed_to c h k k' n m o new e d x a = record {
    bytes = λ i l v. sym (agree_byte W pos b' c h k' m i l a) ∙ x.bytes i l v;
    counts = λ q. rw (← (agree_blocks W pos b' c h k' m a)) (x.counts q);
    fine = λ s. rw (← (agree_sound W pos b' c top h k' m a)) (x.fine s);
  }

  -- a tree that reads the same
  alike : (h k k' n m o : ℕ) (new : List ℕ) → length new ≡ 0 → ((i : ℕ) → i < span W h → i < m → byte_at W b h k n i ≡ byte_at W b' h k' m i)
      → blocks W b h k n ≡ blocks W b' h k' m → sound W b top h k n ≡ sound W b' top h k' m → Changed W b b' top h k k' n m o new (λ q. 0) (λ q. 0)
  alike h k k' n m o new none p q r = record {
    bytes = λ i l v. sym (p i l v) ∙ sym (splice_none o new _ i none);
    counts = λ x. omega (arith, ap (occ x) q);
    fine = λ s. rw r at s;
  }

  -- a tree in which nothing is written
  pub kept : (h k k' n m o : ℕ) (new : List ℕ) → length new ≡ 0 → n ≤ m → Cover n m o (length new) (span W h) → agree W b b' h k n → (0 < n → k' ≡ k)
      → Changed W b b' top h k k' n m o new (λ q. 0) (λ q. 0)
  kept h k k' n m o new none le cover a keep = elim (split n 0) [
    | inl dead ↦
        let gone : m ≡ 0 = elim (split m 0) [ inl z ↦ omega arith | inr more ↦ absurd (omega (arith, cover 0 dead more (span_pos W pos h))) ] in
        alike h k k' n m o new none (λ i l v. absurd (omega arith))
        (blocks_none W pos b h k n (omega arith) ∙ sym (blocks_none W pos b' h k' m gone)) (sound_none W pos top b h k n (omega arith) ∙ sym (sound_none W pos top b' h k' m gone))
    | inr live ↦ rw (keep live) (elim (split m n) [
      | inl small ↦ let e : n ≡ m = omega arith in
          subst (λ (x : ℕ). Changed W b b' top h k k n x o new (λ q. 0) (λ q. 0)) e
          (alike h k k n n o new none (λ i l v. agree_byte W pos b b' h k n i l a) (agree_blocks W pos b b' h k n a) (agree_sound W pos b b' top h k n a))
      | inr more ↦
          let wide : span W h ≤ n = elim (split (span W h) n) [ inl z ↦ z | inr z ↦ absurd (omega (arith, cover n (omega arith) more z)) ] in
          alike h k k n m o new none
          (λ i l v. agree_byte W pos b b' h k n i l a ∙ byte_at_size W pos b' h k n m i (omega arith) v)
          (agree_blocks W pos b b' h k n a ∙ blocks_full W pos b' h k n m wide (omega arith))
          (agree_sound W pos b b' top h k n a ∙ sound_full W pos top b' h k n m wide (omega arith))
    ])
  ]

  -- a tree in which nothing is written and which takes no fresh block. Where it isn't live, and where no block of it exists, more of it may be seen:
  -- there its pointer is null
  pub passed : (h k k' n m o : ℕ) (new : List ℕ) → touched W h k n o (length new) ≡ false → n ≤ m → Reach n m o (length new) (span W h) → agree W b b' h k n → k' ≡ seen n k
      → Changed W b b' top h k k' n m o new (λ q. 0) (λ q. 0)
  passed h k k' n m o new untouched le reach a keep =
      let none : length new ≡ 0 = untouched_part W h k n o (length new) untouched in
      elim (split n 0) [
        | inl dead ↦
            let null : k' ≡ 0 = keep ∙ seen_dead n k (omega arith) in
            rw null (alike h k 0 n m o new none
            (λ i l v. byte_at_past W pos b h k n i (omega arith) ∙ sym (byte_at_null W b' h m i))
            (blocks_none W pos b h k n (omega arith) ∙ sym (blocks_null W b' h m)) (sound_none W pos top b h k n (omega arith) ∙ sym (sound_null W b' top h m)))
        | inr live ↦
            let same : k' ≡ k = keep ∙ seen_live n k live in
            elim (split k 0) [
              | inl hole ↦
                  let null : k ≡ 0 = omega arith in
                  rw (same, null) (alike h 0 0 n m o new none
                  (λ i l v. byte_at_null W b h n i ∙ sym (byte_at_null W b' h m i))
                  (blocks_null W b h n ∙ sym (blocks_null W b' h m)) (sound_null W b top h n ∙ sym (sound_null W b' top h m)))
              | inr there ↦ kept h k k' n m o new none le
                  (λ i u v w. absurd (false≢true (sym untouched ∙ touched_last W h k n o (length new) (omega (arith, reach n (omega arith) (omega arith) (omega arith))) there live (omega arith))))
                  a (λ z. same)
            ]
      ]

  -- a pointer block whose children are changed
  pub node : (h k k' n m o : ℕ) (new : List ℕ) (extra gone : ℕ → ℕ) (extras gones : ℕ → ℕ → ℕ) → 0 < k' → 0 < m
      → (T (sound W b top (suc h) k n) → k' < top)
      → ((j : ℕ) → j < W → T (aligned W (n - j * span W h) (link W b k j)) → T (aligned W (m - j * span W h) (link W b' k' j)))
      → ((q : ℕ) → one q k' + beneath W pos b h k n q + sum W (λ j. extras j q) + gone q ≡ occ q (blocks W b (suc h) k n) + extra q + sum W (λ j. gones j q))
      → ((j : ℕ) → j < W → Changed W b b' top h (link W b k j / W) (link W b' k' j / W) (n - j * span W h) (m - j * span W h) (o - j * span W h) (part (span W h) j o new) (extras j) (gones j))
      → Changed W b b' top (suc h) k k' n m o new extra gone
  unfolding byte_at beneath
  node h k k' n m o new extra gone extras gones there live root words count kids = record {
    bytes = λ i l v.
        let j = i / span W h in
        let r = i % span W h in
        let at : j * span W h + r ≡ i = div-add-mod' i (span W h) in
        (kids j (child W pos h i l).which).bytes r (mod-lt i (span_pos W pos h)) (omega arith) ∙ splice_part (span W h) j o new _ r (mod-lt i (span_pos W pos h)) ∙ ap (splice o new _) at;
    counts = λ q. omega (
      arith,
      occ_node W pos b' h k' m q there live,
      count q,
      sum_cong W (λ j. occ q (blocks W b' h (link W b' k' j / W) (m - j * span W h)) + gones j q) (λ j. occ q (blocks W b h (link W b k j / W) (n - j * span W h)) + extras j q) (λ j l. (kids j l).counts q),
      sum_add W (λ j. occ q (blocks W b' h (link W b' k' j / W) (m - j * span W h))) (λ j. gones j q),
      sum_add W (λ j. occ q (blocks W b h (link W b k j / W) (n - j * span W h))) (λ j. extras j q),
    );
    fine = λ s. sound_node W pos top b' h k' m (root s) (λ j l. let old = sound_child W pos top b h k n s j l in (words j l old.0, (kids j l).fine old.1));
  }
