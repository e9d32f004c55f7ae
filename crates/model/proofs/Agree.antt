-- What is visible of a tree: its bytes, boards that agree on it, and stores that do not alter it.
use mathlib.Core.Path.{◌≡◌, refl, sym, ap, ap₂, ◌∙◌, subst}
use mathlib.Core.Logic.{◌≢◌, inl, inr}
use mathlib.Core.Bool.{Bool, true, cond, ◌&&◌}
use mathlib.Core.List.{List, [], ◌∷◌}
use Prim.Native.Nat.{ℕ, zero, suc, ◌+◌, ◌-◌, ◌*◌, ◌/◌, ◌%◌, ◌^◌, ◌≤◌, ◌<◌}
use native.Mathlib.Omega.{arith}
use native.Mathlib.Nat.{mod-lt, div-add-mod', zero-div, zero-mod, mul-le-mul_right}
use lib.ListN.{length, get_or, set}
use lib.Seq.{get_or-set_same, get_or-set_other, set_out}
use lib.Dec.{T, ltb, lt→ltb, ltb→lt}
use borrow.Author.Tests.{lt-ltb, le-ltb}
use Rattle.model.specs.Lists.{sum, one, occ}
use Rattle.model.specs.Words.{byte_of}
use Rattle.model.specs.Tree.{seen, span, aligned, cell, link, blocks, sound}
use Rattle.model.proofs.Cases.{split, decide, and_left, and_right, and_both, every_of, every_all, every_cong, joined_cong}
use Rattle.model.proofs.Sums.{sum_at, sum_zero}
use Rattle.model.proofs.Counting.{one_same, occ_joined}
use Rattle.model.proofs.Spans.{child, span_pos}
use Rattle.model.proofs.Perform.{address_block}
use Rattle.model.proofs.Trees.{blocks_dead, blocks_null, sound_dead, sound_null, child_blocks}

module _ (W : ℕ) where
  -- byte i of the tree (h, k, n) as it is seen: 0 past the n bytes below the size and in a hole
  unfoldable pub byte_at : List ℕ → ℕ → ℕ → ℕ → ℕ → ℕ
  byte_at b zero k n i = seen (n - i) (byte_of (link W b k (i / 8)) (i % 8))
  byte_at b (suc h) k n i = byte_at b h (link W b k (i / span W h) / W) (n - i / span W h * span W h) (i % span W h)

  -- the same for any i: 0 past the span too
  unfoldable pub span_byte : List ℕ → ℕ → ℕ → ℕ → ℕ → ℕ
  span_byte b h k n i = cond (ltb i (span W h)) (byte_at b h k n i) 0

  -- all that is visible of the tree is the same on both boards: live pointers, and bytes below the size
  unfoldable pub agree : List ℕ → List ℕ → ℕ → ℕ → ℕ → Type 0
  agree b b' zero k n = (i : ℕ) → i < 8 * W → i < n → byte_of (link W b k (i / 8)) (i % 8) ≡ byte_of (link W b' k (i / 8)) (i % 8)
  agree b b' (suc h) k n = (j : ℕ) → j < W → j * span W h < n → (link W b k j ≡ link W b' k j) × agree b b' h (link W b k j / W) (n - j * span W h)

pub seen_live : (n w : ℕ) → 0 < n → seen n w ≡ w
unfolding seen
seen_live zero w h = absurd (omega arith)
seen_live (suc n) w h = refl

pub seen_dead : (n w : ℕ) → n ≡ 0 → seen n w ≡ 0
unfolding seen
seen_dead zero w h = refl
seen_dead (suc n) w h = absurd (omega arith)

pub seen_lt : (n w t : ℕ) → w < t → seen n w < t
unfolding seen
seen_lt zero w t h = omega arith
seen_lt (suc n) w t h = h

seen_zero : (n : ℕ) → seen n 0 ≡ 0
unfolding seen
seen_zero zero = refl
seen_zero (suc n) = refl

module _ (W : ℕ) (b : List ℕ) where
  pub byte_at_null : (h n i : ℕ) → byte_at W b h 0 n i ≡ 0
  unfolding byte_at link byte_of
  byte_at_null zero n i = rw (zero-div (256 ^ (i % 8)), zero-mod 256) (seen_zero (n - i))
  byte_at_null (suc h) n i = rw (zero-div W) (byte_at_null h (n - i / span W h * span W h) (i % span W h))

  pub span_byte_in : (h k n i : ℕ) → i < span W h → span_byte W b h k n i ≡ byte_at W b h k n i
  unfolding span_byte
  span_byte_in h k n i l = rw (lt-ltb i (span W h) l)

  pub span_byte_past : (h k n i : ℕ) → span W h ≤ i → span_byte W b h k n i ≡ 0
  unfolding span_byte
  span_byte_past h k n i l = rw (le-ltb i (span W h) l)

  pub span_byte_null : (h n i : ℕ) → span_byte W b h 0 n i ≡ 0
  span_byte_null h n i = elim (split (span W h) i) [
    | inl past ↦ span_byte_past h 0 n i past
    | inr l ↦ span_byte_in h 0 n i l ∙ byte_at_null h n i
  ]

module _ (W : ℕ) (pos : 0 < W) where
  -- ---- nothing is visible of a tree that is not live, nor in a hole

  pub blocks_none : (b : List ℕ) (h k n : ℕ) → n ≡ 0 → blocks W b h k n ≡ []
  blocks_none b h k n e = rw e (blocks_dead W b h k)

  pub sound_none : (top : ℕ) (b : List ℕ) (h k n : ℕ) → n ≡ 0 → sound W b top h k n ≡ true
  sound_none top b h k n e = rw e (sound_dead W b top h k)

  pub aligned_none : (n w : ℕ) → n ≡ 0 → aligned W n w ≡ true
  unfolding aligned
  aligned_none zero w e = refl
  aligned_none (suc n) w e = absurd (omega arith)

  pub byte_at_past : (b : List ℕ) (h k n i : ℕ) → n ≤ i → byte_at W b h k n i ≡ 0
  unfolding byte_at
  byte_at_past b zero k n i l = seen_dead (n - i) _ (omega arith)
  byte_at_past b (suc h) k n i l = byte_at_past b h (link W b k (i / span W h) / W) (n - i / span W h * span W h) (i % span W h) (omega (arith, div-add-mod' i (span W h)))

  -- below both sizes the size does not matter
  pub byte_at_size : (b : List ℕ) (h k n m i : ℕ) → i < n → i < m → byte_at W b h k n i ≡ byte_at W b h k m i
  unfolding byte_at
  byte_at_size b zero k n m i p q = seen_live (n - i) _ (omega arith) ∙ sym (seen_live (m - i) _ (omega arith))
  byte_at_size b (suc h) k n m i p q = byte_at_size b h (link W b k (i / span W h) / W) (n - i / span W h * span W h) (m - i / span W h * span W h) (i % span W h)
      (omega (arith, div-add-mod' i (span W h))) (omega (arith, div-add-mod' i (span W h)))

  -- ---- boards that agree on a tree show the same blocks, soundness and bytes

  module _ (b b' : List ℕ) where
    pub agree_blocks : (h k n : ℕ) → agree W b b' h k n → blocks W b h k n ≡ blocks W b' h k n
    unfolding blocks agree link
    agree_blocks zero zero n a = refl
    agree_blocks zero (suc k) zero a = refl
    agree_blocks zero (suc k) (suc n) a = refl
    agree_blocks (suc h) zero n a = refl
    agree_blocks (suc h) (suc k) zero a = refl
    agree_blocks (suc h) (suc k) (suc n) a = ap (λ (l : List ℕ). suc k ∷ l) (joined_cong W _ _ (λ j l. elim (split (suc n) (j * span W h)) [
      | inl d ↦ blocks_none b h (cell W b (suc k) j / W) (suc n - j * span W h) (omega arith)
          ∙ sym (blocks_none b' h (cell W b' (suc k) j / W) (suc n - j * span W h) (omega arith))
      | inr d ↦ rw (← (a j l d).0) (agree_blocks h (cell W b (suc k) j / W) (suc n - j * span W h) (a j l d).1)
    ]))

    pub agree_sound : (top h k n : ℕ) → agree W b b' h k n → sound W b top h k n ≡ sound W b' top h k n
    unfolding sound agree link
    agree_sound top zero zero n a = refl
    agree_sound top zero (suc k) zero a = refl
    agree_sound top zero (suc k) (suc n) a = refl
    agree_sound top (suc h) zero n a = refl
    agree_sound top (suc h) (suc k) zero a = refl
    agree_sound top (suc h) (suc k) (suc n) a = ap (λ (t : Bool). ltb (suc k) top && t) (every_cong W _ _ (λ j l. elim (split (suc n) (j * span W h)) [
      | inl d ↦ ap₂ ◌&&◌ (aligned_none (suc n - j * span W h) (cell W b (suc k) j) (omega arith) ∙ sym (aligned_none (suc n - j * span W h) (cell W b' (suc k) j) (omega arith)))
          (sound_none top b h (cell W b (suc k) j / W) (suc n - j * span W h) (omega arith) ∙ sym (sound_none top b' h (cell W b' (suc k) j / W) (suc n - j * span W h) (omega arith)))
      | inr d ↦ rw (← (a j l d).0) (rw (agree_sound top h (cell W b (suc k) j / W) (suc n - j * span W h) (a j l d).1))
    ]))

    pub agree_byte : (h k n i : ℕ) → i < span W h → agree W b b' h k n → byte_at W b h k n i ≡ byte_at W b' h k n i
    unfolding byte_at agree span
    agree_byte zero k n i l a = elim (split n i) [
      | inl d ↦ seen_dead (n - i) _ (omega arith) ∙ sym (seen_dead (n - i) _ (omega arith))
      | inr d ↦ rw (a i l d)
    ]
    agree_byte (suc h) k n i l a =
        let j = i / span W h in
        let m = n - j * span W h in
        elim (split n (j * span W h)) [
          | inl d ↦ byte_at_past b h (link W b k j / W) m (i % span W h) (omega arith) ∙ sym (byte_at_past b' h (link W b' k j / W) m (i % span W h) (omega arith))
          | inr d ↦ rw (← (a j (child W pos h i l).which d).0) (agree_byte h (link W b k j / W) m (i % span W h) (mod-lt i (span_pos W pos h)) (a j (child W pos h i l).which d).1)
        ]

    pub agree_span_byte : (h k n i : ℕ) → agree W b b' h k n → span_byte W b h k n i ≡ span_byte W b' h k n i
    agree_span_byte h k n i a = elim (split (span W h) i) [
      | inl past ↦ span_byte_past W b h k n i past ∙ sym (span_byte_past W b' h k n i past)
      | inr l ↦ span_byte_in W b h k n i l ∙ agree_byte h k n i l a ∙ sym (span_byte_in W b' h k n i l)
    ]

  -- ---- agreement is an equivalence

  pub agree_refl : (b : List ℕ) (h k n : ℕ) → agree W b b h k n
  unfolding agree
  agree_refl b zero k n = λ i l d. refl
  agree_refl b (suc h) k n = λ j l d. (refl, agree_refl b h (link W b k j / W) (n - j * span W h))

  pub agree_trans : (b c d : List ℕ) (h k n : ℕ) → agree W b c h k n → agree W c d h k n → agree W b d h k n
  unfolding agree
  agree_trans b c d zero k n p q = λ i l v. p i l v ∙ q i l v
  agree_trans b c d (suc h) k n p q = λ j l v. (
    (p j l v).0 ∙ (q j l v).0,
    agree_trans b c d h (link W b k j / W) (n - j * span W h) (p j l v).1
        (subst (λ (w : ℕ). agree W c d h (w / W) (n - j * span W h)) (sym (p j l v).0) (q j l v).1),
  )

  pub agree_sym : (b c : List ℕ) (h k n : ℕ) → agree W b c h k n → agree W c b h k n
  unfolding agree
  agree_sym b c zero k n p = λ i l v. sym (p i l v)
  agree_sym b c (suc h) k n p = λ j l v. (
    sym (p j l v).0,
    subst (λ (w : ℕ). agree W c b h (w / W) (n - j * span W h)) (p j l v).0 (agree_sym b c h (link W b k j / W) (n - j * span W h) (p j l v).1),
  )

  -- ---- frame: what changes outside the live blocks is not visible

  pub link_cell : (b : List ℕ) (k j : ℕ) → 0 < k → link W b k j ≡ cell W b k j
  unfolding link
  link_cell b zero j h = absurd (omega arith)
  link_cell b (suc k) j h = refl

  pub agree_hole : (b b' : List ℕ) (h n : ℕ) → agree W b b' h 0 n
  unfolding agree link
  agree_hole b b' zero n = λ i l d. refl
  agree_hole b b' (suc h) n = λ j l d. (refl, rw zero-div (agree_hole b b' h (n - j * span W h)))

  pub agree_none : (b b' : List ℕ) (h k n : ℕ) → n ≡ 0 → agree W b b' h k n
  unfolding agree
  agree_none b b' zero k n e = λ i l d. absurd (omega arith)
  agree_none b b' (suc h) k n e = λ j l d. absurd (omega arith)

  pub agree_child : (b b' : List ℕ) (h k n : ℕ) → agree W b b' (suc h) k n → (j : ℕ) → j < W → agree W b b' h (link W b k j / W) (n - j * span W h)
  unfolding agree
  agree_child b b' h k n a j l = elim (split n (j * span W h)) [
    | inl d ↦ agree_none b b' h _ _ (omega arith)
    | inr d ↦ (a j l d).1
  ]

  pub frame : (b b' : List ℕ) (h k n : ℕ) → ((q : ℕ) → 0 < occ q (blocks W b h k n) → (j : ℕ) → j < W → cell W b q j ≡ cell W b' q j) → agree W b b' h k n
  unfolding blocks agree link occ
  frame b b' zero zero n same = λ i l d. refl
  frame b b' zero (suc k) zero same = λ i l d. absurd (omega arith)
  frame b b' zero (suc k) (suc n) same = λ i l d. ap (λ (w : ℕ). byte_of w (i % 8)) (same (suc k) (omega (arith, one_same (suc k))) (i / 8) (omega arith))
  frame b b' (suc h) zero n same = λ j l d. (refl, rw zero-div (agree_hole b b' h (n - j * span W h)))
  frame b b' (suc h) (suc k) zero same = λ j l d. absurd (omega arith)
  frame b b' (suc h) (suc k) (suc n) same = λ j l d. (
    same (suc k) (omega (arith, one_same (suc k))) j l,
    frame b b' h (cell W b (suc k) j / W) (suc n - j * span W h) (λ q f. same q (omega (arith, occ_joined q W (λ i. blocks W b h (cell W b (suc k) i / W) (suc n - i * span W h)), sum_at W (λ i. occ q (blocks W b h (cell W b (suc k) i / W) (suc n - i * span W h))) j l))),
  )

  pub cell_away : (b : List ℕ) (a v q j : ℕ) → j < W → q ≢ a / W → cell W (set b a v) q j ≡ cell W b q j
  unfolding cell
  cell_away b a v q j l n = get_or-set_other b a (W * q + j) v 0 (λ e. n (sym (address_block W q j l) ∙ ap (λ (x : ℕ). x / W) e))

  -- a store to a block that is not live
  pub agree_away : (b : List ℕ) (a v h k n : ℕ) → occ (a / W) (blocks W b h k n) ≡ 0 → agree W b (set b a v) h k n
  agree_away b a v h k n e = frame b (set b a v) h k n (λ q f j l. sym (cell_away b a v q j l (λ q≡. omega (arith, rw q≡ at f))))

  -- ---- a store that alters nothing visible still does so after others that agree

  -- what is read off a word, f, is not altered by the store
  pub dark_word : (f : ℕ → ℕ) (b c : List ℕ) (a v x : ℕ) → length b ≡ length c
      → f (get_or b x 0) ≡ f (get_or c x 0) → f (get_or b x 0) ≡ f (get_or (set b a v) x 0) → f (get_or c x 0) ≡ f (get_or (set c a v) x 0)
  dark_word f b c a v x len p d = elim (decide x a) [
    | inl e ↦ elim (split (length b) a) [
      | inl out ↦ rw (set_out c a v (omega arith))
      | inr ins ↦ cc (get_or-set_same b a v 0 ins, get_or-set_same c a v 0 (omega arith))
    ]
    | inr n ↦ rw (get_or-set_other c a x v 0 n)
  ]

  dark_link : (f : ℕ → ℕ) (b c : List ℕ) (a v k j : ℕ) → length b ≡ length c
      → f (link W b k j) ≡ f (link W c k j) → f (link W b k j) ≡ f (link W (set b a v) k j) → f (link W c k j) ≡ f (link W (set c a v) k j)
  unfolding link cell
  dark_link f b c a v zero j len p d = refl
  dark_link f b c a v (suc k) j len p d = dark_word f b c a v (W * suc k + j) len p d

  pub dark_again : (b c : List ℕ) (a v h k n : ℕ) → length b ≡ length c
      → agree W b c h k n → agree W b (set b a v) h k n → agree W c (set c a v) h k n
  unfolding agree
  dark_again b c a v zero k n len p d = λ i l u. dark_link (λ w. byte_of w (i % 8)) b c a v k (i / 8) len (p i l u) (d i l u)
  dark_again b c a v (suc h) k n len p d = λ j l u. (
    dark_link (λ w. w) b c a v k j len (p j l u).0 (d j l u).0,
    subst (λ (w : ℕ). agree W c (set c a v) h (w / W) (n - j * span W h)) (p j l u).0
        (dark_again b c a v h (link W b k j / W) (n - j * span W h) len (p j l u).1 (d j l u).1),
  )

  -- ---- a tree by its children

  pub child_fits : (h j : ℕ) → j < W → j * span W h + span W h ≤ span W (suc h)
  unfolding span
  child_fits h j l = omega (arith, mul-le-mul_right (span W h) l)

  -- past the span the size does not matter
  pub blocks_full : (b : List ℕ) (h k n m : ℕ) → span W h ≤ n → span W h ≤ m → blocks W b h k n ≡ blocks W b h k m
  unfolding blocks
  blocks_full b zero zero n m p q = refl
  blocks_full b zero (suc k) zero m p q = absurd (omega (arith, span_pos W pos zero))
  blocks_full b zero (suc k) (suc n) zero p q = absurd (omega (arith, span_pos W pos zero))
  blocks_full b zero (suc k) (suc n) (suc m) p q = refl
  blocks_full b (suc h) zero n m p q = refl
  blocks_full b (suc h) (suc k) zero m p q = absurd (omega (arith, span_pos W pos (suc h)))
  blocks_full b (suc h) (suc k) (suc n) zero p q = absurd (omega (arith, span_pos W pos (suc h)))
  blocks_full b (suc h) (suc k) (suc n) (suc m) p q = ap (λ (l : List ℕ). suc k ∷ l) (joined_cong W _ _ (λ j l.
      blocks_full b h (cell W b (suc k) j / W) (suc n - j * span W h) (suc m - j * span W h) (omega (arith, child_fits h j l)) (omega (arith, child_fits h j l))))

  pub aligned_full : (n m w : ℕ) → 0 < n → 0 < m → aligned W n w ≡ aligned W m w
  unfolding aligned
  aligned_full zero m w p q = absurd (omega arith)
  aligned_full (suc n) zero w p q = absurd (omega arith)
  aligned_full (suc n) (suc m) w p q = refl

  pub sound_full : (top : ℕ) (b : List ℕ) (h k n m : ℕ) → span W h ≤ n → span W h ≤ m → sound W b top h k n ≡ sound W b top h k m
  unfolding sound
  sound_full top b zero zero n m p q = refl
  sound_full top b zero (suc k) zero m p q = absurd (omega (arith, span_pos W pos zero))
  sound_full top b zero (suc k) (suc n) zero p q = absurd (omega (arith, span_pos W pos zero))
  sound_full top b zero (suc k) (suc n) (suc m) p q = refl
  sound_full top b (suc h) zero n m p q = refl
  sound_full top b (suc h) (suc k) zero m p q = absurd (omega (arith, span_pos W pos (suc h)))
  sound_full top b (suc h) (suc k) (suc n) zero p q = absurd (omega (arith, span_pos W pos (suc h)))
  sound_full top b (suc h) (suc k) (suc n) (suc m) p q = ap (λ (t : Bool). ltb (suc k) top && t) (every_cong W _ _ (λ j l. ap₂ ◌&&◌
      (aligned_full (suc n - j * span W h) (suc m - j * span W h) (cell W b (suc k) j) (omega (arith, child_fits h j l, span_pos W pos h)) (omega (arith, child_fits h j l, span_pos W pos h)))
      (sound_full top b h (cell W b (suc k) j / W) (suc n - j * span W h) (suc m - j * span W h) (omega (arith, child_fits h j l)) (omega (arith, child_fits h j l)))))

  -- the blocks beneath the root, counted
  unfoldable pub beneath : List ℕ → ℕ → ℕ → ℕ → ℕ → ℕ
  beneath b h k n q = sum W (λ j. occ q (blocks W b h (link W b k j / W) (n - j * span W h)))

  pub occ_leaf : (b : List ℕ) (k n q : ℕ) → occ q (blocks W b zero k n) ≤ one q k
  unfolding blocks occ
  occ_leaf b zero n q = omega arith
  occ_leaf b (suc k) zero q = omega arith
  occ_leaf b (suc k) (suc n) q = omega arith

  pub occ_data : (b : List ℕ) (k n q : ℕ) → 0 < k → 0 < n → occ q (blocks W b zero k n) ≡ one q k
  unfolding blocks occ
  occ_data b zero n q p r = absurd (omega arith)
  occ_data b (suc k) zero q p r = absurd (omega arith)
  occ_data b (suc k) (suc n) q p r = omega arith

  pub occ_above : (b : List ℕ) (h k n q : ℕ) → occ q (blocks W b (suc h) k n) ≤ one q k + beneath b h k n q
  unfolding blocks occ beneath link
  occ_above b h zero n q = omega arith
  occ_above b h (suc k) zero q = omega arith
  occ_above b h (suc k) (suc n) q = omega (arith, occ_joined q W (λ j. blocks W b h (cell W b (suc k) j / W) (suc n - j * span W h)))

  pub occ_beneath : (b : List ℕ) (h k n q : ℕ) → beneath b h k n q ≤ occ q (blocks W b (suc h) k n)
  unfolding blocks occ beneath link
  occ_beneath b h zero n q = omega (arith, sum_zero W (λ j. occ q (blocks W b h (0 / W) (n - j * span W h))) (λ j l. rw zero-div (rw (blocks_null W b h (n - j * span W h)))))
  occ_beneath b h (suc k) zero q = omega (arith, sum_zero W (λ j. occ q (blocks W b h (cell W b (suc k) j / W) (0 - j * span W h))) (λ j l. rw (blocks_none b h (cell W b (suc k) j / W) (0 - j * span W h) (omega arith))))
  occ_beneath b h (suc k) (suc n) q = omega (arith, occ_joined q W (λ j. blocks W b h (cell W b (suc k) j / W) (suc n - j * span W h)))

  pub aligned_zero : (n w : ℕ) → w % W ≡ 0 → T (aligned W n w)
  unfolding aligned
  aligned_zero zero w e = tt
  aligned_zero (suc n) w e = rw e tt

  pub sound_child : (top : ℕ) (b : List ℕ) (h k n : ℕ) → T (sound W b top (suc h) k n) → (j : ℕ) → j < W
      → T (aligned W (n - j * span W h) (link W b k j)) × T (sound W b top h (link W b k j / W) (n - j * span W h))
  unfolding sound link
  sound_child top b h zero n t j l = (aligned_zero (n - j * span W h) 0 (zero-mod W), rw (zero-div W, sound_null W b top h (n - j * span W h)) tt)
  sound_child top b h (suc k) zero t j l = (rw (aligned_none (0 - j * span W h) (cell W b (suc k) j) (omega arith)) tt, rw (sound_none top b h (cell W b (suc k) j / W) (0 - j * span W h) (omega arith)) tt)
  sound_child top b h (suc k) (suc n) t j l =
      let m = suc n - j * span W h in
      let both = every_of W (λ i. aligned W (suc n - i * span W h) (cell W b (suc k) i) && sound W b top h (cell W b (suc k) i / W) (suc n - i * span W h)) (and_right (ltb (suc k) top) _ t) j l in
      (and_left (aligned W m (cell W b (suc k) j)) (sound W b top h (cell W b (suc k) j / W) m) both, and_right (aligned W m (cell W b (suc k) j)) (sound W b top h (cell W b (suc k) j / W) m) both)

  pub sound_leaf : (top : ℕ) (b : List ℕ) (k n : ℕ) → k < top → T (sound W b top zero k n)
  unfolding sound
  sound_leaf top b zero n p = tt
  sound_leaf top b (suc k) zero p = tt
  sound_leaf top b (suc k) (suc n) p = lt→ltb (suc k) top p

  pub sound_node : (top : ℕ) (b : List ℕ) (h k n : ℕ) → k < top
      → ((j : ℕ) → j < W → T (aligned W (n - j * span W h) (link W b k j)) × T (sound W b top h (link W b k j / W) (n - j * span W h)))
      → T (sound W b top (suc h) k n)
  unfolding sound link
  sound_node top b h zero n p f = tt
  sound_node top b h (suc k) zero p f = tt
  sound_node top b h (suc k) (suc n) p f = and_both (ltb (suc k) top) _ (lt→ltb (suc k) top p) (every_all W _ (λ j l.
      and_both (aligned W (suc n - j * span W h) (cell W b (suc k) j)) _ (f j l).0 (f j l).1))

  pub occ_node : (b : List ℕ) (h k n q : ℕ) → 0 < k → 0 < n → occ q (blocks W b (suc h) k n) ≡ one q k + beneath b h k n q
  unfolding blocks occ beneath link
  occ_node b h zero n q p r = absurd (omega arith)
  occ_node b h (suc k) zero q p r = absurd (omega arith)
  occ_node b h (suc k) (suc n) q p r = omega (arith, occ_joined q W (λ j. blocks W b h (cell W b (suc k) j / W) (suc n - j * span W h)))

  -- the blocks of a live pointer block's tree, by children
  module _ (b : List ℕ) (h k n : ℕ) (live : 0 < n) where
    pub occ_children : (q : ℕ) → occ q (blocks W b (suc h) (suc k) n) ≡ one q (suc k) + sum W (λ i. occ q (child_blocks W b h (suc k) n i))
    unfolding beneath link
    occ_children q = occ_node b h (suc k) n q (omega arith) live

    pub occ_root : 0 < occ (suc k) (blocks W b (suc h) (suc k) n)
    occ_root = omega (arith, occ_children (suc k), one_same (suc k))

    pub occ_child : (q j : ℕ) → j < W → one q (suc k) + occ q (child_blocks W b h (suc k) n j) ≤ occ q (blocks W b (suc h) (suc k) n)
    occ_child q j l = omega (arith, occ_children q, sum_at W (λ i. occ q (child_blocks W b h (suc k) n i)) j l)

  pub sound_root : (top : ℕ) (b : List ℕ) (h k n : ℕ) → 0 < k → 0 < n → T (sound W b top (suc h) k n) → k < top
  unfolding sound
  sound_root top b h zero n p r t = absurd (omega arith)
  sound_root top b h (suc k) zero p r t = absurd (omega arith)
  sound_root top b h (suc k) (suc n) p r t = ltb→lt (suc k) top (and_left (ltb (suc k) top) _ t)
