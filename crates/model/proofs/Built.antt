-- A fresh tree: what its pages read as once a board holds them.
use mathlib.Core.Path.{◌≡◌, refl, sym, ap, ◌∙◌, subst}
use mathlib.Core.Logic.{inl, inr}
use mathlib.Core.Bool.{Bool, true, false, false≢true}
use mathlib.Core.List.{List, [], ◌∷◌, ◌++◌}
use Prim.Native.Nat.{ℕ, zero, suc, ◌+◌, ◌-◌, ◌*◌, ◌/◌, ◌%◌, ◌≤◌, ◌<◌}
use native.Mathlib.Omega.{arith}
use native.Mathlib.Nat.{zero-add, add-zero, mul-div_cancel_left, mul-mod_right, zero-mod, zero-div}
use lib.ListN.{length, length-append}
use Rattle.model.specs.Lists.{tabulate, joined, sum, one, occ}
use Rattle.model.specs.Words.{byte_of}
use Rattle.model.specs.Tree.{seen, span, cell, link}
use Rattle.model.specs.Fresh.{Page, splice, part, part_length, touched, fresh_need, fresh_before, need, data_page, pointer_page, build}
use Rattle.model.specs.GivenUp.{path_blocks}
use Rattle.model.specs.Claims.{FreshBlockRule}
use Rattle.model.proofs.Cases.{split, decide, either, length_joined}
use Rattle.model.proofs.Sums.{sum_cong, sum_split}
use Rattle.model.proofs.Counting.{occ_tabulate}
use Rattle.model.proofs.Bytes.{byte_of_lt, byte_of_word_of}
use Rattle.model.proofs.Agree.{byte_at, agree, agree_none, seen_live, seen_dead, seen_lt, link_cell, agree_child, occ_data, sound_leaf, aligned_zero, aligned_full}
use Rattle.model.proofs.Splice.{Small, Reach, length_part, small_part, reach_child, part_fits, splice_small, splice_skip, choose_zero, choose_pos, bytes_small}
use Rattle.model.proofs.Paths.{touched_new, untouched_dead, kid_need, fresh_none, fresh_data, fresh_node, fresh_pos, before_suc, before_le, fresh_quiet}
use Rattle.model.proofs.GivenUp.{path_under, path_none, path_data, path_node, path_null}
use Rattle.model.proofs.Changed.{Changed, recount, passed, node}

-- the board b holds pages from the fresh block number c on
unfoldable pub held : ℕ → (ℕ → ℕ) → List ℕ → List Page → ℕ → Type 0
held W fresh b [] c = Unit
held W fresh b (p ∷ ps) c = ((j : ℕ) → j < W → cell W b (fresh c) j ≡ p j) × held W fresh b ps (suc c)

-- the blocks fresh i with i < lim lie in 1 to top − 1
pub record Between (fresh : ℕ → ℕ) (lim top : ℕ) : Type 0 where
  pub nonzero : (i : ℕ) → i < lim → 0 < fresh i
  pub below : (i : ℕ) → i < lim → fresh i < top

module _ (fresh : ℕ → ℕ) where
  -- how often q is among m fresh blocks from c on
  unfoldable pub used : ℕ → ℕ → ℕ → ℕ
  used q c m = sum m (λ i. one q (fresh (c + i)))

  pub used_first : (q n : ℕ) → occ q (tabulate n fresh) ≡ used q 0 n
  unfolding used
  used_first q n = occ_tabulate q n fresh ∙ sum_cong n _ _ (λ j l. ap (λ (x : ℕ). one q (fresh x)) (sym (zero-add j)))

  pub used_add : (q c m n : ℕ) → used q c (m + n) ≡ used q c m + used q (c + m) n
  unfolding used
  used_add q c m n = sum_split m n (λ i. one q (fresh (c + i))) ∙ ap (λ (x : ℕ). sum m (λ i. one q (fresh (c + i))) + x) (sum_cong n _ _ (λ j l. ap (λ (x : ℕ). one q (fresh x)) (omega arith)))

  pub used_one : (q c : ℕ) → used q c 1 ≡ one q (fresh c)
  unfolding used sum
  used_one q c = zero-add _ ∙ ap (λ (x : ℕ). one q (fresh x)) (add-zero c)

  none_used : (q c m : ℕ) → m ≡ 0 → used q c m ≡ 0
  unfolding used sum
  none_used q c zero e = refl
  none_used q c (suc m) e = absurd (omega arith)

-- a tree with no written byte whose block is made fresh is live
last_live : (W h k n o l : ℕ) → l ≡ 0 → touched W h k n o l ≡ true → 0 < n
last_live W h k zero o l none hit = absurd (false≢true (sym (untouched_dead W h k 0 o l none refl) ∙ hit))
last_live W h k (suc n) o l none hit = omega arith

-- the block of a pointer that is 0 where it isn't live
seen_block : (W n w : ℕ) → seen n w / W ≡ seen n (w / W)
unfolding seen
seen_block W zero w = zero-div W
seen_block W (suc n) w = refl

-- byte t of word j of a fresh data block
pub data_page_byte : (W : ℕ) (b : List ℕ) (k n o : ℕ) (new : List ℕ) → Small new → (j t : ℕ) → t < 8
    → byte_of (data_page W b k n o new j) t ≡ splice o new (seen (n - (8 * j + t)) (byte_of (link W b k j) t)) (8 * j + t)
unfolding data_page
data_page_byte W b k n o new small j t l = byte_of_word_of 8 (λ i. splice o new (seen (n - (8 * j + i)) (byte_of (link W b k j) i)) (8 * j + i))
    (λ i. splice_small o new _ (8 * j + i) small (seen_lt (n - (8 * j + i)) _ 256 (byte_of_lt (link W b k j) i))) t l

-- the same of byte i of the block, the first m bytes of which lie below the new size
pub page_byte : (W : ℕ) (pos : 0 < W) (b b' : List ℕ) (k k' n m o : ℕ) (new : List ℕ) → 0 < k' → Small new → (i : ℕ) → i < m → cell W b' k' (i / 8) ≡ data_page W b k n o new (i / 8)
    → byte_at W b' zero k' m i ≡ splice o new (byte_at W b zero k n i) i
unfolding byte_at
page_byte W pos b b' k k' n m o new there small i v word =
    seen_live (m - i) _ (omega arith)
    ∙ ap (λ (w : ℕ). byte_of w (i % 8)) (link_cell W pos b' k' (i / 8) there ∙ word)
    ∙ data_page_byte W b k n o new small (i / 8) (i % 8) (omega arith)
    ∙ ap (λ (y : ℕ). splice o new (seen (n - y) (byte_of (link W b k (i / 8)) (i % 8))) y) (omega arith)

module _ (W : ℕ) (pos : 0 < W) (b : List ℕ) (fresh : ℕ → ℕ) where
  -- the pages of child j
  abbrev pub kid : ℕ → ℕ → ℕ → ℕ → List ℕ → ℕ → ℕ → List Page
  kid h k n o new c j = build W fresh b h (link W b k j / W) (n - j * span W h) (o - j * span W h) (part (span W h) j o new) (c + fresh_before W b h k n o (length new) j)

  -- what is built, by the test
  pub build_none : (h k n o : ℕ) (new : List ℕ) (c : ℕ) → touched W h k n o (length new) ≡ false → build W fresh b h k n o new c ≡ []
  unfolding build
  build_none zero k n o new c e = rw e
  build_none (suc h) k n o new c e = rw e

  pub build_data : (k n o : ℕ) (new : List ℕ) (c : ℕ) → touched W zero k n o (length new) ≡ true → build W fresh b zero k n o new c ≡ data_page W b k n o new ∷ []
  unfolding build
  build_data k n o new c e = rw e

  pub build_node : (h k n o : ℕ) (new : List ℕ) (c : ℕ) → touched W (suc h) k n o (length new) ≡ true
      → build W fresh b (suc h) k n o new c ≡ joined W (kid h k n o new c) ++ (pointer_page W fresh b h k n o (length new) c ∷ [])
  unfolding build
  build_node h k n o new c e = rw e

  pub length_build : (h k n o : ℕ) (new : List ℕ) (c : ℕ) → length (build W fresh b h k n o new c) ≡ fresh_need W b h k n o (length new)
  unfolding fresh_before
  length_build zero k n o new c = elim (either (touched W zero k n o (length new))) [
    | inl e ↦ rw (build_data k n o new c e, fresh_data W b k n o (length new) e)
    | inr e ↦ rw (build_none zero k n o new c e, fresh_none W b zero k n o (length new) e)
  ]
  length_build (suc h) k n o new c = elim (either (touched W (suc h) k n o (length new))) [
    | inl e ↦ rw (build_node h k n o new c e, fresh_node W b h k n o (length new) e)
        (omega (
          arith,
          length-append (joined W (kid h k n o new c)) (pointer_page W fresh b h k n o (length new) c ∷ []),
          length_joined W (kid h k n o new c),
          sum_cong W (λ j. length (kid h k n o new c j)) (kid_need W b h k n o (length new))
              (λ j l. length_build h (link W b k j / W) (n - j * span W h) (o - j * span W h) (part (span W h) j o new) (c + fresh_before W b h k n o (length new) j)
              ∙ ap (fresh_need W b h (link W b k j / W) (n - j * span W h) (o - j * span W h)) (length_part (span W h) j o new)),
        ))
    | inr e ↦ rw (build_none (suc h) k n o new c e, fresh_none W b (suc h) k n o (length new) e)
  ]

  -- where no block exists
  pub length_build_null : (h n o : ℕ) (new : List ℕ) (c : ℕ) → length (build W fresh b h 0 n o new c) ≡ need W h o (length new)
  length_build_null h n o new c = length_build h 0 n o new c ∙ fresh_quiet W b h 0 n o (length new) (inl refl)

  pub kid_lengths : (h k n o : ℕ) (new : List ℕ) (c m : ℕ) → sum m (λ j. length (kid h k n o new c j)) ≡ fresh_before W b h k n o (length new) m
  unfolding fresh_before
  kid_lengths h k n o new c m = sum_cong m _ _ (λ j l. length_build h (link W b k j / W) (n - j * span W h) (o - j * span W h) (part (span W h) j o new) (c + fresh_before W b h k n o (length new) j)
      ∙ ap (fresh_need W b h (link W b k j / W) (n - j * span W h) (o - j * span W h)) (length_part (span W h) j o new))

  pub room : (h k n o : ℕ) (new : List ℕ) (c lim : ℕ) → touched W (suc h) k n o (length new) ≡ true → c + fresh_need W b (suc h) k n o (length new) ≤ lim → (j : ℕ) → j < W
      → c + fresh_before W b h k n o (length new) j + fresh_need W b h (link W b k j / W) (n - j * span W h) (o - j * span W h) (length (part (span W h) j o new)) ≤ lim
  room h k n o new c lim p q j l = rw (length_part (span W h) j o new)
      (omega (arith, fresh_node W b h k n o (length new) p, before_suc W b h k n o (length new) j, before_le W b h k n o (length new) j l))

  pub used_before : (h k n o l q c m : ℕ) → sum m (λ j. used fresh q (c + fresh_before W b h k n o l j) (kid_need W b h k n o l j)) ≡ used fresh q c (fresh_before W b h k n o l m)
  unfolding fresh_before sum used
  used_before h k n o l q c zero = refl
  used_before h k n o l q c (suc m) = omega (arith, used_before h k n o l q c m, used_add fresh q c (fresh_before W b h k n o l m) (kid_need W b h k n o l m))

  -- a board that holds the pages from c on
  module _ (b' : List ℕ) where
    pub held_left : (ps qs : List Page) (c : ℕ) → held W fresh b' (ps ++ qs) c → held W fresh b' ps c
    unfolding held
    held_left [] qs c h = tt
    held_left (p ∷ ps) qs c h = (h.0, held_left ps qs (suc c) h.1)

    pub held_right : (ps qs : List Page) (c : ℕ) → held W fresh b' (ps ++ qs) c → held W fresh b' qs (c + length ps)
    unfolding held
    held_right [] qs c h = rw add-zero h
    held_right (p ∷ ps) qs c h = subst (held W fresh b' qs) (omega arith) (held_right ps qs (suc c) h.1)

    pub held_joined : (m : ℕ) (f : ℕ → List Page) (c : ℕ) → held W fresh b' (joined m f) c → (j : ℕ) → j < m → held W fresh b' (f j) (c + sum j (λ i. length (f i)))
    unfolding joined
    held_joined zero f c h j l = absurd (omega arith)
    held_joined (suc m) f c h j l = elim (decide m j) [
      | inl e ↦ subst (λ (x : ℕ). held W fresh b' (f x) (c + sum x (λ i. length (f i)))) e (rw (← (length_joined m f)) (held_right (joined m f) (f m) c h))
      | inr n ↦ held_joined m f c (held_left (joined m f) (f m) c h) j (omega arith)
    ]

    -- what a held write has at its root and below it
    pub held_root : (h k n o : ℕ) (new : List ℕ) (c : ℕ) → touched W (suc h) k n o (length new) ≡ true → held W fresh b' (build W fresh b (suc h) k n o new c) c
        → (j : ℕ) → j < W → cell W b' (fresh (c + fresh_need W b (suc h) k n o (length new) - 1)) j ≡ pointer_page W fresh b h k n o (length new) c j
    unfolding held
    held_root h k n o new c p g j l =
        let f = kid h k n o new c in
        let at : c + length (joined W f) ≡ c + fresh_need W b (suc h) k n o (length new) - 1 =
        omega (arith, length_joined W f, kid_lengths h k n o new c W, fresh_node W b h k n o (length new) p) in
        subst (λ (y : ℕ). cell W b' (fresh y) j ≡ pointer_page W fresh b h k n o (length new) c j) at
        ((held_right (joined W f) (pointer_page W fresh b h k n o (length new) c ∷ []) c (rw (build_node h k n o new c p) at g)).0 j l)

    pub held_child : (h k n o : ℕ) (new : List ℕ) (c : ℕ) → touched W (suc h) k n o (length new) ≡ true → held W fresh b' (build W fresh b (suc h) k n o new c) c → (j : ℕ) → j < W
        → held W fresh b' (kid h k n o new c j) (c + fresh_before W b h k n o (length new) j)
    held_child h k n o new c p g j l =
        let f = kid h k n o new c in
        subst (λ (y : ℕ). held W fresh b' (f j) (c + y)) (kid_lengths h k n o new c j)
        (held_joined W f c (held_left (joined W f) (pointer_page W fresh b h k n o (length new) c ∷ []) c (rw (build_node h k n o new c p) at g)) j l)

    -- the bytes of the fresh tree, of which m lie below the new size
    module _ {lim top : ℕ} (within : Between fresh lim top) where
      pub data_byte : (k n o : ℕ) (new : List ℕ) (c m : ℕ) → touched W zero k n o (length new) ≡ true → c < lim → Small new → held W fresh b' (build W fresh b zero k n o new c) c
          → (i : ℕ) → i < span W zero → i < m → byte_at W b' zero (fresh c) m i ≡ splice o new (byte_at W b zero k n i) i
      unfolding held span
      data_byte k n o new c m p q small g i l v =
          page_byte W pos b b' k (fresh c) n m o new (within.nonzero c q) small i v ((rw (build_data k n o new c p) at g).0 (i / 8) (omega arith))

      -- the pointers of the fresh root: a fresh one over a child that takes fresh blocks, elsewhere the old one as it is visible
      pub top_old : (h k n o : ℕ) (new : List ℕ) (c : ℕ) → touched W (suc h) k n o (length new) ≡ true → c + fresh_need W b (suc h) k n o (length new) ≤ lim
          → held W fresh b' (build W fresh b (suc h) k n o new c) c → (j : ℕ) → j < W
          → touched W h (link W b k j / W) (n - j * span W h) (o - j * span W h) (part_length (span W h) j o (length new)) ≡ false
          → link W b' (fresh (c + fresh_need W b (suc h) k n o (length new) - 1)) j ≡ seen (n - j * span W h) (link W b k j)
      unfolding pointer_page
      top_old h k n o new c p q g j l none =
          link_cell W pos b' _ j (within.nonzero _ (omega (arith, fresh_pos W b (suc h) k n o (length new) p))) ∙ held_root h k n o new c p g j l
          ∙ choose_zero (kid_need W b h k n o (length new) j) _ _ (fresh_none W b h _ _ _ _ none)

      pub top_new : (h k n o : ℕ) (new : List ℕ) (c : ℕ) → touched W (suc h) k n o (length new) ≡ true → c + fresh_need W b (suc h) k n o (length new) ≤ lim
          → held W fresh b' (build W fresh b (suc h) k n o new c) c → (j : ℕ) → j < W
          → touched W h (link W b k j / W) (n - j * span W h) (o - j * span W h) (part_length (span W h) j o (length new)) ≡ true
          → link W b' (fresh (c + fresh_need W b (suc h) k n o (length new) - 1)) j
          ≡ W * fresh (c + fresh_before W b h k n o (length new) j + fresh_need W b h (link W b k j / W) (n - j * span W h) (o - j * span W h) (length (part (span W h) j o new)) - 1)
      unfolding pointer_page
      top_new h k n o new c p q g j l some =
          link_cell W pos b' _ j (within.nonzero _ (omega (arith, fresh_pos W b (suc h) k n o (length new) p))) ∙ held_root h k n o new c p g j l
          ∙ choose_pos (kid_need W b h k n o (length new) j) _ _ (fresh_pos W b h _ _ _ _ some)
          ∙ ap (λ (l : ℕ). W * fresh (c + fresh_before W b h k n o (length new) j + fresh_need W b h (link W b k j / W) (n - j * span W h) (o - j * span W h) l - 1)) (sym (length_part (span W h) j o new))

      pub build_changed : (h k n o : ℕ) (new : List ℕ) (c m : ℕ) → touched W h k n o (length new) ≡ true
          → c + fresh_need W b h k n o (length new) ≤ lim → Small new
          → held W fresh b' (build W fresh b h k n o new c) c → agree W b b' h k n → n ≤ m → 0 < m → (0 < length new → o + length new ≤ m) → Reach n m o (length new) (span W h)
          → Changed W b b' top h k (fresh (c + fresh_need W b h k n o (length new) - 1)) n m o new (λ q. used fresh q c (fresh_need W b h k n o (length new)))
          (λ q. occ q (path_blocks W b h k n o (length new)))
      build_changed zero k n o new c m p r small g a le live end reach =
          let e : c + 1 - 1 ≡ c = omega arith in
          let one_block : fresh_need W b zero k n o (length new) ≡ 1 = fresh_data W b k n o (length new) p in
          rw one_block (rw e (record {
            bytes = data_byte k n o new c m p (omega arith) small g;
            counts = λ q. omega (arith, occ_data W pos b' (fresh c) m q (within.nonzero c (omega arith)) live, used_one fresh q c, path_data W pos b k n o (length new) q p);
            fine = λ s. sound_leaf W pos top b' (fresh c) m (within.below c (omega arith));
          }))
      build_changed (suc h) k n o new c m p r small g a le live end reach =
          let s = span W h in
          let l = length new in
          let root = c + fresh_need W b (suc h) k n o l - 1 in
          let root-lt : root < lim = omega (arith, fresh_pos W b (suc h) k n o l p) in
          let count : fresh_need W b (suc h) k n o l ≡ fresh_before W b h k n o l W + 1 = omega (arith, fresh_node W b h k n o l p) in
          let test : ℕ → Bool = λ j. touched W h (link W b k j / W) (n - j * s) (o - j * s) (part_length s j o l) in
          node W pos b b' top h k (fresh root) n m o new _ _ (λ j q. used fresh q (c + fresh_before W b h k n o l j) (kid_need W b h k n o l j))
          (λ j q. occ q (path_under W pos b h k n o l j)) (within.nonzero root root-lt) live
          (λ s. within.below root root-lt)
          (λ j j-lt t. elim (either (test j)) [
            | inr none ↦ rw (top_old h k n o new c p r g j j-lt none) (elim (split (n - j * s) 0) [
              | inl dead ↦ rw (seen_dead (n - j * s) (link W b k j) (omega arith)) (aligned_zero W pos (m - j * s) 0 (zero-mod W))
              | inr alive ↦ rw (seen_live (n - j * s) (link W b k j) alive) (rw (aligned_full W pos (n - j * s) (m - j * s) (link W b k j) alive (omega arith)) at t)
            ])
            | inl some ↦ rw (top_new h k n o new c p r g j j-lt some) (aligned_zero W pos (m - j * s) _ (mul-mod_right W _))
          ])
          (λ q.
          let total : used fresh q c (fresh_need W b (suc h) k n o l) ≡ used fresh q c (fresh_before W b h k n o l W) + one q (fresh root) =
          ap (used fresh q c) count ∙ used_add fresh q c (fresh_before W b h k n o l W) 1
          ∙ ap (λ (x : ℕ). used fresh q c (fresh_before W b h k n o l W) + x) (used_one fresh q (c + fresh_before W b h k n o l W) ∙ ap (λ (x : ℕ). one q (fresh x)) (omega arith)) in
          omega (arith, total, path_node W pos b h k n o l q p, used_before h k n o l q c W))
          (λ j j-lt. elim (either (test j)) [
            | inr none ↦ recount W pos b b' top h _ _ _ _ _ _ (λ q. 0) (λ q. 0) _ _ (λ q. omega (
              arith,
              none_used fresh q (c + fresh_before W b h k n o l j) (kid_need W b h k n o l j) (fresh_none W b h _ _ _ _ none),
              path_none W pos b h (link W b k j / W) (n - j * s) (o - j * s) (part_length s j o l) q none,
            ))
                (passed W pos b b' top h (link W b k j / W) (link W b' (fresh root) j / W) (n - j * s) (m - j * s) (o - j * s) (part s j o new)
                (rw (length_part s j o new) none) (omega arith) (reach_child W h o new n m reach j j-lt) (agree_child W pos b b' h k n a j j-lt)
                (ap (λ (x : ℕ). x / W) (top_old h k n o new c p r g j j-lt none) ∙ seen_block W (n - j * s) (link W b k j)))
            | inl some ↦
                let len : length (part s j o new) ≡ part_length s j o l = length_part s j o new in
                let alive : 0 < m - j * s = elim (split (part_length s j o l) 0) [
                  | inl bare ↦ omega (arith, last_live W h (link W b k j / W) (n - j * s) (o - j * s) (part_length s j o l) (omega arith) some)
                  | inr part ↦ omega (arith, part_fits s j o l m part end)
                ] in
                rw (top_new h k n o new c p r g j j-lt some) (rw (mul-div_cancel_left _ pos) (rw (← len)
                (build_changed h (link W b k j / W) (n - j * s) (o - j * s) (part s j o new) (c + fresh_before W b h k n o l j) (m - j * s) (rw len some)
                (room h k n o new c lim p r j j-lt) (small_part s j o new small) (held_child h k n o new c p g j j-lt) (agree_child W pos b b' h k n a j j-lt) (omega arith) alive
                (rw len (λ u. part_fits s j o l m u end)) (reach_child W h o new n m reach j j-lt))))
          ])

      -- where no block exists, and none is given up
      pub build_null_changed : (h o : ℕ) (new : List ℕ) (c m : ℕ) → 0 < length new → c + need W h o (length new) ≤ lim → Small new
          → held W fresh b' (build W fresh b h 0 0 o new c) c → o + length new ≤ m → Reach 0 m o (length new) (span W h)
          → Changed W b b' top h 0 (fresh (c + need W h o (length new) - 1)) 0 m o new (λ q. used fresh q c (need W h o (length new))) (λ q. 0)
      build_null_changed h o new c m some r small g end reach =
          let count : fresh_need W b h 0 0 o (length new) ≡ need W h o (length new) = fresh_quiet W b h 0 0 o (length new) (inl refl) in
          recount W pos b b' top h _ _ _ _ _ _ _ _ _ _ (λ q. omega (arith, path_null W pos b h 0 o (length new) q))
          (subst (λ (x : ℕ). Changed W b b' top h 0 (fresh (c + x - 1)) 0 m o new (λ q. used fresh q c x) (λ q. occ q (path_blocks W b h 0 0 o (length new)))) count
          (build_changed h 0 0 o new c m (touched_new W h 0 0 o (length new) some) (rw count r) small g (agree_none W pos b b' h 0 0 refl) (omega arith) (omega arith) (λ u. end) reach))

-- ---- Where nothing is visible and nothing written

word_zero : (W : ℕ) (b : List ℕ) (k n o : ℕ) (new : List ℕ) → Small new → (i : ℕ) → n ≤ i → (o ≤ i → o + length new ≤ i) → byte_of (data_page W b k n o new (i / 8)) (i % 8) ≡ 0
word_zero W b k n o new small i past beyond =
    let e : 8 * (i / 8) + i % 8 ≡ i = omega arith in
    data_page_byte W b k n o new small (i / 8) (i % 8) (omega arith)
    ∙ splice_skip o new _ (8 * (i / 8) + i % 8) (λ u v. omega (arith, beyond (omega arith))) ∙ seen_dead (n - (8 * (i / 8) + i % 8)) _ (omega arith)

no_part : (s j o l : ℕ) → (o < j * s + s → o + l ≤ j * s) → part_length s j o l ≡ 0
unfolding part_length
no_part s j o l h = elim (split (j * s + s) o) [
  | inl u ↦ omega arith
  | inr u ↦ omega (arith, h u)
]

pub fresh_block_rule : FreshBlockRule
unfolding pointer_page
fresh_block_rule W b k n o new = (
  λ i past beyond. word_zero W b k n o new.values (bytes_small new.values new.small) i past beyond,
  λ fresh h c j past beyond.
      let s = span W h in
      let none : part_length s j o (length new.values) ≡ 0 = no_part s j o (length new.values) beyond in
      choose_zero (kid_need W b h k n o (length new.values) j) _ _ (fresh_none W b h _ _ _ _ (untouched_dead W h (link W b k j / W) (n - j * s) (o - j * s) _ none (omega arith)))
      ∙ seen_dead (n - j * s) (link W b k j) (omega arith),
)
