-- A tree when bytes are written in place at its end (specs/InPlace.antt). One law serves a tail, which hooks fresh trees, and a length change, which
-- writes zeros and hooks holes.
use Rattle.std.specs.Prelude.{None}
use mathlib.Core.Path.{◌≡◌, refl, sym, ap, ◌∙◌, subst}
use mathlib.Core.Logic.{◌≢◌, ◌⊎◌, inl, inr}
use mathlib.Core.List.{List, [], ◌∷◌}
use Prim.Native.Nat.{ℕ, zero, suc, ◌+◌, ◌-◌, ◌*◌, ◌/◌, ◌%◌, ◌≤◌, ◌<◌}
use native.Mathlib.Omega.{arith}
use native.Mathlib.Nat.{zero-div, zero-mod, mul-div_cancel_left, mul-mod_right}
use lib.ListN.{length, get_or, replicate, length-replicate, get_or-replicate, get_or-eq_default}
use lib.Arith.{digits_div, digits_mod}
use lib.Dec.{T}
use Rattle.model.specs.Lists.{sum, choose, occ}
use Rattle.model.specs.Tree.{ending, span, aligned, cell, link}
use Rattle.model.specs.Store.{store}
use Rattle.model.specs.Fresh.{Page, splice, part, part_length, need, data_page, fresh_pointer, build}
use Rattle.model.specs.InPlace.{at_block, tail_need, tail_before, walk_live, tail_pages, tail_words, hooked, in_place}
use Rattle.model.proofs.Cases.{split, length_joined}
use Rattle.model.proofs.Sums.{sum_cong, sum_next, sum_zero}
use Rattle.model.proofs.Spans.{span_pos}
use Rattle.model.proofs.Perform.{All}
use Rattle.model.proofs.Addresses.{joined_at, Stands}
use Rattle.model.proofs.Trees.{blocks_dead, sound_dead, blocks_null, sound_null, blocks_here, sound_here}
use Rattle.model.proofs.Agree.{agree, byte_at_null, byte_at_past, byte_at_size, agree_byte, agree_none, agree_child, occ_node, sound_root, aligned_none, aligned_full, aligned_zero}
use Rattle.model.proofs.Splice.{Small, Cover, splice_in, splice_left, splice_right, length_part, get_d_part, small_part, inside, cover_child, choose_pos, part_fits, part_nothing}
use Rattle.model.proofs.Paths.{need_none}
use Rattle.model.proofs.Changed.{Changed, recount, kept, node}
use Rattle.model.proofs.Built.{Between, held, used, used_add, length_build_null, held_joined, page_byte, build_null_changed}

-- ---- zeros

abbrev pub Zeros : List ℕ → Type 0
Zeros new = (i : ℕ) → get_or new i 0 ≡ 0

pub zeros_replicate : (l : ℕ) → Zeros (replicate l 0)
zeros_replicate l i = elim (split l i) [
  | inl past ↦ get_or-eq_default (replicate l 0) 0 (rw (length-replicate l) past)
  | inr lt ↦ get_or-replicate l i 0 0 lt
]

zeros_part : (s j o : ℕ) (new : List ℕ) → Zeros new → Zeros (part s j o new)
zeros_part s j o new zs i = elim (split (length (part s j o new)) i) [
  | inl past ↦ get_or-eq_default (part s j o new) 0 past
  | inr lt ↦ get_d_part s j o new i lt ∙ zs (j * s - o + i)
]

pub splice_zeros : (o : ℕ) (new : List ℕ) (old i : ℕ) → Zeros new → old ≡ 0 → splice o new old i ≡ 0
splice_zeros o new old i zs e = elim (split o i) [
  | inl p ↦ elim (split (o + length new) i) [
    | inl q ↦ splice_right o new old i q ∙ e
    | inr q ↦ splice_in o new old i p q ∙ zs (i - o)
  ]
  | inr p ↦ splice_left o new old i p ∙ e
]

-- ---- how many fresh blocks are taken

pub tail_need_dead : (W h l : ℕ) → tail_need W h 0 l ≡ need W h 0 l
unfolding tail_need
tail_need_dead W zero l = refl
tail_need_dead W (suc h) l = refl

tail_need_nothing : (W h n l : ℕ) → l ≡ 0 → tail_need W h n l ≡ 0
unfolding tail_need
tail_need_nothing W zero zero l e = ap (need W zero 0) e ∙ need_none W zero 0
tail_need_nothing W zero (suc n) l e = refl
tail_need_nothing W (suc h) zero l e = ap (need W (suc h) 0) e ∙ need_none W (suc h) 0
tail_need_nothing W (suc h) (suc n) l e = sum_zero W _ (λ j u. tail_need_nothing W h (suc n - j * span W h) (part_length (span W h) j (suc n) l) (part_nothing (span W h) j (suc n) l e))

module _ (W : ℕ) (pos : 0 < W) (b : List ℕ) (fresh : ℕ → ℕ) where
  pub length_tail : (h k n : ℕ) (new : List ℕ) (c : ℕ) → length (tail_pages W b fresh h k n new c) ≡ tail_need W h n (length new)
  unfolding tail_pages tail_need
  length_tail zero k zero new c = length_build_null W pos b fresh zero 0 0 new c
  length_tail zero k (suc n) new c = refl
  length_tail (suc h) k zero new c = length_build_null W pos b fresh (suc h) 0 0 new c
  length_tail (suc h) k (suc n) new c = length_joined W _ ∙ sum_cong W _ _ (λ j l.
      length_tail h (link W b k j / W) (suc n - j * span W h) (part (span W h) j (suc n) new) _
      ∙ ap (tail_need W h (suc n - j * span W h)) (length_part (span W h) j (suc n) new))

-- ---- the path to the end

choose_same : {A : Type 0} (n : ℕ) (a : A) → choose n a a ≡ a
unfolding choose
choose_same zero a = refl
choose_same (suc n) a = refl

part_room : (s j o l : ℕ) → 0 < part_length s j o l → o - j * s < s
unfolding part_length
part_room s j o l p = omega arith

module _ (W : ℕ) (b : List ℕ) where
  walk_live_null : (h n : ℕ) → walk_live W b h 0 n ≡ None
  unfolding walk_live ending link
  walk_live_null zero n = refl
  walk_live_null (suc h) n = rw (zero-div W, walk_live_null h (n % span W h)) (choose_same (n % span W h) None)

  walk_live_child : (h k n j : ℕ) → 0 < n - j * span W h → n - j * span W h < span W h
      → walk_live W b (suc h) k n ≡ walk_live W b h (link W b k j / W) (n - j * span W h)
  unfolding walk_live
  walk_live_child h k n j live partly =
      let at : n ≡ j * span W h + (n - j * span W h) = omega arith in
      let which : n / span W h ≡ j = ap (λ (x : ℕ). x / span W h) at ∙ digits_div j partly in
      let rest : n % span W h ≡ n - j * span W h = ap (λ (x : ℕ). x % span W h) at ∙ digits_mod j partly in
      choose_pos (n % span W h) _ _ (omega arith) ∙ rw (which, rest)

  -- no live pointer on the path to the end is null, or the bytes written are 0, as they are in a hole, and Q: no block is taken for them
  abbrev pub Passes : Type 0 → ℕ → ℕ → ℕ → List ℕ → Type 0
  Passes Q h k n new = T (at_block (walk_live W b h k n)) ⊎ (Zeros new × Q)

  -- so it is in the child where the path goes on
  passes_child : (Q : Type 0) (h k n : ℕ) (new : List ℕ) → Passes Q (suc h) k n new → (j : ℕ) → 0 < n - j * span W h → 0 < part_length (span W h) j n (length new)
      → Passes Q h (link W b k j / W) (n - j * span W h) (part (span W h) j n new)
  passes_child Q h k n new (inl t) j live some = inl (rw (walk_live_child h k n j live (part_room (span W h) j n (length new) some)) at t)
  passes_child Q h k n new (inr z) j live some = inr (zeros_part (span W h) j n new z.0, z.1)

-- a live pointer is the same on boards that agree
agree_link : (W : ℕ) (b b' : List ℕ) (h k n : ℕ) → agree W b b' (suc h) k n → (j : ℕ) → j < W → 0 < n - j * span W h → link W b k j ≡ link W b' k j
unfolding agree
agree_link W b b' h k n a j l live = (a j l (omega arith)).0

-- ---- holes, and trees that are not live

module _ (W : ℕ) (b b' : List ℕ) (top : ℕ) where
  -- a hole in which zeros are written stays
  pub hole_changed : (h n m o : ℕ) (new : List ℕ) → Zeros new → Changed W b b' top h 0 0 n m o new (λ q. 0) (λ q. 0)
  unfolding occ
  hole_changed h n m o new zs = record {
    bytes = λ i l v. byte_at_null W b' h m i ∙ sym (splice_zeros o new _ i zs (byte_at_null W b h n i));
    counts = λ q. omega (arith, ap (occ q) (blocks_null W b' h m), ap (occ q) (blocks_null W b h n));
    fine = λ s. rw (sound_null W b' top h m) tt;
  }

  -- a tree that isn't live shows nothing, whatever its block
  dead_changed : (pos : 0 < W) (h k k₂ k' m o : ℕ) (new : List ℕ) (e d : ℕ → ℕ) → Changed W b b' top h k k' 0 m o new e d → Changed W b b' top h k₂ k' 0 m o new e d
  dead_changed pos h k k₂ k' m o new e d c = record {
    bytes = λ i l v. c.bytes i l v ∙ ap (λ (x : ℕ). splice o new x i) (byte_at_past W pos b h k 0 i (omega arith) ∙ sym (byte_at_past W pos b h k₂ 0 i (omega arith)));
    counts = λ q. omega (arith, c.counts q, ap (occ q) (blocks_dead W b h k), ap (occ q) (blocks_dead W b h k₂));
    fine = λ s. c.fine (rw (sound_dead W b top h k) tt);
  }

-- ---- the law

-- `new` is written in place at the end of the tree (h, k, n), whose pointer stands at a, and m of its bytes lie below the size then: b' shows of the tree
-- what b shows, and holds the stores. c fresh blocks are taken before
pub record WrittenOn (W : ℕ) (b b' : List ℕ) (hook : ℕ → ℕ → ℕ → ℕ) (h k n m : ℕ) (new : List ℕ) (c a : ℕ) : Type 0 where
  pub grows : n ≤ m
  pub fits : n + length new ≤ m
  pub cover : Cover n m n (length new) (span W h)
  pub visible : agree W b b' h k n
  pub stands : Stands b' (in_place W b hook h k n new c a)

module _ (W : ℕ) (hook : ℕ → ℕ → ℕ → ℕ) (taken : ℕ → ℕ → ℕ → ℕ) where
  -- What is asked of a hook, and of the count of the blocks taken for it: `taken q c m` is how often q is among the m from c on
  pub record Hooks : Type 0 where
    pub low : (h l c : ℕ) → hook h l c % W ≡ 0
    pub adds : (q c m n : ℕ) → taken q c m + taken q (c + m) n ≡ taken q c (m + n)
    pub none : (q c : ℕ) → taken q c 0 ≡ 0

  module _ (b b' : List ℕ) (top : ℕ) where
    -- the tree under the hook shows `new`
    abbrev pub HookShows : ℕ → List ℕ → ℕ → Type 0
    HookShows h new c = (m : ℕ) → 0 < length new → length new ≤ m → Cover 0 m 0 (length new) (span W h)
        → Changed W b b' top h 0 (hook h (length new) c / W) 0 m 0 new (λ q. taken q c (need W h 0 (length new))) (λ q. 0)

    -- so does the tree under each hook, where `new` is written at the end, n, of a tree of height h
    unfoldable pub HooksShow : ℕ → ℕ → List ℕ → ℕ → Type 0
    HooksShow zero zero new c = HookShows zero new c
    HooksShow zero (suc n) new c = Unit
    HooksShow (suc h) zero new c = HookShows (suc h) new c
    HooksShow (suc h) (suc n) new c = (j : ℕ) → j < W → HooksShow h (suc n - j * span W h) (part (span W h) j (suc n) new) (c + tail_before W h (suc n) (length new) j)

-- blocks taken piece by piece
taken_sum : (W : ℕ) (hook taken : ℕ → ℕ → ℕ → ℕ) → Hooks W hook taken → (q c m : ℕ) (f : ℕ → ℕ) → sum m (λ j. taken q (c + sum j f) (f j)) ≡ taken q c (sum m f)
unfolding sum
taken_sum W hook taken hooks q c zero f = sym (hooks.none q c)
taken_sum W hook taken hooks q c (suc m) f = omega (arith, taken_sum W hook taken hooks q c m f, hooks.adds q c (sum m f) (f m))

-- the pointer w over a tree of height h has become w', with `new` written at the end, n, of the tree
abbrev Becomes : (W : ℕ) (b b' : List ℕ) (top : ℕ) (taken : ℕ → ℕ → ℕ → ℕ) (h n m : ℕ) (new : List ℕ) (c w w' : ℕ) → Type 0
Becomes W b b' top taken h n m new c w w' = (T (aligned W n w) → T (aligned W m w'))
    × Changed W b b' top h (w / W) (w' / W) n m n new (λ q. taken q c (tail_need W h n (length new))) (λ q. 0)

-- the word of a data block where byte i is written
word_stands : (W : ℕ) (b b' : List ℕ) (k n : ℕ) (new : List ℕ) → Stands b' (tail_words W b k n new) → (i : ℕ) → i < span W 0 → n ≤ i → i < n + length new
    → cell W b' k (i / 8) ≡ data_page W b k n n new (i / 8)
unfolding tail_words All store cell span
word_stands W b b' k n new s i l ge lt =
    let j = i / 8 in
    let some : 0 < part_length 8 j n (length new) = omega (arith, inside 8 j n (length new) (i % 8) (omega arith) (omega arith) (omega arith)) in
    (subst (Stands b') (choose_pos (part_length 8 j n (length new)) [] (store (W * k + j) (data_page W b k n n new j) ∷ []) some) (joined_at _ W _ s j (omega arith))).0

module _ (W : ℕ) (pos : 0 < W) (b b' : List ℕ) where
  -- each child is written in turn
  written_child : (hook : ℕ → ℕ → ℕ → ℕ) (h k n m : ℕ) (new : List ℕ) (c a : ℕ) → WrittenOn W b b' hook (suc h) (suc k) (suc n) m new c a → (j : ℕ) → j < W
      → WrittenOn W b b' hook h (link W b (suc k) j / W) (suc n - j * span W h) (m - j * span W h) (part (span W h) j (suc n) new)
      (c + tail_before W h (suc n) (length new) j) (W * suc k + j)
  unfolding in_place link
  written_child hook h k n m new c a w j l = record {
    grows = omega (arith, w.grows);
    fits = rw (length_part (span W h) j (suc n) new) (elim (split (part_length (span W h) j (suc n) (length new)) 0) [
      | inl none ↦ omega (arith, w.grows)
      | inr some ↦ part_fits (span W h) j (suc n) (length new) m some (λ u. w.fits)
    ]);
    cover = cover_child W h (suc n) new (suc n) m w.cover j l;
    visible = agree_child W pos b b' h (suc k) (suc n) w.visible j l;
    stands = joined_at _ W _ w.stands j l;
  }

  data_changed : (top : ℕ) (hook : ℕ → ℕ → ℕ → ℕ) (k n m : ℕ) (new : List ℕ) (c a : ℕ) → WrittenOn W b b' hook 0 (suc k) (suc n) m new c a → Small new
      → Changed W b b' top 0 (suc k) (suc k) (suc n) m (suc n) new (λ q. 0) (λ q. 0)
  unfolding in_place
  data_changed top hook k n m new c a w small =
      let there : suc k ≢ 0 = λ e. omega arith in
      let live : (x : ℕ) → suc n ≤ x → x ≢ 0 = λ x le e. omega arith in
      record {
        bytes = λ i l v. elim (split (suc n) i) [
          | inr lt ↦ byte_at_size W pos b' zero (suc k) m (suc n) i v lt ∙ sym (agree_byte W pos b b' zero (suc k) (suc n) i l w.visible) ∙ sym (splice_left (suc n) new _ i lt)
          | inl ge ↦ page_byte W pos b b' (suc k) (suc k) (suc n) m (suc n) new (omega arith) small i v (word_stands W b b' (suc k) (suc n) new w.stands i l ge (w.cover i ge v l).1)
        ];
        counts = λ q. rw (blocks_here W b' 0 (suc k) m (live m w.grows) there, blocks_here W b 0 (suc k) (suc n) (live (suc n) (omega arith)) there) (omega arith);
        fine = λ t. rw (sound_here W b' top 0 (suc k) m (live m w.grows) there) (rw (sound_here W b top 0 (suc k) (suc n) (live (suc n) (omega arith)) there) at t);
      }

module _ (W : ℕ) (pos : 0 < W) (b b' : List ℕ) (top : ℕ) (hook taken : ℕ → ℕ → ℕ → ℕ) (hooks : Hooks W hook taken) where
  -- nothing is taken for it
  none_taken : (h k k' n m o : ℕ) (new : List ℕ) (e : ℕ → ℕ) → ((q : ℕ) → e q ≡ 0) → Changed W b b' top h k k' n m o new (λ q. 0) (λ q. 0) → Changed W b b' top h k k' n m o new e (λ q. 0)
  none_taken h k k' n m o new e none = recount W pos b b' top h k k' n m o new (λ q. 0) (λ q. 0) e (λ q. 0) (λ q. omega (arith, none q))

  taken_nothing : (q c h n l : ℕ) → l ≡ 0 → taken q c (tail_need W h n l) ≡ 0
  taken_nothing q c h n l e = rw (tail_need_nothing W h n l e) (hooks.none q c)

  -- no block is taken
  abbrev Nothing : Type 0
  Nothing = (q c m : ℕ) → taken q c m ≡ 0

  -- a null pointer on the path to the end stays
  null_changed : (h n m : ℕ) (new : List ℕ) (c : ℕ) → Passes W b Nothing h 0 n new → Changed W b b' top h 0 0 n m n new (λ q. taken q c (tail_need W h n (length new))) (λ q. 0)
  unfolding at_block
  null_changed h n m new c (inl t) = absurd (rw (walk_live_null W b h n) at t)
  null_changed h n m new c (inr z) = none_taken h 0 0 n m n new _ (λ q. z.1 q c (tail_need W h n (length new))) (hole_changed W b b' top h n m n new z.0)

  -- a pointer at a that wasn't live: the hook, or still not live where nothing is written beneath it
  hooked_becomes : (h w : ℕ) (new : List ℕ) (c m a : ℕ) → length new ≤ m → Stands b' (hooked hook h new c a) → HookShows W hook taken b b' top h new c → Cover 0 m 0 (length new) (span W h)
      → Becomes W b b' top taken h 0 m new c w (get_or b' a 0)
  unfolding hooked All store
  hooked_becomes h w [] c m a fits s shows cover =
      let gone : m ≡ 0 = elim (split m 0) [ inl z ↦ omega arith | inr more ↦ absurd (omega (arith, cover 0 (omega arith) more (span_pos W pos h))) ] in (
        λ t. rw (aligned_none W pos m (get_or b' a 0) gone) tt,
        none_taken h _ _ 0 m 0 [] _ (λ q. taken_nothing q c h 0 0 refl) (kept W pos b b' top h _ _ 0 m 0 [] refl (omega arith) cover (agree_none W pos b b' h _ 0 refl) (λ live. absurd (omega arith))),
      )
  hooked_becomes h w (x ∷ new) c m a fits s shows cover = rw (s.0, tail_need_dead W h (suc (length new))) (
    λ t. aligned_zero W pos m _ (hooks.low h (suc (length new)) c),
    dead_changed W b b' top pos h 0 _ _ m 0 (x ∷ new) _ _ (shows m (omega arith) fits cover),
  )

  dead_becomes : (h w n m : ℕ) (new : List ℕ) (c a : ℕ) → n ≡ 0 → WrittenOn W b b' hook h (w / W) n m new c a → HooksShow W hook taken b b' top h n new c
      → Becomes W b b' top taken h n m new c w (get_or b' a 0)
  unfolding in_place HooksShow
  dead_becomes zero w zero m new c a e wr shows = hooked_becomes zero w new c m a (omega (arith, wr.fits)) wr.stands shows wr.cover
  dead_becomes (suc h) w zero m new c a e wr shows = hooked_becomes (suc h) w new c m a (omega (arith, wr.fits)) wr.stands shows wr.cover
  dead_becomes h w (suc n) m new c a e wr shows = absurd (omega arith)

  -- The tree reads as before, and as `new` from n on; only the blocks taken for hooks are more. Each child is all live, on the path to the end, or not live
  pub in_place_changed : (h k n m : ℕ) (new : List ℕ) (c a : ℕ) → 0 < n → WrittenOn W b b' hook h k n m new c a → Small new
      → HooksShow W hook taken b b' top h n new c → Passes W b Nothing h k n new
      → Changed W b b' top h k k n m n new (λ q. taken q c (tail_need W h n (length new))) (λ q. 0)
  unfolding tail_need tail_before HooksShow link cell
  in_place_changed zero k zero m new c a live w small shows path = absurd (omega arith)
  in_place_changed zero zero (suc n) m new c a live w small shows path = null_changed 0 (suc n) m new c path
  in_place_changed zero (suc k) (suc n) m new c a live w small shows path = none_taken 0 (suc k) (suc k) (suc n) m (suc n) new _ (λ q. hooks.none q c) (data_changed W pos b b' top hook k n m new c a w small)
  in_place_changed (suc h) k zero m new c a live w small shows path = absurd (omega arith)
  in_place_changed (suc h) zero (suc n) m new c a live w small shows path = null_changed (suc h) (suc n) m new c path
  in_place_changed (suc h) (suc k) (suc n) m new c a live w small shows path =
      let s = span W h in
      let F : ℕ → ℕ = λ j. tail_need W h (suc n - j * s) (part_length s j (suc n) (length new)) in
      let kid : (j : ℕ) → j < W → Becomes W b b' top taken h (suc n - j * s) (m - j * s) (part s j (suc n) new) (c + sum j F) (link W b (suc k) j) (link W b' (suc k) j) =
      λ j l.
      let w-j = written_child W pos b b' hook h k n m new c a w j l in
      elim (split (suc n - j * s) 0) [
        | inl dead ↦ dead_becomes h _ _ _ _ _ _ (omega arith) w-j (shows j l)
        | inr live-j ↦ rw (← (agree_link W b b' h (suc k) (suc n) w.visible j l live-j)) (
          λ t. rw (aligned_full W pos (suc n - j * s) (m - j * s) (link W b (suc k) j) live-j (omega (arith, w.grows))) at t,
          elim (split (part_length s j (suc n) (length new)) 0) [
            | inl none ↦ none_taken h _ _ _ _ _ _ _ (λ q. taken_nothing q (c + sum j F) h (suc n - j * s) _ (rw (length_part s j (suc n) new) (omega arith))) (kept W pos b b' top h _ _ _ _ _ _ (rw (length_part s j (suc n) new) (omega arith)) w-j.grows w-j.cover w-j.visible (λ z. refl))
            | inr some ↦ in_place_changed h _ _ _ _ _ _ live-j w-j (small_part s j (suc n) new small) (shows j l) (passes_child W b Nothing h (suc k) (suc n) new path j live-j some)
          ],
        )
      ] in
      node W pos b b' top h (suc k) (suc k) (suc n) m (suc n) new _ (λ q. 0) (λ j q. taken q (c + sum j F) (F j)) (λ j q. 0) (omega arith) (omega (arith, w.grows))
      (sound_root W pos top b h (suc k) (suc n) (omega arith) (omega arith))
      (λ j l. (kid j l).0)
      (λ q. omega (arith, occ_node W pos b h (suc k) (suc n) q (omega arith) (omega arith), taken_sum W hook taken hooks q c W F, sum_zero W (λ j. 0) (λ j l. refl)))
      (λ j l. rw (← (length_part s j (suc n) new)) (kid j l).1)

-- ---- a tail: under a hook are fresh blocks, which b' holds

abbrev tail_hook : ℕ → (ℕ → ℕ) → ℕ → ℕ → ℕ → ℕ
tail_hook W fresh h l c = fresh_pointer W fresh h 0 l c

module _ (W : ℕ) (pos : 0 < W) (b b' : List ℕ) {fresh : ℕ → ℕ} {lim top : ℕ} (within : Between fresh lim top) where
  tail_hooks : Hooks W (tail_hook W fresh) (used fresh)
  unfolding fresh_pointer used sum
  tail_hooks = record { low = λ h l c. mul-mod_right W _; adds = λ q c m n. sym (used_add fresh q c m n); none = λ q c. refl }

  tail_hook_shows : (h : ℕ) (new : List ℕ) (c : ℕ) → Small new → c + need W h 0 (length new) ≤ lim → held W fresh b' (build W fresh b h 0 0 0 new c) c
      → HookShows W (tail_hook W fresh) (used fresh) b b' top h new c
  unfolding fresh_pointer
  tail_hook_shows h new c small room g = λ m some fits cover. rw (mul-div_cancel_left _ pos)
      (build_null_changed W pos b fresh b' within h 0 new c m some room small g (omega arith) (λ i u v w. (cover i u v w).1))

  tail_hooks_show : (h k n : ℕ) (new : List ℕ) (c : ℕ) → Small new → c + tail_need W h n (length new) ≤ lim → held W fresh b' (tail_pages W b fresh h k n new c) c
      → HooksShow W (tail_hook W fresh) (used fresh) b b' top h n new c
  unfolding HooksShow tail_pages tail_need tail_before
  tail_hooks_show zero k zero new c small room g = tail_hook_shows zero new c small room g
  tail_hooks_show zero k (suc n) new c small room g = tt
  tail_hooks_show (suc h) k zero new c small room g = tail_hook_shows (suc h) new c small room g
  tail_hooks_show (suc h) k (suc n) new c small room g =
      let s = span W h in
      let F : ℕ → ℕ = λ j. tail_need W h (suc n - j * s) (part_length s j (suc n) (length new)) in
      let pages : ℕ → List Page = λ j. tail_pages W b fresh h (link W b k j / W) (suc n - j * s) (part s j (suc n) new) (c + sum j F) in
      let lengths : (m : ℕ) → sum m (λ j. length (pages j)) ≡ sum m F = λ m. sum_cong m _ _ (λ j l.
      length_tail W pos b fresh h (link W b k j / W) (suc n - j * s) (part s j (suc n) new) (c + sum j F) ∙ ap (tail_need W h (suc n - j * s)) (length_part s j (suc n) new)) in
      λ j l. tail_hooks_show h (link W b k j / W) (suc n - j * s) (part s j (suc n) new) (c + sum j F) (small_part s j (suc n) new small)
      (rw (length_part s j (suc n) new) (omega (arith, sum_next W F j l)))
      (subst (λ (y : ℕ). held W fresh b' (pages j) (c + y)) (lengths j) (held_joined W pos b fresh b' W pages c g j l))

  pub tail_changed : (h k n m : ℕ) (new : List ℕ) (c a : ℕ) → 0 < n → WrittenOn W b b' (λ h l c. fresh_pointer W fresh h 0 l c) h k n m new c a → Small new
      → c + tail_need W h n (length new) ≤ lim → held W fresh b' (tail_pages W b fresh h k n new c) c → T (at_block (walk_live W b h k n))
      → Changed W b b' top h k k n m n new (λ q. used fresh q c (tail_need W h n (length new))) (λ q. 0)
  tail_changed h k n m new c a live w small room g path = in_place_changed W pos b b' top (tail_hook W fresh) (used fresh) tail_hooks h k n m new c a live w small
      (tail_hooks_show h k n new c small room g) (inl path)

-- ---- a length change: zeros are written, and under a hook is a hole

module _ (W : ℕ) (pos : 0 < W) (b b' : List ℕ) (top : ℕ) where
  length_hook_shows : (h : ℕ) (new : List ℕ) (c : ℕ) → Zeros new → HookShows W (λ h l c. 0) (λ q c m. 0) b b' top h new c
  length_hook_shows h new c zs = λ m some fits cover. rw (zero-div W) (hole_changed W b b' top h 0 m 0 new zs)

  length_hooks_show : (h n : ℕ) (new : List ℕ) (c : ℕ) → Zeros new → HooksShow W (λ h l c. 0) (λ q c m. 0) b b' top h n new c
  unfolding HooksShow
  length_hooks_show zero zero new c zs = length_hook_shows zero new c zs
  length_hooks_show zero (suc n) new c zs = tt
  length_hooks_show (suc h) zero new c zs = length_hook_shows (suc h) new c zs
  length_hooks_show (suc h) (suc n) new c zs = λ j l. length_hooks_show h (suc n - j * span W h) (part (span W h) j (suc n) new) _ (zeros_part (span W h) j (suc n) new zs)

  pub length_changed : (h k n m l c a : ℕ) → 0 < n → WrittenOn W b b' (λ h l c. 0) h k n m (replicate l 0) c a → Changed W b b' top h k k n m n (replicate l 0) (λ q. 0) (λ q. 0)
  length_changed h k n m l c a live w = in_place_changed W pos b b' top (λ h l c. 0) (λ q c m. 0) (record { low = λ h l c. zero-mod W; adds = λ q c m n. refl; none = λ q c. refl })
      h k n m (replicate l 0) c a live w (λ i. omega (arith, zeros_replicate l i)) (length_hooks_show h n (replicate l 0) c (zeros_replicate l)) (inr (zeros_replicate l, λ q c m. refl))
