-- The stores to existing words when bytes are written at the end of a tree (specs/InPlace.antt): each is hidden, they go to live blocks of the tree, and
-- where no block is reached twice no address is there twice. All three follow from where the stores go and what bytes they keep; none asks
-- what `hook` stores, and a null pointer on the way is allowed.
use mathlib.Core.Path.{◌≡◌, refl, ◌∙◌}
use mathlib.Core.Logic.{inl, inr}
use mathlib.Core.Bool.{Bool, not, ◌&&◌}
use mathlib.Core.List.{List, [], ◌∷◌}
use Prim.Native.Nat.{ℕ, zero, suc, ◌+◌, ◌-◌, ◌*◌, ◌/◌, ◌%◌, ◌≤◌, ◌<◌}
use native.Mathlib.Omega.{arith}
use lib.ListN.{length}
use lib.Dec.{T, leb, eqb, le→leb, eqb_refl}
use Rattle.model.specs.Lists.{choose, one, occ}
use Rattle.model.specs.Words.{byte_of}
use Rattle.model.specs.Tree.{live, span, cell, link, blocks}
use Rattle.model.specs.Store.{Store, store}
use Rattle.model.specs.Hidden.{keeps_bytes, hidden_under}
use Rattle.model.specs.Fresh.{part, part_length, data_page}
use Rattle.model.specs.InPlace.{tail_before, tail_words, hooked, in_place}
use Rattle.model.proofs.Cases.{split, joined_none, and_both, every_all, or_left, or_right, some_at}
use Rattle.model.proofs.Sums.{sum_le, sum_add}
use Rattle.model.proofs.Counting.{occ_joined}
use Rattle.model.proofs.Perform.{All, address_block, address_place}
use Rattle.model.proofs.Addresses.{addresses, all_joined, all_map, occ_addresses_joined, addresses_counted, block_once}
use Rattle.model.proofs.Trees.{child_blocks}
use Rattle.model.proofs.Agree.{seen_live}
use Rattle.model.proofs.Splice.{Small, length_part, part_nothing, small_part, splice_left}
use Rattle.model.proofs.Built.{data_page_byte}

not_live : (n : ℕ) → n ≤ 0 → T (not (live n))
unfolding live
not_live zero d = tt
not_live (suc n) d = absurd (omega arith)

all_choose : {A : Type 0} (P : A → Type 0) (n : ℕ) (x : A) → P x → All P (choose n [] (x ∷ []))
unfolding All choose
all_choose P zero x p = tt
all_choose P (suc n) x p = (p, tt)

choose_once : (x n : ℕ) (s : Store) → occ x (addresses (choose n [] (s ∷ []))) ≤ one x s.at
unfolding occ choose
choose_once x zero s = omega arith
choose_once x (suc n) s = omega arith

-- no bytes, no stores
module _ (W : ℕ) (b : List ℕ) (hook : ℕ → ℕ → ℕ → ℕ) where
  empty_words : (k n : ℕ) (new : List ℕ) → length new ≡ 0 → tail_words W b k n new ≡ []
  unfolding tail_words choose
  empty_words k n new e = joined_none W _ (λ j l. rw (part_nothing 8 j n (length new) e))

  empty_hook : (h : ℕ) (new : List ℕ) (c a : ℕ) → length new ≡ 0 → hooked hook h new c a ≡ []
  unfolding hooked
  empty_hook h [] c a e = refl
  empty_hook h (x ∷ new) c a e = absurd (omega arith)

  pub empty_stores : (h k n : ℕ) (new : List ℕ) (c a : ℕ) → length new ≡ 0 → in_place W b hook h k n new c a ≡ []
  unfolding in_place
  empty_stores zero k zero new c a e = empty_hook zero new c a e
  empty_stores zero zero (suc n) new c a e = refl
  empty_stores zero (suc k) (suc n) new c a e = empty_words (suc k) (suc n) new e
  empty_stores (suc h) k zero new c a e = empty_hook (suc h) new c a e
  empty_stores (suc h) zero (suc n) new c a e = refl
  empty_stores (suc h) (suc k) (suc n) new c a e = joined_none W _ (λ j l. empty_stores h (cell W b (suc k) j / W) (suc n - j * span W h) (part (span W h) j (suc n) new)
      (c + tail_before W h (suc n) (length new) j) (W * suc k + j) (length_part (span W h) j (suc n) new ∙ part_nothing (span W h) j (suc n) (length new) e))

module _ (W : ℕ) (b : List ℕ) where
  abbrev Hides : ℕ → ℕ → ℕ → Store → Type 0
  Hides h k n s = T (hidden_under W b s h k n)

  -- ---- data words

  -- with bytes written at n, those before are kept
  kept_byte : (k n : ℕ) (new : List ℕ) (j i : ℕ) → Small new → i < 8 → 8 * j + i < n → byte_of (data_page W b k n n new j) i ≡ byte_of (link W b k j) i
  kept_byte k n new j i small l before =
      data_page_byte W b k n n new small j i l ∙ splice_left n new _ (8 * j + i) before ∙ seen_live (n - (8 * j + i)) (byte_of (link W b k j) i) (omega arith)

  data_keeps : (k n : ℕ) (new : List ℕ) (j : ℕ) → Small new → T (keeps_bytes n j (link W b k j) (data_page W b k n n new j))
  unfolding keeps_bytes
  data_keeps k n new j small = every_all 8 _ (λ i l.
      let same : Bool = eqb (byte_of (data_page W b k n n new j) i) (byte_of (link W b k j) i) in
      elim (split n (8 * j + i)) [
        | inl past ↦ or_left (leb n (8 * j + i)) same (le→leb n (8 * j + i) past)
        | inr before ↦ or_right (leb n (8 * j + i)) same (rw (kept_byte k n new j i small l before) (eqb_refl (byte_of (link W b k j) i)))
      ])

  data_hidden : (k n : ℕ) (new : List ℕ) (j : ℕ) → j < W → Small new → Hides zero (suc k) (suc n) (store (W * suc k + j) (data_page W b (suc k) (suc n) (suc n) new j))
  unfolding hidden_under store link cell
  data_hidden k n new j l small = rw (address_block W (suc k) j l, address_place W (suc k) j l)
      (and_both (eqb (suc k) (suc k)) (keeps_bytes (suc n) j (link W b (suc k) j) (data_page W b (suc k) (suc n) (suc n) new j)) (eqb_refl (suc k)) (data_keeps (suc k) (suc n) new j small))

  tail_words_hidden : (k n : ℕ) (new : List ℕ) → Small new → All (Hides zero (suc k) (suc n)) (tail_words W b (suc k) (suc n) new)
  unfolding tail_words
  tail_words_hidden k n new small = all_joined (Hides zero (suc k) (suc n)) W _ (λ j l.
      all_choose (Hides zero (suc k) (suc n)) (part_length 8 j (suc n) (length new)) _ (data_hidden k n new j l small))

  tail_words_once : (k n : ℕ) (new : List ℕ) (x : ℕ) → occ x (addresses (tail_words W b k n new)) ≤ one (x / W) k
  unfolding tail_words store
  tail_words_once k n new x =
      let word : ℕ → List Store = λ j. choose (part_length 8 j n (length new)) [] (store (W * k + j) (data_page W b k n n new j) ∷ []) in
      omega (
        arith,
        occ_addresses_joined x W word,
        sum_le W (λ j. occ x (addresses (word j))) (λ j. one x (W * k + j)) (λ j l. choose_once x (part_length 8 j n (length new)) (store (W * k + j) (data_page W b k n n new j))),
        block_once W x k,
      )

  -- ---- a pointer block: a pointer that isn't live, and what is stored further down

  pointer_hidden : (h k n j v : ℕ) → j < W → suc n - j * span W h ≤ 0 → Hides (suc h) (suc k) (suc n) (store (W * suc k + j) v)
  unfolding hidden_under store
  pointer_hidden h k n j v l dead =
      let here : Bool = eqb (suc k) (suc k) in
      let out : Bool = not (live (suc n - j * span W h)) in
      rw (address_block W (suc k) j l, address_place W (suc k) j l) (or_left (here && out) _ (and_both here out (eqb_refl (suc k)) (not_live (suc n - j * span W h) dead)))

  child_hidden : (s : Store) (h k n j : ℕ) → j < W → Hides h (cell W b (suc k) j / W) (suc n - j * span W h) s → Hides (suc h) (suc k) (suc n) s
  unfolding hidden_under
  child_hidden s h k n j l t = or_right (eqb (s.at / W) (suc k) && not (live (suc n - s.at % W * span W h))) _
      (some_at W (λ i. hidden_under W b s h (cell W b (suc k) i / W) (suc n - i * span W h)) j l t)

  module _ (hook : ℕ → ℕ → ℕ → ℕ) where
    -- under a pointer that isn't live there is at most the store to it
    all_dead : (P : Store → Type 0) (h k n : ℕ) (new : List ℕ) (c a : ℕ) → n ≤ 0 → ((v : ℕ) → P (store a v)) → All P (in_place W b hook h k n new c a)
    unfolding in_place hooked All
    all_dead P zero k zero [] c a d p = tt
    all_dead P zero k zero (y ∷ new) c a d p = (p (hook zero (suc (length new)) c), tt)
    all_dead P (suc h) k zero [] c a d p = tt
    all_dead P (suc h) k zero (y ∷ new) c a d p = (p (hook (suc h) (suc (length new)) c), tt)
    all_dead P h k (suc n) new c a d p = absurd (omega arith)

    dead_once : (h k n : ℕ) (new : List ℕ) (c a x : ℕ) → n ≤ 0 → occ x (addresses (in_place W b hook h k n new c a)) ≤ one x a
    unfolding in_place hooked occ store
    dead_once zero k zero [] c a x d = omega arith
    dead_once zero k zero (y ∷ new) c a x d = omega arith
    dead_once (suc h) k zero [] c a x d = omega arith
    dead_once (suc h) k zero (y ∷ new) c a x d = omega arith
    dead_once h k (suc n) new c a x d = absurd (omega arith)

    -- the stores under child j of block k
    abbrev under : ℕ → ℕ → ℕ → List ℕ → ℕ → ℕ → List Store
    under h k n new c j = in_place W b hook h (cell W b k j / W) (n - j * span W h) (part (span W h) j n new) (c + tail_before W h n (length new) j) (W * k + j)

    -- ---- all of them

    pub in_place_hidden : (h k n : ℕ) (new : List ℕ) (c a : ℕ) → 0 < n → Small new → All (λ s. T (hidden_under W b s h k n)) (in_place W b hook h k n new c a)
    unfolding in_place All
    in_place_hidden zero k zero new c a p small = absurd (omega arith)
    in_place_hidden zero zero (suc n) new c a p small = tt
    in_place_hidden zero (suc k) (suc n) new c a p small = tail_words_hidden k n new small
    in_place_hidden (suc h) k zero new c a p small = absurd (omega arith)
    in_place_hidden (suc h) zero (suc n) new c a p small = tt
    in_place_hidden (suc h) (suc k) (suc n) new c a p small = all_joined (Hides (suc h) (suc k) (suc n)) W (under h (suc k) (suc n) new c) (λ j l.
        let below : ℕ = suc n - j * span W h in
        elim (split below 0) [
          | inl dead ↦ all_dead (Hides (suc h) (suc k) (suc n)) h _ below _ _ _ dead (λ v. pointer_hidden h k n j v l dead)
          | inr more ↦ all_map (Hides h (cell W b (suc k) j / W) below) (Hides (suc h) (suc k) (suc n)) (λ s t. child_hidden s h k n j l t) (under h (suc k) (suc n) new c j)
              (in_place_hidden h (cell W b (suc k) j / W) below (part (span W h) j (suc n) new) (c + tail_before W h (suc n) (length new) j) (W * suc k + j) more (small_part (span W h) j (suc n) new small))
        ])

    -- no more of them go to word x than its block is counted among the live ones
    pub in_place_once : (h k n : ℕ) (new : List ℕ) (c a x : ℕ) → 0 < n → occ x (addresses (in_place W b hook h k n new c a)) ≤ occ (x / W) (blocks W b h k n)
    unfolding in_place blocks occ
    in_place_once zero k zero new c a x p = absurd (omega arith)
    in_place_once zero zero (suc n) new c a x p = omega arith
    in_place_once zero (suc k) (suc n) new c a x p = omega (arith, tail_words_once (suc k) (suc n) new x)
    in_place_once (suc h) k zero new c a x p = absurd (omega arith)
    in_place_once (suc h) zero (suc n) new c a x p = omega arith
    in_place_once (suc h) (suc k) (suc n) new c a x p =
        let stored : ℕ → ℕ = λ j. occ x (addresses (under h (suc k) (suc n) new c j)) in
        let beneath : ℕ → ℕ = λ j. occ (x / W) (child_blocks W b h (suc k) (suc n) j) in
        let each : (j : ℕ) → j < W → stored j ≤ one x (W * suc k + j) + beneath j = λ j l. elim (split (suc n - j * span W h) 0) [
          | inl dead ↦ let le : stored j ≤ one x (W * suc k + j) = dead_once h _ _ _ _ _ x dead in omega arith
          | inr more ↦ let le : stored j ≤ beneath j = in_place_once h _ _ _ _ _ x more in omega arith
        ] in
        omega (
          arith,
          occ_addresses_joined x W (under h (suc k) (suc n) new c),
          sum_le W stored (λ j. one x (W * suc k + j) + beneath j) each,
          sum_add W (λ j. one x (W * suc k + j)) beneath,
          block_once W x (suc k),
          occ_joined (x / W) W (child_blocks W b h (suc k) (suc n)),
        )

    -- each goes to a live block of the tree
    pub in_place_blocks : (h k n : ℕ) (new : List ℕ) (c a : ℕ) → 0 < n → All (λ s. 0 < occ (s.at / W) (blocks W b h k n)) (in_place W b hook h k n new c a)
    in_place_blocks h k n new c a p =
        let ss : List Store = in_place W b hook h k n new c a in
        all_map (λ s. 0 < occ s.at (addresses ss)) (λ s. 0 < occ (s.at / W) (blocks W b h k n)) (λ s l. omega (arith, in_place_once h k n new c a s.at p)) ss (addresses_counted ss)
