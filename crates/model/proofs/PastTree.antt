-- A fresh tree for bytes written past the end: the path to the last byte before them is fresh as far as its blocks exist, and every pointer past the
-- old size that leads to no written byte is null.
use mathlib.Core.Path.{◌≡◌, refl, sym, ap, ◌∙◌}
use mathlib.Core.Logic.{◌⊎◌, inl, inr}
use mathlib.Core.Bool.{Bool, true, false, false≢true}
use mathlib.Core.List.{List, [], ◌∷◌}
use Prim.Native.Nat.{ℕ, zero, suc, ◌+◌, ◌-◌, ◌*◌, ◌/◌, ◌%◌, ◌≤◌, ◌<◌}
use native.Mathlib.Omega.{arith}
use native.Mathlib.Nat.{mul-div_cancel_left, zero-div}
use lib.ListN.{length}
use lib.Dec.{T}
use Rattle.model.specs.Lists.{all}
use Rattle.model.specs.Tree.{seen, span, link, walk}
use Rattle.model.specs.Fresh.{part, part_length, touched, fresh_need, fresh_before, build}
use Rattle.model.specs.InPlace.{at_block}
use Rattle.model.specs.Claims.{path, NullPast}
use Rattle.model.proofs.Cases.{split, either, and_both}
use Rattle.model.proofs.Spans.{Child, child, span_pos}
use Rattle.model.proofs.Trees.{walk_null, walk_here}
use Rattle.model.proofs.Agree.{seen_live, seen_dead, child_fits}
use Rattle.model.proofs.Splice.{length_part}
use Rattle.model.proofs.Paths.{touched_last, untouched_dead, fresh_pos}
use Rattle.model.proofs.Built.{Between, held, room, held_child, top_old, top_new}

module _ (W : ℕ) (pos : 0 < W) (b : List ℕ) where
  -- ---- Trees of which nothing is asked: null ones, and those that lie below s

  null_past_null : (h s o l : ℕ) → NullPast W b h 0 s o l
  unfolding NullPast link
  null_past_null zero s o l = tt
  null_past_null (suc h) s o l = λ j j-lt. (λ u v. refl, rw (zero-div W) (null_past_null h (s - j * span W h) (o - j * span W h) (part_length (span W h) j o l)))

  null_past_below : (h k s o l : ℕ) → span W h ≤ s → NullPast W b h k s o l
  unfolding NullPast
  null_past_below zero k s o l le = tt
  null_past_below (suc h) k s o l le = λ j j-lt. (
    λ u v. absurd (omega (arith, child_fits W pos h j j-lt, span_pos W pos h)),
    null_past_below h (link W b k j / W) (s - j * span W h) (o - j * span W h) (part_length (span W h) j o l) (omega (arith, child_fits W pos h j j-lt)),
  )

  -- ---- Paths

  path_null : (h i : ℕ) → path W b h 0 i ≡ []
  unfolding path
  path_null zero i = refl
  path_null (suc h) i = refl

  path_data : (k i : ℕ) → 0 < k → path W b 0 k i ≡ k ∷ []
  unfolding path
  path_data zero i there = absurd (omega arith)
  path_data (suc k) i there = refl

  path_node : (h k i : ℕ) → 0 < k → path W b (suc h) k i ≡ k ∷ path W b h (link W b k (i / span W h) / W) (i % span W h)
  unfolding path link
  path_node h zero i there = absurd (omega arith)
  path_node h (suc k) i there = refl

-- ---- The fresh tree, on a board b' that holds its pages

module _ (W : ℕ) (pos : 0 < W) (b b' : List ℕ) {fresh : ℕ → ℕ} {lim upper : ℕ} (within : Between fresh lim upper) where
  -- a write of `new` at o into the tree (h, k, n) takes fresh blocks from number c on, and b' holds them
  pub record Laid (h k n o : ℕ) (new : List ℕ) (c : ℕ) : Type 0 where
    pub test : touched W h k n o (length new) ≡ true
    pub room_for : c + fresh_need W b h k n o (length new) ≤ lim
    pub pages : held W fresh b' (build W fresh b h k n o new c) c

  -- its block
  abbrev pub top : ℕ → ℕ → ℕ → ℕ → List ℕ → ℕ → ℕ
  top h k n o new c = fresh (c + fresh_need W b h k n o (length new) - 1)

  top_there : {h k n o : ℕ} {new : List ℕ} {c : ℕ} → Laid h k n o new c → 0 < top h k n o new c
  top_there {h} {k} {n} {o} {new} w = within.nonzero _ (omega (arith, w.room_for, fresh_pos W b h k n o (length new) w.test))

  module _ {h k n o : ℕ} {new : List ℕ} {c : ℕ} (w : Laid (suc h) k n o new c) (j : ℕ) (j-lt : j < W) where
    -- child j: its block, its bytes below the size, what is written there, and how many blocks are taken before
    abbrev kid_block : ℕ
    kid_block = link W b k j / W

    abbrev before : ℕ
    before = c + fresh_before W b h k n o (length new) j

    -- it is as it was visible, or laid too
    Kid : Type 0
    Kid = ((touched W h kid_block (n - j * span W h) (o - j * span W h) (part_length (span W h) j o (length new)) ≡ false)
        × (link W b' (top (suc h) k n o new c) j ≡ seen (n - j * span W h) (link W b k j)))
        ⊎ (Laid h kid_block (n - j * span W h) (o - j * span W h) (part (span W h) j o new) before
        × (link W b' (top (suc h) k n o new c) j ≡ W * top h kid_block (n - j * span W h) (o - j * span W h) (part (span W h) j o new) before))

    kid_either : Kid
    unfolding Kid
    kid_either =
        let s = span W h in
        elim (either (touched W h kid_block (n - j * s) (o - j * s) (part_length s j o (length new)))) [
          | inl some ↦ inr (
            record {
              test = rw (length_part s j o new) some;
              room_for = room W pos b fresh h k n o new c lim w.test w.room_for j j-lt;
              pages = held_child W pos b fresh b' h k n o new c w.test w.pages j j-lt;
            },
            top_new W pos b fresh b' within h k n o new c w.test w.room_for w.pages j j-lt some,
          )
          | inr none ↦ inl (none, top_old W pos b fresh b' within h k n o new c w.test w.room_for w.pages j j-lt none)
        ]

  -- pointers past the size that lead to no written byte are null
  pub laid_holes : {h k n o : ℕ} {new : List ℕ} {c : ℕ} → Laid h k n o new c → (0 < n → n < o) → NullPast W b' h (top h k n o new c) n o (length new)
  unfolding NullPast Kid
  laid_holes {h = zero} w past = tt
  laid_holes {h = suc h} {k} {n} {o} {new} {c} w past = λ j j-lt.
      let s = span W h in
      let x : ℕ = link W b k j in
      elim (kid_either w j j-lt) [
        | inl old ↦ rw old.1 (elim (split (n - j * s) 0) [
          | inl dead ↦ rw (seen_dead (n - j * s) x (omega arith)) (λ u v. refl, rw (zero-div W) (null_past_null W pos b' h (n - j * s) (o - j * s) (part_length s j o (length new))))
          | inr live ↦ rw (seen_live (n - j * s) x live) (
            λ u v. absurd (omega arith),
            elim (split (x / W) 0) [
              | inl hole ↦ let null : x / W ≡ 0 = omega arith in rw null (null_past_null W pos b' h (n - j * s) (o - j * s) (part_length s j o (length new)))
              | inr there ↦ elim (split (n - j * s) s) [
                | inl fits ↦ absurd (false≢true (sym old.0 ∙ touched_last W h (x / W) (n - j * s) (o - j * s) (part_length s j o (length new)) (omega (arith, past (omega arith))) there live fits))
                | inr below ↦ null_past_below W pos b' h (x / W) (n - j * s) (o - j * s) (part_length s j o (length new)) (omega arith)
              ]
            ],
          )
        ])
        | inr new_kid ↦ (
          λ u v. absurd (false≢true (sym (untouched_dead W h (x / W) (n - j * s) (o - j * s) (part_length s j o (length new)) v (omega arith)) ∙ (rw (length_part s j o new) at new_kid.0.test))),
          rw (new_kid.1, mul-div_cancel_left (top h (x / W) (n - j * s) (o - j * s) (part s j o new) (c + fresh_before W b h k n o (length new) j)) pos, ← (length_part s j o new))
              (laid_holes {h = h} new_kid.0 (λ l. omega (arith, past (omega arith)))),
        )
      ]

  -- ---- Byte n − 1

  -- what stands under the pointer to it: nothing, there too where nothing stood; or a tree that is laid, and byte n − 1 is the last of its own
  module _ {h k n o : ℕ} {new : List ℕ} {c : ℕ} (w : Laid (suc h) k n o new c) (some : 0 < n) (fits : n ≤ span W (suc h)) (past : n < o) where
    abbrev j : ℕ
    j = (n - 1) / span W h

    -- its bytes below the size
    abbrev m : ℕ
    m = n - j * span W h

    abbrev below : ℕ
    below = link W b' (top (suc h) k n o new c) j / W

    Last : Type 0
    Last = ((link W b k j / W ≡ 0) × (below ≡ 0))
        ⊎ (Laid h (link W b k j / W) m (o - j * span W h) (part (span W h) j o new) (c + fresh_before W b h k n o (length new) j)
        × (below ≡ top h (link W b k j / W) m (o - j * span W h) (part (span W h) j o new) (c + fresh_before W b h k n o (length new) j)))

    place : Child W h (n - 1)
    place = child W pos h (n - 1) (omega arith)

    kid_some : 0 < m
    kid_some = omega (arith, place.there, place.inside)

    kid_fits : m ≤ span W h
    kid_fits = omega (arith, place.there, place.inside)

    kid_past : m < o - j * span W h
    kid_past = omega (arith, kid_some)

    kid_last : (n - 1) % span W h ≡ m - 1
    kid_last = omega (arith, place.there)

    last_either : Last
    unfolding Last Kid
    last_either = elim (kid_either w j place.which) [
      | inl old ↦ elim (split (link W b k j / W) 0) [
        | inl hole ↦
            let null : link W b k j / W ≡ 0 = omega arith in
            inl (null, ap (λ (x : ℕ). x / W) (old.1 ∙ seen_live m (link W b k j) kid_some) ∙ null)
        | inr there ↦ absurd (false≢true (sym old.0 ∙ touched_last W h (link W b k j / W) m (o - j * span W h) (part_length (span W h) j o (length new)) kid_past there kid_some kid_fits))
      ]
      | inr laid ↦ inr (laid.0, ap (λ (x : ℕ). x / W) laid.1 ∙ mul-div_cancel_left _ pos)
    ]

  -- every block on the path to it is one of the fresh ones, from number first on
  pub laid_path : (p : ℕ → Bool) (first : ℕ) → ((i : ℕ) → first ≤ i → i < lim → T (p (fresh i))) → {h k n o : ℕ} {new : List ℕ} {c : ℕ} → Laid h k n o new c → first ≤ c → 0 < n → n ≤ span W h → n < o
      → T (all p (path W b' h (top h k n o new c) (n - 1)))
  unfolding all Last
  laid_path p first ok {h = zero} {k} {n} {o} {new} {c} w le some fits past = rw (path_data W pos b' (top zero k n o new c) (n - 1) (top_there w))
      (and_both (p (top zero k n o new c)) true (ok _ (omega (arith, fresh_pos W b zero k n o (length new) w.test)) (omega (arith, w.room_for, fresh_pos W b zero k n o (length new) w.test))) tt)
  laid_path p first ok {h = suc h} {k} {n} {o} {new} {c} w le some fits past =
      let y : ℕ = below w some fits past in
      rw (path_node W pos b' h (top (suc h) k n o new c) (n - 1) (top_there w), kid_last w some fits past)
      (and_both (p (top (suc h) k n o new c)) (all p (path W b' h y (m w some fits past - 1))) (ok _ (omega (arith, fresh_pos W b (suc h) k n o (length new) w.test)) (omega (arith, w.room_for, fresh_pos W b (suc h) k n o (length new) w.test)))
      (elim (last_either w some fits past) [
        | inl null ↦ rw (null.1, path_null W pos b' h (m w some fits past - 1)) tt
        | inr laid ↦ rw laid.1 (laid_path p first ok {h = h} laid.0 (omega arith) (kid_some w some fits past) (kid_fits w some fits past) (kid_past w some fits past))
      ]))

  -- and the walk to it still ends at a block, if it did
  pub laid_arrives : {h k n o : ℕ} {new : List ℕ} {c : ℕ} (m : ℕ) → Laid h k n o new c → 0 < n → n ≤ span W h → n < o → n ≤ m
      → T (at_block (walk W b h k n (n - 1))) → T (at_block (walk W b' h (top h k n o new c) m (n - 1)))
  unfolding at_block walk Last
  laid_arrives {h = zero} {k} {n} {o} {new} {c} m' w some fits past le t = rw (walk_here W b' (top zero k n o new c) m' (n - 1) (omega arith) (omega (arith, top_there w))) tt
  laid_arrives {h = suc h} {k} {n} {o} {new} {c} m' w some fits past le t =
      let s = span W h in
      let n' : ℕ = m w some fits past in
      let e : (n - 1) % s ≡ n' - 1 = kid_last w some fits past in
      elim (last_either w some fits past) [
        | inl null ↦ absurd (rw (null.0, walk_null W b h n' ((n - 1) % s)) at t)
        | inr laid ↦ rw (laid.1, e) (laid_arrives {h = h} (m' - (n - 1) / s * s) laid.0 (kid_some w some fits past) (kid_fits w some fits past)
            (kid_past w some fits past) (omega arith) (rw e at t))
      ]
