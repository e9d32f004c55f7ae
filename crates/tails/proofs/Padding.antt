-- Bytes with zeros behind them, written at the end of a tree. A tail writes no such zeros, a length change nothing else.
use mathlib.Core.Path.{◌≡◌, refl, sym, ap, ◌∙◌}
use mathlib.Core.Logic.{◌≢◌, inl, inr}
use mathlib.Core.List.{List, [], ◌∷◌, ◌++◌, append-nil}
use Prim.Native.Nat.{ℕ, zero, suc, ◌+◌, ◌-◌, ◌*◌, ◌/◌, ◌^◌, ◌≤◌, ◌<◌, min}
use native.Mathlib.Nat.{sub_self, sub-zero, zero-sub, suc-sub-suc, zero-min, min-zero, suc-min-suc, mul-zero}
use native.Mathlib.Omega.{arith}
use lib.ListN.{length, get_or, take, drop, replicate, length-append, length-drop, length-replicate, get_or-eq_default}
use Rattle.model.specs.Lists.{joined, choose}
use Rattle.model.specs.Words.{byte_of}
use Rattle.model.specs.Tree.{seen, span, cell, link}
use Rattle.model.specs.Store.{store}
use Rattle.model.specs.Fresh.{part, part_length, splice, data_page, fresh_pointer}
use Rattle.model.specs.InPlace.{tail_before, in_place}
use Rattle.model.proofs.Cases.{split, joined_cong}
use Rattle.model.proofs.Agree.{seen_dead}
use Rattle.model.proofs.Splice.{splice_in, splice_left, splice_right, length_part}
use Rattle.model.proofs.Tailed.{zeros_replicate}
use Rattle.words.specs.Width.{Width}
use Rattle.trees.specs.declared.Tree.{Tree}
use Rattle.plans.specs.declared.Grown.{Grown}
use Rattle.plans.specs.Laying.{Laid}
use Rattle.plans.specs.Onto.{taking, onto, NotGrown, Pointers}
use Rattle.plans.proofs.Onto.{onto_none}
use Rattle.taking.proofs.Splicing.{word_cong}
use Rattle.taking.proofs.Tails.{before_start, before_skip}
use Rattle.taking.proofs.Ends as Ends
use Rattle.taking.proofs.Ends.{Along}
use Rattle.tails.specs.Stores.{hooks, word_stores, padded}
use Rattle.tails.proofs.Children as Children

pub length_padded : {l : ℕ} (new : List ℕ) → length new ≤ l → length (padded l new) ≡ l
unfolding padded
length_padded {l} new u = omega (arith, length-append new (replicate (l - length new) 0), length-replicate {A = ℕ} (l - length new) 0)

-- without zeros
pub padded_all : (new : List ℕ) → padded (length new) new ≡ new
unfolding padded
padded_all new = rw (sub_self (length new)) (append-nil new)

-- nothing else
padded_none : (l : ℕ) → padded l [] ≡ replicate l 0
unfolding padded
padded_none l = rw (sub-zero l)

-- ---- Parts

drop_zeros : (i l : ℕ) → drop {A = ℕ} i (replicate l 0) ≡ replicate (l - i) 0
drop_zeros zero l = ap (λ (m : ℕ). replicate m 0) (sym (sub-zero l))
drop_zeros (suc i) zero = ap (λ (m : ℕ). replicate m 0) (sym (zero-sub (suc i)))
drop_zeros (suc i) (suc l) = drop_zeros i l ∙ ap (λ (m : ℕ). replicate m 0) (sym (suc-sub-suc l i))

take_zeros : (i l : ℕ) → take {A = ℕ} i (replicate l 0) ≡ replicate (min i l) 0
take_zeros zero l = ap (λ (m : ℕ). replicate m 0) (sym (zero-min l))
take_zeros (suc i) zero = ap (λ (m : ℕ). replicate m 0) (sym (min-zero (suc i)))
take_zeros (suc i) (suc l) = ap (λ (r : List ℕ). 0 ∷ r) (take_zeros i l) ∙ ap (λ (m : ℕ). replicate m 0) (sym (suc-min-suc i l))

drop_padded : (i l : ℕ) (new : List ℕ) → length new ≤ l → drop i (padded l new) ≡ padded (l - i) (drop i new)
unfolding padded
drop_padded zero l new u = ap (λ (m : ℕ). new ++ replicate (m - length new) 0) (sym (sub-zero l))
drop_padded (suc i) l [] u = rw (sub-zero l, sub-zero (l - suc i)) (drop_zeros (suc i) l)
drop_padded (suc i) zero (x ∷ new) u = absurd (omega arith)
drop_padded (suc i) (suc l) (x ∷ new) u = rw (suc-sub-suc l (length new), suc-sub-suc l i) (drop_padded i l new (omega arith))

take_padded : (i l : ℕ) (new : List ℕ) → length new ≤ l → take i (padded l new) ≡ padded (min i l) (take i new)
unfolding padded
take_padded zero l new u = rw (zero-min l)
take_padded (suc i) l [] u = rw (sub-zero l, sub-zero (min (suc i) l)) (take_zeros (suc i) l)
take_padded (suc i) zero (x ∷ new) u = absurd (omega arith)
take_padded (suc i) (suc l) (x ∷ new) u = rw (suc-sub-suc l (length new), suc-min-suc i l, suc-sub-suc (min i l) (length (take i new))) (ap (λ (r : List ℕ). x ∷ r) (take_padded i l new (omega arith)))

-- the part of a child is its own bytes and the zeros behind them
part_padded : (s j o l : ℕ) (new : List ℕ) → length new ≤ l → part s j o (padded l new) ≡ padded (part_length s j o l) (part s j o new)
unfolding part part_length
part_padded s j o l new u = ap (take (s - (o - j * s))) (drop_padded (j * s - o) l new u) ∙ take_padded (s - (o - j * s)) (l - (j * s - o)) (drop (j * s - o) new) (simp length-drop (omega arith))

lesser : (m d : ℕ) {a b : ℕ} → a ≤ b → min m (a - d) ≤ min m (b - d)
lesser m d l = omega arith

-- and its own bytes are no more
part_fits : (s j o l : ℕ) (new : List ℕ) → length new ≤ l → length (part s j o new) ≤ part_length s j o l
unfolding part_length
part_fits s j o l new u = rw (length_part s j o new) (lesser (s - (o - j * s)) (j * s - o) u)

-- ---- Words

same_byte : (m : ℕ) (new : List ℕ) (i : ℕ) → get_or (new ++ replicate m 0) i 0 ≡ get_or new i 0
same_byte m [] i = zeros_replicate m i ∙ sym (zeros_replicate 0 i)
same_byte m (x ∷ new) zero = refl
same_byte m (x ∷ new) (suc i) = same_byte m new i

-- where 0 stood, a byte past the start is the new one, or 0
splice_past : (n : ℕ) (new : List ℕ) (x i : ℕ) → n ≤ i → x ≡ 0 → splice n new x i ≡ get_or new (i - n) 0
splice_past n new x i past e = elim (split (n + length new) i) [
  | inl q ↦ splice_right n new x i q ∙ e ∙ sym (get_or-eq_default new 0 (omega arith))
  | inr q ↦ splice_in n new x i past q
]

-- past the visible bytes a zero is there whether it is written or not
byte_padded : (n l : ℕ) (new : List ℕ) (x i : ℕ) → splice n new (seen (n - i) x) i ≡ splice n (padded l new) (seen (n - i) x) i
unfolding padded
byte_padded n l new x i = elim (split n i) [
  | inl past ↦
      let dead : seen (n - i) x ≡ 0 = seen_dead (n - i) x (omega arith) in
      splice_past n new (seen (n - i) x) i past dead ∙ sym (same_byte (l - length new) new (i - n)) ∙ sym (splice_past n (new ++ replicate (l - length new) 0) (seen (n - i) x) i past dead)
  | inr below ↦ splice_left n new (seen (n - i) x) i below ∙ sym (splice_left n (new ++ replicate (l - length new) 0) (seen (n - i) x) i below)
]

module _ (W : ℕ) (b : List ℕ) where
  page_padded : (k n l : ℕ) (new : List ℕ) (j : ℕ) → data_page W b k n n new j ≡ data_page W b k n n (padded l new) j
  unfolding data_page
  page_padded k n l new j = word_cong 8 _ _ (λ i u. byte_padded n l new (byte_of (link W b k j) i) (8 * j + i))

  words_padded : (k n l : ℕ) (new : List ℕ) → word_stores W b k n l new ≡ word_stores W b k n l (padded l new)
  unfolding word_stores
  words_padded k n l new = joined_cong W _ _ (λ j u. ap (λ (v : ℕ). choose (part_length 8 j n l) [] (store (W * k + j) v ∷ [])) (page_padded k n l new j))

  -- as the stores of a live data block
  pub data_padded : (hook : ℕ → ℕ → ℕ → ℕ) (h k n l : ℕ) (new : List ℕ) (c a : ℕ) → length new ≤ l → h ≡ 0 → k ≢ 0 → n ≢ 0 → word_stores W b k n l new ≡ in_place W b hook h k n (padded l new) c a
  data_padded hook h k n l new c a u low there live = words_padded k n l new ∙ ap (λ (m : ℕ). word_stores W b k n m (padded l new)) (sym (length_padded new u))
      ∙ sym (Children.data_stores W b hook h k n (padded l new) c a low there live)

-- ---- Children

module _ {W : ℕ} {b : List ℕ} {hook : ℕ → ℕ → ℕ → ℕ} {h k n : ℕ} (l : ℕ) (new : List ℕ) {c p j : ℕ} {plan plan' : List ℕ} {q : ℕ}
    (u : length new ≤ l) (t : Children.Placed W b hook h k n (padded l new) c p j plan plan' q) {s most : ℕ} (es : s ≡ span W h) (em : most ≡ part_length s j n l) where
  as_part : {own : List ℕ} → own ≡ part s j n new → padded most own ≡ part s j n (padded l new)
  as_part eo = rw (em, eo) (sym (part_padded s j n l new u))

  -- child j's own bytes are no more than it gets
  pub own_fits : {own : List ℕ} → own ≡ part s j n new → length own ≤ most
  own_fits eo = rw (em, eo) (part_fits s j n l new u)

  -- nothing is written under child j
  skip : most ≡ 0 → Children.Placed W b hook h k n (padded l new) c p (j + 1) plan plan' q
  skip e = Children.stores_skip t es (as_part refl) (length_padded (part s j n new) (own_fits refl) ∙ e)

  module _ {x taken a : ℕ} {own : List ℕ} {v : Tree} (eo : own ≡ part s j n new) (ex : x ≡ cell W b k j) (ev : v ≡ record { height = h; block = x / W; left = n - j * s })
      (ec : taken ≡ c + tail_before W h n l j) (ea : a ≡ W * k + j) where
    count : taken ≡ c + tail_before W h n (length (padded l new)) j
    count = ec ∙ ap (λ (m : ℕ). c + tail_before W h n m j) (sym (length_padded new u))

    -- something is
    pub step : {q' : ℕ} {plan'' : List ℕ} → Laid plan' q (in_place W b hook v.height v.block v.left (padded most own) taken a) plan'' q' → Children.Placed W b hook h k n (padded l new) c p (j + 1) plan plan'' q'
    step = Children.stores_step t es (as_part eo) ex ev count ea

    -- the stores under child j are among all
    pub room : j < W → q + length (in_place W b hook v.height v.block v.left (padded most own) taken a) ≤ p + length (joined W (Children.kid_stores W b hook h k n (padded l new) c))
    room = Children.stores_room t es (as_part eo) ex ev count ea

-- the children before j: what is taken there, and the stores
pub record Done (W : ℕ) (b : List ℕ) (hook : ℕ → ℕ → ℕ → ℕ) (h k n l : ℕ) (new : List ℕ) (c p : ℕ) (plan plan' : List ℕ) (taken q j : ℕ) : Type 0 where
  pub count : taken ≡ c + tail_before W h n l j
  pub stores : Children.Placed W b hook h k n (padded l new) c p j plan plan' q

module _ {W : ℕ} {b : List ℕ} {hook : ℕ → ℕ → ℕ → ℕ} {h k n : ℕ} (l : ℕ) (new : List ℕ) {c p : ℕ} {plan : List ℕ} (u : length new ≤ l) {s : ℕ} (es : s ≡ span W h) where
  pass : (plan' : List ℕ) (taken q j : ℕ) → part_length s j n l ≡ 0 → Done W b hook h k n l new c p plan plan' taken q j → Done W b hook h k n l new c p plan plan' taken q (j + 1)
  pass plan' taken q j e d = record { count = d.count ∙ ap (λ (m : ℕ). c + m) (before_skip W h n l j es e); stores = skip l new u d.stores es refl e }

  -- before child n / s nothing is written
  pub begin : (w : ℕ) → Along (λ j. Done W b hook h k n l new c p plan plan c p j) s n w (n / s)
  begin w = Ends.begin (λ j. Done W b hook h k n l new c p plan plan c p j) l (pass plan c p) w (record { count = omega (arith, before_start W h n l); stores = Children.stores_start })

  -- nor is anything from child j on, if nothing is there
  pub over : {plan' : List ℕ} {taken q w j most : ℕ} → Along (λ j. Done W b hook h k n l new c p plan plan' taken q j) s n w j → 0 < s → j < w → most ≡ part_length s j n l → most ≡ 0
      → Children.Placed W b hook h k n (padded l new) c p w plan plan' q
  over {plan'} {taken} {q} a pos less em e = (Ends.over a l (pass plan' taken q) pos less (sym em ∙ e)).stores

-- ---- No growth, and no block to take

pub no_pointers : {bits : ℕ} {g : Grown} → Width bits → NotGrown g → Pointers bits [] g
unfolding taking
no_pointers {bits} w none = record {
  width = w;
  blocks = record { small = λ i. omega (arith, zeros_replicate 0 i) };
  below = rw none.null (omega arith);
}

no_hooks : (W : ℕ) → hooks W [] ≡ (λ h l c. 0)
unfolding hooks fresh_pointer taking
no_hooks W = ap {B = ℕ → ℕ → ℕ → ℕ} (λ x h l c. x) (mul-zero W)

-- so the stores are those of zeros on the board as it is, with 0 for a hook
pub cleared : (W : ℕ) (b : List ℕ) {g : Grown} → NotGrown g → length b < 2 ^ 64 → (h k n l a : ℕ)
    → in_place W (onto W [] b g) (hooks W []) h k n (padded l []) 0 a ≡ in_place W b (λ h l c. 0) h k n (replicate l 0) 0 a
cleared W b {g} none small h k n l a = rw (onto_none W [] b g none small, no_hooks W, padded_none l)
