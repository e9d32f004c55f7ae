-- How many fresh blocks a tree takes that is written from its start, in closed form; the words of a data block that is written whole.
use mathlib.Core.Path.{◌≡◌, refl, sym, ap, subst, ◌∙◌}
use mathlib.Core.Logic.{◌≢◌}
use mathlib.Core.Bool.{true, ◌&&◌}
use mathlib.Core.List.{List, []}
use Prim.Native.Nat.{ℕ, zero, suc, ◌+◌, ◌-◌, ◌*◌, ◌/◌, ◌≤◌, ◌<◌, min}
use native.Mathlib.Nat.{add-zero, mul-suc, suc-mul, mul-le-mul, mul-le-mul_left, mul-le-mul_right, zero-sub, sub-zero, div-mul-le_self, lt-div-mul-add}
use native.Mathlib.Numerals.{sub-one}
use native.Mathlib.Omega.{arith}
use lib.ListN.{length, get_or}
use lib.Dec.{T, eqb, eqb→eq}
use Rattle.model.specs.Lists.{tabulate, sum}
use Rattle.model.specs.Words.{word_of}
use Rattle.model.specs.Tree.{span, link}
use Rattle.model.specs.Store.{store}
use Rattle.model.specs.Fresh.{part_length, fresh_need, fresh_before, need, data_page}
use Rattle.model.proofs.Cases.{and_left, and_right, tabulate_cong}
use Rattle.model.proofs.Spans.{span_pos}
use Rattle.model.proofs.Sums.{sum_cong, sum_split}
use Rattle.model.proofs.Paths.{kid_need, touched_new, fresh_data, fresh_node, need_none, need_node}
use Rattle.taking.specs.Taking.{new_stores, whole}
use Rattle.taking.proofs.Splicing.{word_new, data_word_law}

pub whole_small : (W : ℕ) → 1 < W → (h : ℕ) → whole W h < span W h
unfolding whole span
whole_small W two zero = omega arith
whole_small W two (suc h) = omega (arith, mul-le-mul_left W (whole_small W two h), mul-suc W (whole W h))

-- a level more
pub whole_step : (W h : ℕ) → h ≢ 0 → W * whole W (h - 1) + 1 ≡ whole W h
unfolding whole
whole_step W zero tall = absurd (tall refl)
whole_step W (suc h) tall = rw sub-one

-- the child's part of as many bytes as the tree spans is all of the child
part_whole : (W s j : ℕ) → j < W → part_length s j 0 (W * s) ≡ s
unfolding part_length
part_whole W s j l = let e = mul-le-mul_right s l in let f = suc-mul j s in omega arith

-- terms that are the same
pub sum_same : (m : ℕ) (f : ℕ → ℕ) (x : ℕ) → ((j : ℕ) → j < m → f j ≡ x) → sum m f ≡ m * x
unfolding sum
sum_same zero f x e = omega arith
sum_same (suc m) f x e = omega (arith, sum_same m f x (λ j l. e j (omega arith)), e m (omega arith), suc-mul m x)

-- one term that is not 0, the first
sum_first : (m : ℕ) (f : ℕ → ℕ) → 0 < m → ((j : ℕ) → j ≢ 0 → f j ≡ 0) → sum m f ≡ f 0
unfolding sum
sum_first zero f some e = absurd (omega arith)
sum_first (suc zero) f some e = omega arith
sum_first (suc (suc m)) f some e = omega (arith, sum_first (suc m) f (omega arith) e, e (suc m) (omega arith))

fresh_whole : (W : ℕ) → 0 < W → (b : List ℕ) (h k n : ℕ) → fresh_need W b h k n 0 (span W h) ≡ whole W h
unfolding whole span fresh_before
fresh_whole W pos b zero k n = fresh_data W b k n 0 (span W 0) (touched_new W 0 k n 0 (span W 0) (span_pos W pos 0))
fresh_whole W pos b (suc h) k n = let l : ℕ = W * span W h in
    let kids = sum_same W (kid_need W b h k n 0 l) (whole W h) (λ j m. rw (part_whole W (span W h) j m, zero-sub (j * span W h)) (fresh_whole W pos b h (link W b k j / W) (n - j * span W h))) in
    omega (arith, fresh_node W b h k n 0 l (touched_new W (suc h) k n 0 l (span_pos W pos (suc h))), kids)

-- ---- Bytes from the start of a tree of which no block exists

module _ (W : ℕ) (pos : 0 < W) (h : ℕ) where
  -- under child j
  kid : ℕ → ℕ → ℕ
  kid l j = need W h 0 (part_length (span W h) j 0 l)

  need_kids : (l : ℕ) → 0 < l → need W (suc h) 0 l ≡ suc (sum W (kid l))
  unfolding kid
  need_kids l some = need_node W h 0 l some ∙ ap suc (sum_cong W _ _ (λ j u. rw (zero-sub (j * span W h))))

  kid_whole : (l j : ℕ) → suc j * span W h ≤ l → kid l j ≡ whole W h
  unfolding kid need part_length
  kid_whole l j u = let e : min (span W h - (0 - j * span W h)) (l - (j * span W h - 0)) ≡ span W h = omega (arith, suc-mul j (span W h)) in rw e (fresh_whole W pos [] h 0 0)

  kid_rest : (l q : ℕ) → q * span W h ≤ l → l < suc q * span W h → kid l q ≡ need W h 0 (l - q * span W h)
  unfolding kid part_length
  kid_rest l q u v = ap (need W h 0) (omega (arith, suc-mul q (span W h)))

  kid_past : (l j : ℕ) → l ≤ j * span W h → kid l j ≡ 0
  unfolding kid part_length
  kid_past l j u = let e : min (span W h - (0 - j * span W h)) (l - (j * span W h - 0)) ≡ 0 = omega arith in rw e (need_none W h 0)

  -- all children are whole
  need_whole : (l : ℕ) → W * span W h ≤ l → need W (suc h) 0 l ≡ whole W (suc h)
  unfolding whole
  need_whole l u = need_kids l (omega (arith, mul-le-mul pos (span_pos W pos h)))
      ∙ ap suc (sum_same W (kid l) (whole W h) (λ j v. kid_whole l j (omega (arith, mul-le-mul_right (span W h) v)))) ∙ omega arith

  -- q children are whole, and one gets the rest
  need_part : (l q : ℕ) → 0 < l → q < W → q * span W h ≤ l → l < suc q * span W h → need W (suc h) 0 l ≡ q * whole W h + need W h 0 (l - q * span W h) + 1
  need_part l q some few u v = let all : q + (W - q) ≡ W = omega arith in need_kids l some ∙ omega (
    arith,
    sum_split q (W - q) (kid l),
    ap (λ (m : ℕ). sum m (kid l)) all,
    sum_same q (kid l) (whole W h) (λ j w. kid_whole l j (omega (arith, mul-le-mul_right (span W h) w))),
    sum_first (W - q) (λ i. kid l (q + i)) (omega arith) (λ i n. let next : suc q ≤ q + i = omega arith in kid_past l (q + i) (omega (arith, mul-le-mul_right (span W h) next))),
    ap (kid l) (add-zero q),
    kid_rest l q u v,
  )

-- the same by the height of the tree, s being what a child spans
module _ (W : ℕ) (pos : 0 < W) (h l : ℕ) {s : ℕ} (tall : h ≢ 0) (es : s ≡ span W (h - 1)) where
  above : suc (h - 1) ≡ h
  above = omega arith

  pub need_full : W ≤ l / s → need W h 0 l ≡ whole W h
  need_full many = ap (λ (x : ℕ). need W x 0 l) (sym above) ∙ need_whole W pos (h - 1) l (rw (← es) (omega (arith, mul-le-mul_right s many, div-mul-le_self l s))) ∙ ap (whole W) above

  pub need_rest : 0 < l → l / s < W → need W h 0 l ≡ l / s * whole W (h - 1) + need W (h - 1) 0 (l - l / s * s) + 1
  need_rest some few =
      let some-span : 0 < s = rw es (span_pos W pos (h - 1)) in
      ap (λ (x : ℕ). need W x 0 l) (sym above)
      ∙ rw (← es) at (need_part W pos (h - 1) l (l / s) some few (rw (← es) (div-mul-le_self l s)) (rw (← es) (omega (arith, lt-div-mul-add {a = l} some-span, suc-mul (l / s) s))))

-- what the test of it finds
pub all_of : (o l s : ℕ) → true ≡ (eqb o 0 && eqb l s) → (o ≡ 0) × (l ≡ s)
all_of o l s e =
    let t : T (eqb o 0 && eqb l s) = subst T e tt in
    (eqb→eq o 0 (and_left (eqb o 0) (eqb l s) t), eqb→eq l s (and_right (eqb o 0) (eqb l s) t))

-- the stores of a data block that is written whole are its page's
pub new_page : (W : ℕ) (b : List ℕ) (a k n : ℕ) {o : ℕ} (new : List ℕ) → o ≡ 0 → length new ≡ 8 * W → new_stores (length new / 8) a new ≡ tabulate W (λ j. store (a + j) (data_page W b k n o new j))
unfolding new_stores
new_page W b a k n {o} new eo el = let e : length new / 8 ≡ W = omega (arith, el) in rw (eo, e) (tabulate_cong W (λ j. store (a + j) (word_of 8 (λ i. get_or new (8 * j + i) 0))) (λ j. store (a + j) (data_page W b k n 0 new j))
    (λ j l. ap (store (a + j)) (data_word_law W b k n 0 new j refl (word_new (link W b k j) n 0 new j (omega arith) (omega (arith, el)) (rw (sub-zero (8 * j)))))))
