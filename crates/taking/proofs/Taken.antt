-- Pages laid for fresh blocks, one after another.
use mathlib.Core.Path.{◌≡◌, refl, sym, ap, ◌∙◌}
use mathlib.Core.List.{List, [], ◌∷◌, ◌++◌, append-nil}
use Prim.Native.Nat.{ℕ, ◌+◌, ◌*◌, ◌^◌, ◌≤◌, ◌<◌}
use native.Mathlib.Omega.{arith}
use native.Mathlib.Nat.{add-zero, mul-le-mul_right}
use lib.ListN.{length, get_or, length-append}
use Rattle.model.specs.Lists.{tabulate}
use Rattle.model.specs.Store.{Store, store, laid}
use Rattle.model.specs.Fresh.{Page, stored}
use Rattle.model.proofs.Cases.{tabulate_cong}
use Rattle.model.proofs.Perform.{page_store, length_stored}
use Rattle.words.specs.Width.{Width}
use Rattle.words.proofs.Widths as Widths
use Rattle.plans.specs.Laying.{block_stores, Laid}
use Rattle.plans.proofs.Laying as Laying
use Rattle.plans.proofs.Onto.{stored_append}
use Rattle.plans.specs.Onto.{taking, Blocks}
use Rattle.taking.specs.Taking.{Took}

-- as pairs of the plan
pub laid_pages : {W : ℕ} {free plan plan' : List ℕ} {base c c' : ℕ} {ps : List Page} → Took W free plan base c ps plan' c' → Laid plan (base + W * c) (stored W (taking free) ps c) plan' (base + W * c')
laid_pages {W} {free} {plan} {plan'} {base} {c} {c'} {ps} t = record { is = t.is; next = rw t.next (omega (arith, length_stored W (taking free) ps c)) }

pub none : {W : ℕ} {free plan : List ℕ} {base c : ℕ} → Took W free plan base c [] plan c
unfolding stored
none {W} {free} {plan} {base} {c} = record { is = sym (Laying.laid_none plan (base + W * c)); next = sym (add-zero c) }

-- more blocks after others
pub more : {W : ℕ} {free plan plan₁ plan₂ : List ℕ} {base c c₁ c₂ : ℕ} {ps qs : List Page} → Took W free plan base c ps plan₁ c₁ → Took W free plan₁ base c₁ qs plan₂ c₂ → Took W free plan base c (ps ++ qs) plan₂ c₂
more {W} {free} {plan} {plan₁} {plan₂} {base} {c} {c₁} {c₂} {ps} {qs} a b =
    let both = Laying.more (laid_pages a) (laid_pages b) in
    record {
      is = both.is ∙ ap (laid plan (base + W * c)) (rw a.next (sym (stored_append W (taking free) ps qs c)));
      next = omega (arith, a.next, b.next, length-append ps qs);
    }

-- the same pages, written another way
pub same_pages : {W : ℕ} {free plan plan' : List ℕ} {base c c' : ℕ} {ps qs : List Page} → ps ≡ qs → Took W free plan base c ps plan' c' → Took W free plan base c qs plan' c'
same_pages e t = rw (← e) t

pub same_length : {W : ℕ} {free plan plan' : List ℕ} {base c c' : ℕ} {ps : List Page} → Took W free plan base c ps plan' c' → length plan' ≡ length plan
same_length t = Laying.same_length (laid_pages t)

-- ---- One block

-- a block of the table is small enough for the addresses of its words to be words
pub block_small : {free : List ℕ} {k : ℕ} (c : ℕ) → Blocks free → k ≡ get_or free c 0 → k < 2 ^ 54
unfolding taking
block_small c b e = rw e (b.small c)

-- stores laid from place p on, to the block that begins at address a
pub one : {W : ℕ} {free plan plan' : List ℕ} {base c p a : ℕ} {page : Page} → p ≡ base + W * c → a ≡ W * taking free c → plan' ≡ laid plan p (tabulate W (λ j. store (a + j) (page j)))
    → Took W free plan base c (page ∷ []) plan' (c + 1)
unfolding stored
one {W} {free} {plan} {base = base} {c} {page = page} ep ea l = record {
  is = rw (ep, ea) at l ∙ ap (laid plan (base + W * c)) (sym (append-nil (tabulate W (page_store W (taking free c) page))));
  next = refl;
}

pub one_block : {W : ℕ} {free plan plan' : List ℕ} {base c p k : ℕ} (ws : List ℕ) → p ≡ base + W * c → k ≡ get_or free c 0 → plan' ≡ laid plan p (block_stores W k ws)
    → Took W free plan base c ((λ j. get_or ws j 0) ∷ []) plan' (c + 1)
unfolding block_stores taking
one_block {W} ws ep e l = one ep (ap (λ (x : ℕ). W * x) e) l

-- how many blocks are taken is a word, if the places of their stores are
pub count_small : {b : ℕ} (base c : ℕ) → Width b → base + 2 ^ b * c ≤ 2 ^ 32 → c ≤ 2 ^ 29
count_small base c w l = omega (arith, mul-le-mul_right c (Widths.least w))

-- off the plan nothing is laid
pub off_all : {W : ℕ} {free plan : List ℕ} {base c p r : ℕ} {ps : List Page} → p ≡ base + W * c → length plan ≤ p → r ≡ length ps → Took W free plan base c ps plan (c + r)
off_all {W} {free} {plan} {base} {c} ep h e = record { is = sym (Laying.laid_out plan (base + W * c) _ (rw ep at h)); next = rw e }

pub off : {W : ℕ} {free plan : List ℕ} {base c p : ℕ} {page : Page} → p ≡ base + W * c → length plan ≤ p → Took W free plan base c (page ∷ []) plan (c + 1)
off ep h = off_all ep h refl

-- a page by its words, as far as they are laid
pub by_words : {W : ℕ} {free plan plan' : List ℕ} {base c c' : ℕ} (ws : List ℕ) {p : Page} → ((j : ℕ) → j < W → get_or ws j 0 ≡ p j)
    → Took W free plan base c ((λ j. get_or ws j 0) ∷ []) plan' c' → Took W free plan base c (p ∷ []) plan' c'
unfolding stored
by_words {W} {free} {plan} {base = base} {c} ws {p} e t = record {
  is = t.is ∙ ap (λ (l : List Store). laid plan (base + W * c) (l ++ []))
      (tabulate_cong W (λ j. store (W * taking free c + j) (get_or ws j 0)) (λ j. store (W * taking free c + j) (p j)) (λ j l. ap (store (W * taking free c + j)) (e j l)));
  next = t.next;
}
