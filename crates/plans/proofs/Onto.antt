-- A word of the board with growth performed: the root word, a word of one of its levels, or the board's own.
use mathlib.Core.Path.{◌≡◌, refl, sym, ap, ◌∙◌}
use mathlib.Core.Logic.{◌≢◌, inl, inr}
use mathlib.Core.List.{List, [], ◌∷◌, ◌++◌, append_assoc, append-nil}
use Prim.Native.Nat.{ℕ, zero, suc, ◌+◌, ◌-◌, ◌*◌, ◌/◌, ◌%◌, ◌^◌, ◌<◌}
use native.Mathlib.Nat.{add-zero, mul_comm, mod-lt, div-add-mod'}
use native.Mathlib.Numerals.{sub-one}
use native.Mathlib.Omega.{arith}
use lib.ListN.{length, get_or, set}
use lib.Seq.{get_or-set_same, get_or-set_other, set_out}
use borrow.Author.Tests.{eq-eqb, ne_eqb}
use Rattle.model.specs.Lists.{tabulate, choose}
use Rattle.model.specs.Store.{Store, store, performed}
use Rattle.model.specs.Fresh.{Page, stored}
use Rattle.model.specs.Change.{level_page, level_below}
use Rattle.model.proofs.Cases.{decide}
use Rattle.model.proofs.Perform.{All, all_tabulate, length_tabulate, length_performed, performed_append, performed_away, block_away, page_store}
use Rattle.words.specs.Width.{Width}
use Rattle.words.proofs.Widths as Widths
use Rattle.plans.specs.declared.Grown.{Grown}
use Rattle.plans.specs.Onto.{taking, Blocks, onto, level_of, NotGrown}

module _ (W : ℕ) (fresh : ℕ → ℕ) where
  pub stored_append : (ps qs : List Page) (c : ℕ) → stored W fresh (ps ++ qs) c ≡ stored W fresh ps c ++ stored W fresh qs (c + length ps)
  unfolding stored
  stored_append [] qs c = ap (stored W fresh qs) (sym (add-zero c))
  stored_append (p ∷ ps) qs c =
      ap (λ (l : List Store). tabulate W (page_store W (fresh c) p) ++ l) (stored_append ps qs (suc c) ∙ ap (λ (k : ℕ). stored W fresh ps (suc c) ++ stored W fresh qs k) (omega arith))
      ∙ sym (append_assoc (tabulate W (page_store W (fresh c) p)) (stored W fresh ps (suc c)) (stored W fresh qs (c + suc (length ps))))

  -- a word of a block that a page is stored to, though the block may end past the board
  page_word : (b : List ℕ) (k : ℕ) (p : Page) (m i : ℕ) → i < m → W * k + i < length b → get_or (performed b (tabulate m (page_store W k p))) (W * k + i) 0 ≡ p i
  unfolding tabulate performed store
  page_word b k p zero i l on = absurd (omega arith)
  page_word b k p (suc m) i l on =
      let c = performed b (tabulate m (page_store W k p)) in
      rw (performed_append b (tabulate m (page_store W k p)) (page_store W k p m ∷ [])) (elim (decide i m) [
        | inl e ↦ rw e (get_or-set_same c (W * k + m) (p m) 0 (rw (length_performed b (tabulate m (page_store W k p))) (omega (arith, e, on))))
        | inr d ↦ get_or-set_other c (W * k + m) (W * k + i) (p m) 0 (λ e. d (omega (arith, e))) ∙ page_word b k p m i (omega arith) on
      ])

  pub stored_one : (p : Page) (c : ℕ) → stored W fresh (p ∷ []) c ≡ tabulate W (page_store W (fresh c) p)
  unfolding stored
  stored_one p c = append-nil (tabulate W (page_store W (fresh c) p))

  -- a page more
  performed_more : (b : List ℕ) (f : ℕ → Page) (d : ℕ)
      → performed b (stored W fresh (tabulate d f ++ (f d ∷ [])) 0) ≡ performed (performed b (stored W fresh (tabulate d f) 0)) (tabulate W (page_store W (fresh d) (f d)))
  performed_more b f d =
      let place : 0 + length (tabulate d f) ≡ d = omega (arith, length_tabulate d f) in
      ap (performed b) (stored_append (tabulate d f) (f d ∷ []) 0)
      ∙ performed_append b (stored W fresh (tabulate d f) 0) (stored W fresh (f d ∷ []) (0 + length (tabulate d f)))
      ∙ ap (performed (performed b (stored W fresh (tabulate d f) 0))) (ap (stored W fresh (f d ∷ [])) place ∙ stored_one (f d) d)

  -- a page's stores go to no other block
  page_away : (x k : ℕ) (p : Page) → x / W ≢ k → All (λ s. x ≢ s.at) (tabulate W (page_store W k p))
  unfolding store
  page_away x k p n = all_tabulate (λ s. x ≢ s.at) W (page_store W k p) (λ j l. block_away W k j x l n)

  -- word x once pages are stored to the first d blocks, none of them its own
  levels_none : (b : List ℕ) (f : ℕ → Page) (x d : ℕ) → ((i : ℕ) → i < d → fresh i ≢ x / W) → get_or (performed b (stored W fresh (tabulate d f) 0)) x 0 ≡ get_or b x 0
  unfolding stored tabulate performed
  levels_none b f x zero none = refl
  levels_none b f x (suc d) none =
      ap (λ (l : List ℕ). get_or l x 0) (performed_more b f d)
      ∙ performed_away (performed b (stored W fresh (tabulate d f) 0)) (tabulate W (page_store W (fresh d) (f d))) x (page_away x (fresh d) (f d) (λ e. none d (omega arith) (sym e)))
      ∙ levels_none b f x d (λ i l. none i (omega arith))

  -- word x by the level in which it lies, counted from 1
  abbrev word_in_level : (b : List ℕ) (f : ℕ → Page) (x d : ℕ) → ℕ
  word_in_level b f x d = let t = level_of fresh d (x / W) in choose t (get_or b x 0) (f (t - 1) (x % W))

  levels_word : 0 < W → (b : List ℕ) (f : ℕ → Page) (x : ℕ) → x < length b → (d : ℕ) → get_or (performed b (stored W fresh (tabulate d f) 0)) x 0 ≡ word_in_level b f x d
  unfolding stored tabulate performed level_of choose
  levels_word pos b f x on zero = refl
  levels_word pos b f x on (suc d) =
      let before = stored W fresh (tabulate d f) 0 in
      let c = performed b before in
      let page = tabulate W (page_store W (fresh d) (f d)) in
      ap (λ (l : List ℕ). get_or l x 0) (performed_more b f d) ∙ (elim (decide (fresh d) (x / W)) [
        | inl e ↦
            let at : W * fresh d + x % W ≡ x = rw e (omega (arith, div-add-mod' x W, mul_comm W (x / W))) in
            let hit : get_or (performed c page) (W * fresh d + x % W) 0 ≡ f d (x % W) =
            page_word c (fresh d) (f d) W (x % W) (mod-lt x pos) (rw (length_performed b before) (omega (arith, at, on))) in
            rw (eq-eqb (fresh d) (x / W) e, sub-one) (rw at at hit)
        | inr n ↦ rw (ne_eqb (fresh d) (x / W) n) (performed_away c page x (page_away x (fresh d) (f d) (λ e. n (sym e))) ∙ levels_word pos b f x on d)
      ])

  level_last : (k d i : ℕ) → i < d → fresh i ≡ k → ((j : ℕ) → i < j → j < d → fresh j ≢ k) → level_of fresh d k ≡ suc i
  unfolding level_of
  level_last k zero i l e after = absurd (omega arith)
  level_last k (suc d) i l e after = elim (decide d i) [
    | inl z ↦ rw (eq-eqb (fresh d) k (ap fresh z ∙ e), z)
    | inr n ↦ rw (ne_eqb (fresh d) k (after d (omega arith) (omega arith))) (level_last k d i (omega arith) e (λ j u v. after j u (omega arith)))
  ]

  -- word x by the last of the levels that has its block
  levels_last : 0 < W → (b : List ℕ) (f : ℕ → Page) (x : ℕ) → x < length b → (d i : ℕ) → i < d → fresh i ≡ x / W → ((j : ℕ) → i < j → j < d → fresh j ≢ x / W)
      → get_or (performed b (stored W fresh (tabulate d f) 0)) x 0 ≡ f i (x % W)
  unfolding choose
  levels_last pos b f x on d i l e after = levels_word pos b f x on d ∙ rw (level_last (x / W) d i l e after, sub-one)

-- ---- onto

module _ (W : ℕ) (free b : List ℕ) (g : Grown) where
  abbrev grown_stores : List Store
  grown_stores = stored W (taking free) (tabulate g.levels (λ i. level_page W (level_below (taking free) g.below i))) 0

  onto_set : onto W free b g ≡ set (performed b grown_stores) g.at g.root
  unfolding onto performed store
  onto_set = performed_append b grown_stores (store g.at g.root ∷ [])

  pub length_onto : length (onto W free b g) ≡ length b
  unfolding onto
  length_onto = length_performed b (grown_stores ++ (store g.at g.root ∷ []))

  module _ (x : ℕ) (on : x < length b) where
    -- the root word
    pub word_root : x ≡ g.at → g.root ≡ get_or (onto W free b g) x 0
    word_root e = sym (rw (onto_set, e) (get_or-set_same (performed b grown_stores) g.at g.root 0 (rw (length_performed b grown_stores) (omega (arith, e, on)))))

    module _ (away : x ≢ g.at) where
      word_else : get_or (onto W free b g) x 0 ≡ get_or (performed b grown_stores) x 0
      word_else = rw onto_set (get_or-set_other (performed b grown_stores) g.at x g.root 0 away)

      -- the board's own
      pub word_own : ((i : ℕ) → i < g.levels → taking free i ≢ x / W) → get_or b x 0 ≡ get_or (onto W free b g) x 0
      word_own none = sym (word_else ∙ levels_none W (taking free) b (λ i. level_page W (level_below (taking free) g.below i)) x g.levels none)

      -- a level's
      module _ (pos : 0 < W) {i : ℕ} (l : (i < g.levels) × (taking free i ≡ x / W) × ((j : ℕ) → i < j → j < g.levels → taking free j ≢ x / W)) where
        level_word : get_or (onto W free b g) x 0 ≡ level_page W (level_below (taking free) g.below i) (x % W)
        level_word = word_else ∙ levels_last W (taking free) pos b (λ i. level_page W (level_below (taking free) g.below i)) x on g.levels i l.0 l.1 l.2

        pub word_rest : x % W ≢ 0 → 0 ≡ get_or (onto W free b g) x 0
        unfolding level_page
        word_rest n = sym (level_word ∙ rest (x % W) n)
          where
            rest : (j : ℕ) → j ≢ 0 → level_page W (level_below (taking free) g.below i) j ≡ 0
            rest zero n = absurd (n refl)
            rest (suc j) n = refl

        pub word_pointer : x % W ≡ 0 → W * level_below (taking free) g.below i ≡ get_or (onto W free b g) x 0
        unfolding level_page
        word_pointer z = sym (level_word ∙ rw z)

-- the pointer to a level is a word
pub below_small : {b : ℕ} {free : List ℕ} {v : ℕ} (k t : ℕ) → Width b → Blocks free → 2 ^ b * k < 2 ^ 64 → v ≡ level_below (taking free) k t → 2 ^ b * v < 2 ^ 64
unfolding level_below
below_small k zero w s l e = rw e l
below_small k (suc t) w s l e = rw e (omega (arith, Widths.address w (s.small t)))

-- where nothing grew the board is itself
pub onto_none : (W : ℕ) (free b : List ℕ) (g : Grown) → NotGrown g → length b < 2 ^ 64 → onto W free b g ≡ b
unfolding onto stored tabulate performed store
onto_none W free b g n small = rw (n.none, n.off) (set_out b (2 ^ 64 - 1) g.root (omega arith))
