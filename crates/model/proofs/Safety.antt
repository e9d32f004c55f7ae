-- Safe plans obey the power-cut rule, where stores that are hidden show nothing.
use mathlib.Core.Path.{◌≡◌, refl, sym, ap, subst, ◌∙◌}
use mathlib.Core.Logic.{◌≢◌, ◌⊎◌, inl, inr, ◌↔◌}
use mathlib.Core.Bool.{Bool, true, false, cond, false≢true}
use mathlib.Core.List.{List, [], ◌∷◌}
use Prim.Native.Nat.{ℕ, zero, suc, ◌≤◌, ◌<◌}
use native.Mathlib.Omega.{arith}
use lib.ListN.{length, get_or, take}
use lib.Dec.{T}
use borrow.Author.Tests.{lt-ltb, le-ltb, eq-eqb, ne_eqb}
use Rattle.model.specs.Lists.{all, cons_if, concat}
use Rattle.model.specs.Layout.{Layout, Fits, files}
use Rattle.model.specs.Board.{walk_to, contents, accepted}
use Rattle.model.specs.Store.{Store, performed, epochs}
use Rattle.model.specs.Hidden.{hidden}
use Rattle.model.specs.Cut.{Cut, chosen, Names, standing}
use Rattle.model.specs.Safe.{left, SafePlan, decided}
use Rattle.model.specs.Claims.{Shows, CutSafe, SafeRule}
use Rattle.model.proofs.Cases.{decide, split}
use Rattle.model.proofs.Perform.{performed_append}
use Rattle.model.proofs.Epochs.{standing_none}
use Rattle.model.proofs.HiddenStores.{hidden_rule}

-- what does not change from one number to the next, from i to j
unchanged : {A : Type 0} (r : ℕ → A) (i j : ℕ) → i ≤ j → ((k : ℕ) → i ≤ k → k < j → r (suc k) ≡ r k) → r j ≡ r i
unchanged r i zero l e = let z : zero ≡ i = omega arith in ap r z
unchanged r i (suc j) l e = elim (decide i (suc j)) [
  | inl z ↦ ap r (sym z)
  | inr n ↦ e j (omega arith) (omega arith) ∙ unchanged r i j (omega arith) (λ k u v. e k u (omega arith))
]

empty_none : {A : Type 0} (xs : List A) → length xs ≡ 0 → xs ≡ []
empty_none [] e = refl
empty_none (x ∷ xs) e = absurd (omega arith)

-- ---- What epochs leave

pub left_zero : (b : List ℕ) (es : List (List Store)) → left b es 0 ≡ b
unfolding left concat performed
left_zero b es = refl

pub left_cons : (b : List ℕ) (e : List Store) (es : List (List Store)) (i : ℕ) → left b (e ∷ es) (suc i) ≡ left (performed b e) es i
unfolding left concat
left_cons b e es i = performed_append b e (concat (take i es))

left_suc : (b : List ℕ) (es : List (List Store)) (i : ℕ) → i < length es → left b es (suc i) ≡ performed (left b es i) (get_or es i [])
left_suc b [] i l = absurd (omega arith)
left_suc b (e ∷ es) zero l = left_cons b e es 0 ∙ left_zero (performed b e) es ∙ ap (λ (c : List ℕ). performed c e) (sym (left_zero b (e ∷ es)))
left_suc b (e ∷ es) (suc i) l = left_cons b e es (suc i) ∙ left_suc (performed b e) es i (omega arith) ∙ ap (λ (c : List ℕ). performed c (get_or es i [])) (sym (left_cons b e es i))

-- ---- Choices of stores

chosen_all : (ss : List Store) → chosen (λ i. true) ss ≡ ss
unfolding chosen cons_if
chosen_all [] = refl
chosen_all (s ∷ ss) = ap (λ (r : List Store). s ∷ r) (chosen_all ss)

chosen_one : (p : ℕ → Bool) (ss : List Store) → length ss ≡ 1 → p 0 ≡ true → chosen p ss ≡ ss
unfolding chosen cons_if
chosen_one p [] e t = absurd (omega arith)
chosen_one p (s ∷ []) e t = rw t
chosen_one p (s ∷ r ∷ ss) e t = absurd (omega arith)

chosen_none : (p : ℕ → Bool) (ss : List Store) → length ss ≡ 1 → p 0 ≡ false → chosen p ss ≡ []
unfolding chosen cons_if
chosen_none p [] e t = absurd (omega arith)
chosen_none p (s ∷ []) e t = rw t
chosen_none p (s ∷ r ∷ ss) e t = absurd (omega arith)

-- ---- Whether the store of epoch d arrived

module _ (d : ℕ) (x : Cut) where
  pub decided_early : x.epoch < d → decided d x ≡ false
  unfolding decided
  decided_early l = rw (le-ltb d x.epoch (omega arith), ne_eqb d x.epoch (omega arith))

  decided_late : d < x.epoch → decided d x ≡ true
  unfolding decided
  decided_late l = rw (lt-ltb d x.epoch l)

  pub decided_same : x.epoch ≡ d → decided d x ≡ x.arrived 0
  unfolding decided
  decided_same e = rw (le-ltb d x.epoch (omega arith), eq-eqb d x.epoch (sym e))

-- what a cut leaves of a file: what is wanted, where the store arrived; what it read before, where it did not; or the two are the same
data Outcome (before now wanted : List ℕ) (arrived : Bool) : Type 0 where
  done : arrived ≡ true → now ≡ wanted → Outcome before now wanted arrived
  waiting : arrived ≡ false → now ≡ before → Outcome before now wanted arrived
  alike : before ≡ wanted → now ≡ before → Outcome before now wanted arrived

-- so the cut says which of the two it reads
outcome_settled : {before now wanted : List ℕ} {arrived : Bool} → Outcome before now wanted arrived → now ≡ cond arrived wanted before
outcome_settled (done t e) = rw t e
outcome_settled (waiting t e) = rw t e
outcome_settled {before} {now} {wanted} {arrived} (alike s e) = by arrived
  where
    by : (t : Bool) → now ≡ cond t wanted before
    by true = e ∙ s
    by false = e

-- ---- Whole boards

-- the walk to each byte of a file that is not touched ends where it ended
abbrev pub Stays : Layout → (ℕ → Bool) → List ℕ → List ℕ → Type 0
Stays g touched b b' = (e : ℕ) → e < files g → touched e ≡ false → (n : ℕ) → walk_to g b' e n ≡ walk_to g b e n

-- Epochs of two or more stores are hidden on the board as earlier epochs left it. Epochs of one store leave the board accepted and walks in files that
-- are not touched as they are; of these epochs only number d changes what any file reads
pub record OneTurn (g : Layout) (touched : ℕ → Bool) (b : List ℕ) (es : List (List Store)) (d : ℕ) : Type 0 where
  pub hides : (i : ℕ) → i < length es → 1 < length (get_or es i []) → T (all (hidden g (left b es i)) (get_or es i []))
  pub accepts : (i : ℕ) → i < length es → length (get_or es i []) ≡ 1 → T (accepted g (left b es (suc i)))
  pub keeps : (i : ℕ) → i < length es → length (get_or es i []) ≡ 1 → i ≢ d → (e : ℕ) → e < files g → contents g (left b es (suc i)) e ≡ contents g (left b es i) e
  pub walks : (i : ℕ) → i < length es → length (get_or es i []) ≡ 1 → Stays g touched (left b es i) (left b es (suc i))

-- b' stands where b was lent and each file is to read as `wanted` says: all files read as wanted where the store that decides arrived, and as before where not
pub record Settled (g : Layout) (touched : ℕ → Bool) (b b' : List ℕ) (wanted : ℕ → List ℕ) (ss : List Store) (arrived : Bool) : Type 0 where
  pub board : T (accepted g b')
  pub walks : Stays g touched b b'
  pub reads : (e : ℕ) → e < files g → contents g b' e ≡ cond arrived (wanted e) (contents g b e)
  pub planned : (e : ℕ) → e < files g → contents g b e ≢ wanted e → 0 < length ss

-- a store to one file alone
pub settled_one : (g : Layout) (touched : ℕ → Bool) (b b' : List ℕ) (wanted : ℕ → List ℕ) (ss : List Store) (arrived : Bool) → Settled g touched b b' wanted ss arrived
    → (f : ℕ) → f < files g → ((e : ℕ) → e < files g → e ≢ f → wanted e ≡ contents g b e) → CutSafe g b b' f (wanted f) ss arrived
settled_one g touched b b' wanted ss arrived s f f_lt same = record {
  board = s.board;
  wholly = wholly arrived (s.reads f f_lt);
  others = λ e u d. others arrived e (same e u d) (s.reads e u);
  planned = s.planned f f_lt;
  decides = λ n. decides arrived n (s.reads f f_lt);
}
  where
    wholly : (t : Bool) → contents g b' f ≡ cond t (wanted f) (contents g b f) → (contents g b' f ≡ contents g b f) ⊎ (contents g b' f ≡ wanted f)
    wholly true r = inr r
    wholly false r = inl r

    others : (t : Bool) (e : ℕ) → wanted e ≡ contents g b e → contents g b' e ≡ cond t (wanted e) (contents g b e) → contents g b' e ≡ contents g b e
    others true e w r = r ∙ w
    others false e w r = r

    decides : (t : Bool) → contents g b f ≢ wanted f → contents g b' f ≡ cond t (wanted f) (contents g b f) → (contents g b' f ≡ wanted f) ↔ T t
    decides true n r = (λ h. tt, λ h. r)
    decides false n r = (λ h. absurd (n (sym r ∙ h)), λ h. absurd h)

-- a safe plan of one file, which may touch any
safe_turn : (g : Layout) (b : List ℕ) (f : ℕ) (es : List (List Store)) (d : ℕ) → SafePlan g b f es d → OneTurn g (λ e. true) b es d
safe_turn g b f es d s = record {
  hides = s.hides;
  accepts = s.accepts;
  keeps = λ i l one n e u. elim (decide e f) [ inl z ↦ rw z (s.keeps i l one n) | inr m ↦ s.others i l one e u m ];
  walks = λ i l one e u z. absurd (false≢true (sym z));
}

-- what stands after a cut in an epoch: where it is not one store, a board that shows what the epochs before left; where it is one, the board without it or with it
data Stands (g : Layout) (b : List ℕ) (es : List (List Store)) (x : Cut) (now : List ℕ) : Type 0 where
  hid : length (get_or es x.epoch []) ≢ 1 → Shows g (left b es x.epoch) now → Stands g b es x now
  stayed : x.arrived 0 ≡ false → now ≡ left b es x.epoch → Stands g b es x now
  moved : x.arrived 0 ≡ true → now ≡ left b es (suc x.epoch) → Stands g b es x now

module _ (g : Layout) (fit : Fits g) where
  -- stores that are hidden, all performed
  pub hidden_shows : (b : List ℕ) → T (accepted g b) → (ss : List Store) → T (all (hidden g b) ss) → Shows g b (performed b ss)
  hidden_shows b ok ss h = subst (λ (r : List Store). Shows g b (performed b r)) (chosen_all ss) (hidden_rule g fit b ok ss h (λ i. true))

  module _ (touched : ℕ → Bool) (b : List ℕ) (ok : T (accepted g b)) (es : List (List Store)) (d : ℕ) (safe : OneTurn g touched b es d) where
    all_hidden : (i : ℕ) → i < length es → length (get_or es i []) ≢ 1 → T (all (hidden g (left b es i)) (get_or es i []))
    unfolding all
    all_hidden i l n = elim (decide (length (get_or es i [])) 0) [
      | inl z ↦ rw (empty_none (get_or es i []) z) tt
      | inr k ↦ safe.hides i l (omega arith)
    ]

    epoch_shows : (i : ℕ) → i < length es → T (accepted g (left b es i)) → length (get_or es i []) ≢ 1 → Shows g (left b es i) (left b es (suc i))
    epoch_shows i l k n = rw (left_suc b es i l) (hidden_shows (left b es i) k (get_or es i []) (all_hidden i l n))

    left_accepted : (i : ℕ) → i ≤ length es → T (accepted g (left b es i))
    left_accepted zero l = rw (left_zero b es) ok
    left_accepted (suc i) l = elim (decide (length (get_or es i [])) 1) [
      | inl one ↦ safe.accepts i l one
      | inr n ↦ let k = left_accepted i (omega arith) in rw (epoch_shows i l k n).boards k
    ]

    module _ (f : ℕ) (f_lt : f < files g) where
      left_keeps : (i : ℕ) → i < length es → i ≢ d → contents g (left b es (suc i)) f ≡ contents g (left b es i) f
      left_keeps i l n = elim (decide (length (get_or es i [])) 1) [
        | inl one ↦ safe.keeps i l one n f f_lt
        | inr m ↦ (epoch_shows i l (left_accepted i (omega arith)) m).reads f f_lt
      ]

      -- file f before the store of epoch d, and after it
      left_before : (i : ℕ) → i ≤ length es → i ≤ d → contents g (left b es i) f ≡ contents g b f
      left_before i l u = unchanged (λ k. contents g (left b es k) f) 0 i (omega arith) (λ k v w. left_keeps k (omega arith) (omega arith)) ∙ ap (λ (c : List ℕ). contents g c f) (left_zero b es)

      left_after : (i : ℕ) → i ≤ length es → d < i → contents g (left b es i) f ≡ contents g (left b es (length es)) f
      left_after i l u = sym (unchanged (λ k. contents g (left b es k) f) i (length es) l (λ k v w. left_keeps k w (omega arith)))

      -- where epoch d is not one store, nothing changes file f
      left_alike : (i : ℕ) → i ≡ d → i < length es → length (get_or es i []) ≢ 1 → contents g b f ≡ contents g (left b es (length es)) f
      left_alike i e l n = sym (left_before i (omega arith) (omega arith)) ∙ sym ((epoch_shows i l (left_accepted i (omega arith)) n).reads f f_lt) ∙ left_after (suc i) l (omega arith)

    -- where all files but f read in the end as on b, it is a safe plan of file f
    pub turn_safe : (f : ℕ) → f < files g → ((e : ℕ) → e < files g → e ≢ f → contents g (left b es (length es)) e ≡ contents g b e) → SafePlan g b f es d
    turn_safe f f_lt same = record {
      hides = safe.hides;
      accepts = safe.accepts;
      keeps = λ i l one n. safe.keeps i l one n f f_lt;
      others = λ i l one e u m. elim (decide i d) [
        | inl z ↦ left_after e u (suc i) l (omega arith) ∙ same e u m ∙ sym (left_before e u i (omega arith) (omega arith))
        | inr n ↦ safe.keeps i l one n e u
      ];
    }

    left_walks : (i : ℕ) → i ≤ length es → Stays g touched b (left b es i)
    left_walks i l e u z n = unchanged (λ k. walk_to g (left b es k) e n) 0 i (omega arith) (λ k v w. step k (omega arith)) ∙ ap (λ (c : List ℕ). walk_to g c e n) (left_zero b es)
      where
        step : (k : ℕ) → k < length es → walk_to g (left b es (suc k)) e n ≡ walk_to g (left b es k) e n
        step k v = elim (decide (length (get_or es k [])) 1) [
          | inl one ↦ safe.walks k v one e u z n
          | inr m ↦ (epoch_shows k v (left_accepted k (omega arith)) m).walks e u n
        ]

    module _ (x : Cut) (x_lt : x.epoch < length es) where
      now : List ℕ
      now = performed (left b es x.epoch) (chosen x.arrived (get_or es x.epoch []))

      stands : Stands g b es x now
      unfolding now performed
      stands = elim (decide (length (get_or es x.epoch [])) 1) [
        | inl one ↦ by one (x.arrived 0) refl
        | inr n ↦ hid n (hidden_rule g fit (left b es x.epoch) (left_accepted x.epoch (omega arith)) (get_or es x.epoch []) (all_hidden x.epoch x_lt n) x.arrived)
      ]
        where
          by : length (get_or es x.epoch []) ≡ 1 → (t : Bool) → x.arrived 0 ≡ t → Stands g b es x now
          by one true e = moved e (ap (performed (left b es x.epoch)) (chosen_one x.arrived (get_or es x.epoch []) one e) ∙ sym (left_suc b es x.epoch x_lt))
          by one false e = stayed e (ap (performed (left b es x.epoch)) (chosen_none x.arrived (get_or es x.epoch []) one e))

      now_accepted : Stands g b es x now → T (accepted g now)
      now_accepted (hid n s) = rw s.boards (left_accepted x.epoch (omega arith))
      now_accepted (stayed t z) = rw z (left_accepted x.epoch (omega arith))
      now_accepted (moved t z) = rw z (left_accepted (suc x.epoch) x_lt)

      module _ (f : ℕ) (f_lt : f < files g) where
        -- a cut in another epoch than d
        away : x.epoch ≢ d → contents g now f ≡ contents g (left b es x.epoch) f → Outcome (contents g b f) (contents g now f) (contents g (left b es (length es)) f) (decided d x)
        away m r = elim (split d x.epoch) [
          | inl u ↦ done (decided_late d x (omega arith)) (r ∙ left_after f f_lt x.epoch (omega arith) (omega arith))
          | inr u ↦ waiting (decided_early d x u) (r ∙ left_before f f_lt x.epoch (omega arith) (omega arith))
        ]

        now_outcome : Stands g b es x now → Outcome (contents g b f) (contents g now f) (contents g (left b es (length es)) f) (decided d x)
        now_outcome (hid n s) =
            let r : contents g now f ≡ contents g (left b es x.epoch) f = s.reads f f_lt in
            elim (decide x.epoch d) [
              | inl e ↦ alike (left_alike f f_lt x.epoch e x_lt n) (r ∙ left_before f f_lt x.epoch (omega arith) (omega arith))
              | inr m ↦ away m r
            ]
        now_outcome (stayed t z) =
            let r : contents g now f ≡ contents g (left b es x.epoch) f = ap (λ (c : List ℕ). contents g c f) z in
            elim (decide x.epoch d) [
              | inl e ↦ waiting (decided_same d x e ∙ t) (r ∙ left_before f f_lt x.epoch (omega arith) (omega arith))
              | inr m ↦ away m r
            ]
        now_outcome (moved t z) =
            let r : contents g now f ≡ contents g (left b es (suc x.epoch)) f = ap (λ (c : List ℕ). contents g c f) z in
            elim (decide x.epoch d) [
              | inl e ↦ done (decided_same d x e ∙ t) (r ∙ left_after f f_lt (suc x.epoch) x_lt (omega arith))
              | inr m ↦ away m (r ∙ left_keeps f f_lt x.epoch x_lt m)
            ]

      now_walks : Stands g b es x now → Stays g touched b now
      now_walks (hid n s) e u z i = s.walks e u i ∙ left_walks x.epoch (omega arith) e u z i
      now_walks (stayed t y) e u z i = rw y (left_walks x.epoch (omega arith) e u z i)
      now_walks (moved t y) e u z i = rw y (left_walks (suc x.epoch) x_lt e u z i)

      now_settled : (ss : List Store) → 0 < length ss → Settled g touched b now (contents g (left b es (length es))) ss (decided d x)
      now_settled ss some =
          let s : Stands g b es x now = stands in
          record { board = now_accepted s; walks = now_walks s; reads = λ e u. outcome_settled (now_outcome e u s); planned = λ e u n. some }

-- ---- Plans without epochs

epochs_some : (ss : List Store) → 0 < length (epochs ss) → 0 < length ss
unfolding epochs
epochs_some [] l = l
epochs_some (s ∷ ss) l = omega arith

module _ (ss : List Store) (none : epochs ss ≡ []) (b : List ℕ) where
  left_none : left b (epochs ss) (length (epochs ss)) ≡ b
  left_none = rw none (left_zero b [])

  -- a cut leaves the board, whatever is said to have arrived
  pub none_settled : (g : Layout) (touched : ℕ → Bool) → T (accepted g b) → (x : Cut) (arrived : Bool) → Settled g touched b (standing ss x b) (contents g b) ss arrived
  none_settled g touched ok x arrived =
      rw (standing_none ss none x b) record { board = ok; walks = λ e u z n. refl; reads = λ e u. same arrived (contents g b e); planned = λ e u n. absurd (n refl) }
    where
      same : (t : Bool) (l : List ℕ) → l ≡ cond t l l
      same true l = refl
      same false l = refl

  pub none_safe : (g : Layout) → T (accepted g b) → (f : ℕ) (x : Cut) (arrived : Bool) → CutSafe g b (standing ss x b) f (contents g b f) ss arrived
  none_safe g ok f x arrived = rw (standing_none ss none x b) record {
    board = ok;
    wholly = inl refl;
    others = λ e l n. refl;
    planned = λ n. absurd (n refl);
    decides = λ n. absurd (n refl);
  }

-- the rule over all files at once
pub turn_rule : (g : Layout) → Fits g → (touched : ℕ → Bool) (b : List ℕ) → T (accepted g b) → (ss : List Store) (d : ℕ) → OneTurn g touched b (epochs ss) d → (x : Cut) → Names ss x
    → Settled g touched b (standing ss x b) (contents g (left b (epochs ss) (length (epochs ss)))) ss (decided d x)
unfolding standing left now
turn_rule g fit touched b ok ss d safe x x_lt = elim (decide (length (epochs ss)) 0) [
  | inl z ↦
      let none : epochs ss ≡ [] = empty_none (epochs ss) z in
      rw (left_none ss none b) (none_settled ss none b g touched ok x (decided d x))
  | inr n ↦ now_settled g fit touched b ok (epochs ss) d safe x (omega arith) ss (epochs_some ss (omega arith))
]

-- and of one file
module _ (g : Layout) (fit : Fits g) (b : List ℕ) (ok : T (accepted g b)) (f : ℕ) (es : List (List Store)) (d : ℕ) (safe : SafePlan g b f es d) where
  left_others : (e : ℕ) → e < files g → e ≢ f → (i : ℕ) → i ≤ length es → contents g (left b es i) e ≡ contents g b e
  left_others e e-lt n i l = unchanged (λ k. contents g (left b es k) e) 0 i (omega arith) (λ k u v. step k (omega arith)) ∙ ap (λ (c : List ℕ). contents g c e) (left_zero b es)
    where
      turn : OneTurn g (λ i. true) b es d
      turn = safe_turn g b f es d safe

      step : (k : ℕ) → k < length es → contents g (left b es (suc k)) e ≡ contents g (left b es k) e
      step k v = elim (decide (length (get_or es k [])) 1) [
        | inl one ↦ safe.others k v one e e-lt n
        | inr m ↦ (epoch_shows g fit (λ i. true) b ok es d turn k v (left_accepted g fit (λ i. true) b ok es d turn k (omega arith)) m).reads e e-lt
      ]

pub safe_rule : SafeRule
safe_rule g fit b ok f f_lt ss d safe x x_lt =
    let es : List (List Store) = epochs ss in
    settled_one g (λ e. true) b (standing ss x b) (contents g (left b es (length es))) ss (decided d x) (turn_rule g fit (λ e. true) b ok ss d (safe_turn g b f es d safe) x x_lt) f f_lt
    (λ e u n. left_others g fit b ok f es d safe e u n (length es) (omega arith))
