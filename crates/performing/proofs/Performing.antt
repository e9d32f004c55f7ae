-- Perform: what its loops find and store, pair by pair, and its ways out.
use Rattle.std.specs.Prelude.{Ok, Err}
use mathlib.Core.Path.{◌≡◌, refl, sym, ◌∙◌}
use mathlib.Core.Logic.{inl, inr}
use mathlib.Core.Bool.{Bool, true, false, not, cond, ◌||◌}
use mathlib.Core.List.{List, [], ◌∷◌, ◌++◌}
use Prim.Native.Nat.{ℕ, ◌-◌, ◌*◌, ◌/◌, ◌^◌, ◌≤◌, ◌<◌}
use native.Mathlib.Omega.{arith}
use lib.ListN.{length, set, take}
use lib.Seq.{set_out}
use lib.Dec.{ltb, eqb}
use borrow.Author.Tests.{lt-ltb, le-ltb, eqb-true}
use Rattle.model.specs.declared.Fault.{Fault}
use Rattle.model.specs.declared.Fault.TheVariants.{WordCount, PairCount, Address}
use Rattle.std.specs.List.{list_all}
use Rattle.model.specs.Lists.{all, cons_if, filter}
use Rattle.model.specs.Layout.{Layout}
use Rattle.model.specs.Board.{word_count_sound}
use Rattle.model.specs.Store.{Store, store, is_barrier, performed, stores, paired}
use Rattle.model.specs.Answers.{answered, unless_refused}
use Rattle.model.specs.Calls.{word_count_fault, perform_faults, perform_answer, perform_board}
use Rattle.model.proofs.Cases.{either}
use Rattle.model.proofs.Perform.{length_performed, performed_append, stores_append}
use Rattle.performing.specs.Results.{PerformResult}

-- ---- Addresses

-- each of the first k of a slice is on a board of so many words or a barrier's
abbrev pub addresses_sound : ℕ → List ℕ → ℕ → Bool
addresses_sound words l k = all (λ s. ltb s.at words || is_barrier s) (take k (paired l))

pub all_listed : {A : Type 0} (p : A → Bool) (xs : List A) → list_all p xs ≡ all p xs
unfolding all
all_listed p [] = refl
all_listed p (x ∷ xs) = rw (all_listed p xs)

-- ---- Stores

-- a pair is performed by storing it, barrier or not: a barrier's address is off the board
one_stored : (b : List ℕ) (a v : ℕ) → length b < 2 ^ 64 → performed b (stores (store a v ∷ [])) ≡ set b a v
unfolding performed stores filter cons_if is_barrier store
one_stored b a v h = elim (either (eqb a (2 ^ 64 - 1))) [
  | inl e ↦ rw e (sym (set_out b a v (omega (arith, eqb-true a (2 ^ 64 - 1) e))))
  | inr e ↦ rw e
]

module _ (b : List ℕ) where
  -- the board after k pairs
  abbrev pub stored_board : List ℕ → ℕ → List ℕ
  stored_board l k = performed b (stores (take k (paired l)))

  pub stored_none : b ≡ performed b (stores [])
  unfolding performed stores filter
  stored_none = refl

  -- one pair more, on the board c that those before left
  pub stored_more : (ss : List Store) {c c' : List ℕ} (a v : ℕ) → length b < 2 ^ 64 → c ≡ performed b (stores ss) → c' ≡ set c a v → c' ≡ performed b (stores (ss ++ (store a v ∷ [])))
  stored_more ss a v f ec e =
      let one = one_stored (performed b (stores ss)) a v (omega (arith, length_performed b (stores ss))) in
      e ∙ rw (ec, stores_append ss (store a v ∷ []), performed_append b (stores ss) (stores (store a v ∷ [])), one)

-- ---- Ways out

answer_shape : (g : Layout) (b l : List ℕ) (k : ℕ) → perform_answer g b l k
    ≡ cond (not (word_count_sound g b)) (Err WordCount) (cond (ltb (length l) (2 * k)) (Err PairCount) (cond (not (addresses_sound (length b) l k)) (Err Address) (Ok k)))
unfolding perform_answer perform_faults word_count_fault answered
answer_shape g b l k = refl

module _ {g : Layout} {b l : List ℕ} {k : ℕ} where
  refused : {f : Fault} → Err f ≡ perform_answer g b l k → PerformResult g b l k (Err f) b
  unfolding perform_board unless_refused
  refused e = record { answer = e; board = rw (← e) }

  pub miscounted : {w : Bool} → w ≡ word_count_sound g b → w ≡ false → PerformResult g b l k (Err WordCount) b
  miscounted e z = refused (sym (answer_shape g b l k ∙ rw (← e, z)))

  module _ {w : Bool} (ew : w ≡ word_count_sound g b) (zw : w ≡ true) where
    pub short : length l / 2 < k → PerformResult g b l k (Err PairCount) b
    short h = refused (sym (answer_shape g b l k ∙ rw (← ew, zw, lt-ltb (length l) (2 * k) (omega arith))))

    module _ {t : Bool} (room : k ≤ length l / 2) (et : t ≡ addresses_sound (length b) l k) where
      pub stray : t ≡ false → PerformResult g b l k (Err Address) b
      stray z = refused (sym (answer_shape g b l k ∙ rw (← ew, zw, le-ltb (length l) (2 * k) (omega arith), ← et, z)))

      pub done : t ≡ true → {b' : List ℕ} → b' ≡ stored_board b l k → PerformResult g b l k (Ok k) b'
      unfolding perform_board unless_refused
      done z e =
          let answer : perform_answer g b l k ≡ Ok k = answer_shape g b l k ∙ rw (← ew, zw, le-ltb (length l) (2 * k) (omega arith), ← et, z) in
          record { answer = sym answer; board = e ∙ rw answer }
