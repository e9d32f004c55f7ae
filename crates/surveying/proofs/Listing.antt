-- The free blocks listed at the front of a table.
use mathlib.Core.Path.{◌≡◌, sym, ap, ◌∙◌}
use mathlib.Core.Bool.{Bool, true, false}
use mathlib.Core.List.{List, ◌∷◌, ◌++◌, append-nil}
use Prim.Native.Nat.{ℕ, ◌+◌, ◌-◌, ◌≤◌, ◌<◌}
use native.Mathlib.Omega.{arith}
use native.Mathlib.Numerals.{add-one}
use lib.ListN.{length, take, drop, set, length-set, take-append-drop}
use lib.Seq.{length-take-le, take-suc-set, drop-set-lt, drop-drop, append_snoc}
use Rattle.model.specs.Lists.{cons_if, pick_from}
use Rattle.surveying.specs.Survey.{spare, Listed}
use Rattle.surveying.proofs.Reached.{pick_next, pick_none}

-- the blocks from k on that marks have free, of those below top
abbrev ahead : List ℕ → ℕ → ℕ → List ℕ
ahead m top k = pick_from k (top - k) (spare m)

-- the table once the blocks below k are listed, `count` of them
pub record ListedBelow (m : List ℕ) (top : ℕ) (table₀ : List ℕ) (k : ℕ) (table : List ℕ) (count : ℕ) : Type 0 where
  pub fewer : count < k
  pub within : count ≤ length table₀
  pub same : length table ≡ length table₀
  pub front : take count table ++ ahead m top k ≡ ahead m top 1
  pub rest : drop count table ≡ drop count table₀

module _ {m : List ℕ} {top : ℕ} {table₀ : List ℕ} where
  module _ {k : ℕ} {table : List ℕ} {count : ℕ} (s : ListedBelow m top table₀ k table count) (l : k < top) {r : Bool} (er : r ≡ spare m k) where
    -- a free block is listed
    pub listed : top ≤ length table₀ → r ≡ true → {table' : List ℕ} → table' ≡ set table count k → ListedBelow m top table₀ (k + 1) table' (count + 1)
    unfolding cons_if
    listed room e et =
        let here : ahead m top k ≡ k ∷ ahead m top (k + 1) = pick_next k top (spare m) l ∙ rw (sym er ∙ e) in
        let on : count < length table = omega (arith, s.fewer, s.same) in
        record {
          fewer = omega (arith, s.fewer);
          within = omega (arith, s.fewer);
          same = ap length et ∙ length-set table count k ∙ s.same;
          front = rw (et, add-one count, take-suc-set table count k on, append_snoc (take count table) k (ahead m top (k + 1)), ← here) s.front;
          rest = rw (et, drop-set-lt (count + 1) table count k (omega arith), ← drop-drop 1 count table, s.rest) (drop-drop 1 count table₀);
        }

    -- any other is passed over
    pub passed : r ≡ false → ListedBelow m top table₀ (k + 1) table count
    unfolding cons_if
    passed e =
        let here : ahead m top k ≡ ahead m top (k + 1) = pick_next k top (spare m) l ∙ rw (sym er ∙ e) in
        record { fewer = omega (arith, s.fewer); within = s.within; same = s.same; front = rw (← here) s.front; rest = s.rest }

  -- in the end all are listed
  pub end : {k : ℕ} {table : List ℕ} {count : ℕ} → ListedBelow m top table₀ k table count → top ≤ k → Listed m top table₀ count table
  end {k} {table} {count} s l =
      let all : take count table ≡ ahead m top 1 = sym (append-nil (take count table)) ∙ rw (pick_none k top (spare m) l) at s.front in
      record {
        count = sym (length-take-le count table (omega (arith, s.within, s.same))) ∙ ap length all;
        is = sym (take-append-drop count table) ∙ rw (all, s.rest);
      }
