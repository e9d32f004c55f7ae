-- A length change: its pairs, case by case.
use mathlib.Core.Path.{◌≡◌, sym, ◌∙◌}
use mathlib.Core.Logic.{◌≢◌}
use mathlib.Core.Bool.{cond}
use mathlib.Core.List.{List, [], ◌∷◌, ◌++◌}
use Prim.Native.Nat.{ℕ, ◌+◌, ◌-◌, ◌/◌, ◌%◌, ◌^◌, ◌≤◌, ◌<◌}
use native.Mathlib.Omega.{arith}
use native.Mathlib.Nat.{sub-zero}
use lib.ListN.{length, get_or, replicate}
use lib.Dec.{ltb}
use borrow.Author.Tests.{lt-ltb, le-ltb, eq-eqb, ne_eqb}
use Rattle.model.specs.Layout.{Kind}
use Rattle.model.specs.Layout.{Layout, layout_of}
use Rattle.model.specs.Board.{root_address, root, size, size_address}
use Rattle.model.specs.Store.{Store, store, fenced, laid}
use Rattle.model.specs.Plan.{plan, plan_epochs, pairs}
use Rattle.model.specs.InPlace.{in_place}
use Rattle.model.specs.Change.{cleared, length_plan}
use Rattle.model.proofs.Accepting.{facts}
use Rattle.model.proofs.Plans.{cleared_empty, cleared_live}
use Rattle.kinds.specs.Figures.{Bits}
use Rattle.model.proofs.Formatted.{fits}
use Rattle.kinds.proofs.Figures.{files_32}
use Rattle.trees.specs.declared.Tree.{Tree}
use Rattle.plans.specs.Laying.{closing, Laid}
use Rattle.plans.proofs.Laying as Laying
use Rattle.boards.specs.Inodes.{AddressOf}
use Rattle.plans.proofs.OneStep.{step_plan}
use Rattle.ways.proofs.Ways.{few_stores}
use Rattle.planning.specs.Asked.{File}
use Rattle.boards.proofs.Inodes.{size_is}

-- ---- The pairs

module _ {g : Layout} {b : List ℕ} {f at s : ℕ} (a : AddressOf g b f at) (es : s ≡ get_or b (at + 1) 0) (n : ℕ) where
  same_size : s ≡ size g b f
  same_size = size_is a es

  -- a step that stores the size, after stores ss
  sized : (ss : List Store) → n ≢ s → cond (ltb n (size g b f)) [] (cleared g b f (size g b f) n) ≡ ss
      → ss ++ closing (length ss) (store (at + 1) n) ≡ pairs (length_plan g b f n)
  unfolding length_plan size_address
  sized ss d e = rw (ne_eqb n (size g b f) (rw same_size at d), e, a.is) (sym (step_plan ss (root_address g b f + 1) n 0))

  -- *n = s, empty plan*
  pub length_kept : {slice : List ℕ} → n ≡ s → Laid slice 0 (pairs (length_plan g b f n)) slice 0
  unfolding length_plan pairs plan plan_epochs fenced
  length_kept e = rw (eq-eqb n (size g b f) (e ∙ same_size)) Laying.none

  -- *n < s, one store of the size*
  pub length_cut : {slice slice' : List ℕ} {r : ℕ} → n ≢ s → n < s → Laid slice 0 (closing 0 (store (at + 1) n)) slice' r → Laid slice 0 (pairs (length_plan g b f n)) slice' r
  length_cut d l w = Laying.same_pairs (sized [] d (rw (lt-ltb n (size g b f) (rw same_size at l)))) w

  module _ (d : n ≢ s) (l : s ≤ n) where
    hidden_are : cond (ltb n (size g b f)) [] (cleared g b f (size g b f) n) ≡ cleared g b f s n
    hidden_are = rw (le-ltb n (size g b f) (rw same_size at l), same_size)

    -- *With s = 0 it stores 0 to the root word*
    pub length_from_empty : {slice slice₁ slice' : List ℕ} {r : ℕ} → s ≡ 0 → slice₁ ≡ laid slice 0 (store at 0 ∷ []) → Laid slice₁ 1 (closing 1 (store (at + 1) n)) slice' r
        → Laid slice 0 (pairs (length_plan g b f n)) slice' r
    length_from_empty z e w = Laying.same_pairs (sized (store at 0 ∷ []) d (hidden_are ∙ cleared_empty g b f n s z ∙ rw a.is)) (Laying.more (Laying.one e) w)

    -- *n > s: one epoch, then the size*
    pub length_more : {slice slice₁ slice' : List ℕ} {W r q x : ℕ} {u : Tree} → g.words ≡ W → s ≢ 0 → x ≡ get_or b at 0 → u ≡ record { height = x % W; block = x / W; left = s }
        → Laid slice 0 (in_place W b (λ h l c. 0) u.height u.block u.left (replicate (n - s) 0) 0 at) slice₁ q → Laid slice₁ q (closing (q - 0) (store (at + 1) n)) slice' r
        → Laid slice 0 (pairs (length_plan g b f n)) slice' r
    unfolding root
    length_more {W = W} {q = q} {u = u} is z ex eu laid w =
        let ss : List Store = cleared g b f s n in
        let here : in_place W b (λ h l c. 0) u.height u.block u.left (replicate (n - s) 0) 0 at ≡ ss = rw (eu, ex, ← is, a.is) (sym (cleared_live g b f n s (omega arith))) in
        let stored = Laying.same_pairs here laid in
        let count : q ≡ length ss = omega (arith, stored.next) in
        Laying.same_pairs (sized ss d hidden_are) (Laying.more (rw count at stored) (rw (sub-zero q, count) at w))

-- ---- Room

-- the tree of a file that is not empty is low
pub low : {kind : Kind} {b : List ℕ} {f at s x : ℕ} → File kind b f → AddressOf (layout_of kind) b f at → s ≡ get_or b (at + 1) 0 → x ≡ get_or b at 0 → s ≢ 0
    → x % (layout_of kind).words ≤ (layout_of kind).height
unfolding root
low {kind} {b} {f} file a es ex z =
    rw (ex, a.is) ((facts (layout_of kind) (fits kind) b file.board).low f (rw (files_32 kind) file.file) (omega (arith, size_is a es)))

-- so the places of all pairs are words
pub place_room : {kind : Kind} {bits h : ℕ} → Bits kind bits → h ≤ (layout_of kind).height → (b : List ℕ) (hook : ℕ → ℕ → ℕ → ℕ) (k n : ℕ) (new : List ℕ) (c a : ℕ)
    → 0 + length (in_place (2 ^ bits) b hook h k n new c a) ≤ 2 ^ 32
place_room wide l b hook k n new c a = omega (arith, few_stores wide l b hook k n new c a)

pub place_behind : {ss : List Store} {slice slice' : List ℕ} {q : ℕ} → Laid slice 0 ss slice' q → 0 + length ss ≤ 2 ^ 32 → q ≤ 2 ^ 32
place_behind w l = rw w.next l
