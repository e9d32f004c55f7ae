-- The board that growth leaves: its inode is what a plan goes by, which is the lent board's but for the root; and a write to a single word is one there if it is
-- one on the lent board. Growth comes before no such write: all its bytes would lie past the old tree's span.
use Rattle.std.specs.Prelude.{None}
use mathlib.Core.Path.{◌≡◌, refl, sym, ◌∙◌}
use mathlib.Core.Logic.{inl, inr}
use mathlib.Core.Bool.{Bool, false, ◌&&◌}
use mathlib.Core.List.{List, []}
use Prim.Native.Nat.{ℕ, zero, suc, ◌+◌, ◌-◌, ◌/◌, ◌≤◌, ◌<◌}
use native.Mathlib.Omega.{arith}
use native.Mathlib.Nat.{le-div_iff_mul-le}
use lib.ListN.{length}
use lib.Dec.{leb, eqb}
use borrow.Author.Tests.{lt-ltb, le-ltb, eqb-true}
use Rattle.model.specs.Lists.{concat}
use Rattle.model.specs.Layout.{Layout}
use Rattle.model.specs.Tree.{span, least, walk}
use Rattle.model.specs.Board.{root_walk, greatest, root_height, root_block, size, inode_of, file_walk}
use Rattle.model.specs.Store.{performed}
use Rattle.model.specs.Plan.{plan, plan_epochs}
use Rattle.model.specs.Fresh.{Page}
use Rattle.model.specs.Change.{level_page, level_below, levels, level_top, growing, growth_to, growth, grown_inode, single_block}
use Rattle.model.proofs.Cases.{split, either, true_right}
use Rattle.model.proofs.Spans.{span_power, span_pos, span_mono, child, least_reaches, least_least}
use Rattle.model.proofs.Perform.{length_tabulate}
use Rattle.model.proofs.Trees.{walk_null}
use Rattle.model.proofs.Built.{held}
use Rattle.model.proofs.Levels.{other_block, last_level}
use Rattle.model.proofs.Shown.{words_pos}
use Rattle.model.proofs.Supplied.{Supply}
use Rattle.model.proofs.Steps.{committed}
use Rattle.model.proofs.Writing.{Writing, Growing}
use Rattle.model.proofs.GrowthWay.{growth_step, growth_performed, growing_more, growing_cases, growth_size, growth_inode, growth_address, growth_root, growth_height, growth_top, growth_held}

-- c is the board that growth leaves of b, for a write to file f from o up to e
pub record GrownBoard (g : Layout) (fresh : ℕ → ℕ) (b c : List ℕ) (f o e : ℕ) : Type 0 where
  pub inode : grown_inode g fresh (inode_of g b f) e ≡ inode_of g c f
  pub single : single_block g c f o e ≡ single_block g b f o e

-- a span is whole words, so if one byte of a word lies past it, all do
word_past : (W h o e : ℕ) → o < e → o / 8 ≡ (e - 1) / 8 → span W h < e → span W h ≤ o
word_past W h o e some word l = omega (arith, span_power W h)

module _ (g : Layout) (b : List ℕ) (f o e : ℕ) where
  -- no single word is written where its first byte is in a hole
  single_hole : (o / 8 ≡ (e - 1) / 8 → file_walk g b f o ≡ None) → single_block g b f o e ≡ None
  unfolding single_block
  single_hole hole =
      let within : Bool = leb e (size g b f) in
      let word : Bool = eqb (o / 8) ((e - 1) / 8) in
      elim (either (within && word)) [ inl u ↦ rw (u, hole (eqb-true (o / 8) ((e - 1) / 8) (true_right within word u))) | inr u ↦ rw u ]

  -- so none that ends past the tree's span
  pub single_past : o < e → span g.words (root_height g b f) < e → single_block g b f o e ≡ None
  unfolding file_walk root_walk
  single_past some more =
      let s : ℕ = span g.words (root_height g b f) in
      single_hole (λ word. rw (le-ltb o s (word_past g.words (root_height g b f) o e some word more)))

-- ---- The top of the grown tree

module _ (W : ℕ) (pos : 0 < W) (b : List ℕ) (fresh : ℕ → ℕ) (lim : ℕ) (nonzero : (i : ℕ) → i < lim → 0 < fresh i) where
  -- past the span of the height below, its pointers are null
  top_hole : (h k d n i : ℕ) → 0 < d → length (levels W fresh k d) ≤ lim → held W fresh b (levels W fresh k d) 0 → span W h ≤ i → i < span W (suc h)
      → walk W b (suc h) (level_top fresh k d) n i ≡ None
  unfolding levels level_top level_below walk
  top_hole h k zero n i some room g past l = absurd (omega arith)
  top_hole h zero (suc d) n i some room g past l = walk_null W b (suc h) n i
  top_hole h (suc k) (suc d) n i some room g past l =
      let f : ℕ → Page = λ j. level_page W (level_below fresh (suc k) j) in
      let there : 0 < fresh d = nonzero d (omega (arith, room, length_tabulate (suc d) f)) in
      let not_first : 0 < i / span W h = (le-div_iff_mul-le (span_pos W pos h)).1 (omega arith) in
      rw (other_block W pos b h (level_below fresh (suc k) d) (fresh d) n there (last_level W fresh pos b d f g) (i / span W h) not_first (child W pos h i l).which)
      (walk_null W b h _ _)

  -- the same of any height above 0
  top_past : (h k d n i : ℕ) → 0 < d → length (levels W fresh k d) ≤ lim → held W fresh b (levels W fresh k d) 0 → ((x : ℕ) → x < h → span W x ≤ i) → 0 < h → i < span W h
      → walk W b h (level_top fresh k d) n i ≡ None
  top_past zero k d n i some room g past high l = absurd (omega arith)
  top_past (suc h) k d n i some room g past high l = top_hole h k d n i some room g (past h (omega arith)) l

-- ---- The board

-- no growth
same_board : (g : Layout) (fresh : ℕ → ℕ) (b : List ℕ) (f o e : ℕ) → growing g (inode_of g b f) e ≡ false → GrownBoard g fresh b (performed b (concat (plan_epochs (plan [] 0).steps))) f o e
unfolding plan plan_epochs concat performed grown_inode
same_board g fresh b f o e still = record { inode = rw still; single = refl }

module _ {g : Layout} {b : List ℕ} {f e : ℕ} (w : Growing g b f e) {fresh : ℕ → ℕ} {lim : ℕ} (supply : Supply g b fresh 0 lim)
    (room : (growth_to g fresh (inode_of g b f) (least g.words g.height e)).taken ≤ lim) (o : ℕ) (some : o < e) where
  abbrev h : ℕ
  h = least g.words g.height e

  abbrev W : ℕ
  W = g.words

  abbrev c : List ℕ
  c = committed b (growth_step g fresh b f h)

  -- where all bytes are in one word, the first is in a hole
  new_hole : o / 8 ≡ (e - 1) / 8 → file_walk g c f o ≡ None
  unfolding file_walk root_walk greatest growth_to plan
  new_hole word =
      let pos : 0 < W = words_pos g w.on.fit in
      let reaches : e ≤ span W h = least_reaches W pos g.height e w.most in
      let higher : root_height g b f < h = elim (split h (root_height g b f)) [ inl u ↦ absurd (omega (arith, w.more, span_mono W pos h (root_height g b f) u)) | inr u ↦ u ] in
      rw (growth_height w supply room, growth_top w supply room, lt-ltb o (span W h) (omega (arith, some, reaches)))
      (top_past W pos c fresh lim supply.between.nonzero h (root_block g b f) (h - root_height g b f) (size g c f) o (omega arith) room (growth_held w supply room)
      (λ x u. word_past W x o e some word (least_least W pos g.height e x u)) (omega arith) (omega (arith, some, reaches)))

  larger_board : GrownBoard g fresh b (performed b (concat (plan_epochs (growth_to g fresh (inode_of g b f) h).steps))) f o e
  unfolding grown_inode
  larger_board = rw (growth_performed g fresh b f h) (record {
    inode = rw (growing_more w, growth_inode w supply room, growth_address w supply room, growth_root w supply room, growth_size w supply room);
    single = single_hole g c f o e new_hole ∙ sym (single_past g b f o e some w.more);
  })

module _ {g : Layout} {b : List ℕ} {f o : ℕ} {new : List ℕ} (w : Writing g b f o new) (some : 0 < length new) {fresh : ℕ → ℕ} {lim : ℕ} (supply : Supply g b fresh 0 lim) where
  abbrev e : ℕ
  e = o + length new

  pub grown_board : (growth g fresh (inode_of g b f) e).taken ≤ lim → GrownBoard g fresh b (performed b (concat (plan_epochs (growth g fresh (inode_of g b f) e).steps))) f o e
  unfolding growth
  grown_board room = elim (growing_cases w) [
    | inl still ↦ rw still.0 (same_board g fresh b f o e still.0)
    | inr more ↦ rw (growing_more more) (larger_board more supply (rw (growing_more more) at room) o (omega arith))
  ]
