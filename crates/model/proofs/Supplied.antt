-- Fresh blocks: what is asked of them, and that every order of the board's free blocks meets it.
use mathlib.Core.Path.{◌≡◌, sym, ap, ◌∙◌, subst}
use mathlib.Core.Logic.{◌≢◌, inl, inr}
use mathlib.Core.List.{List}
use Prim.Native.Nat.{ℕ, ◌+◌, ◌-◌, ◌*◌, ◌/◌, ◌≤◌, ◌<◌}
use native.Mathlib.Omega.{arith}
use lib.ListN.{length, get_or, take}
use lib.Dec.{T}
use Rattle.model.specs.Lists.{tabulate, member, occ}
use Rattle.model.specs.Layout.{Layout, Fits}
use Rattle.model.specs.Tree.{cell}
use Rattle.model.specs.Board.{block_count, live_blocks, free}
use Rattle.model.specs.Store.{performed}
use Rattle.model.specs.Hidden.{hidden}
use Rattle.model.specs.Fresh.{Page, stored}
use Rattle.model.specs.Calls.{lowest}
use Rattle.model.specs.Orders.{Order, LowestRule}
use Rattle.model.proofs.Cases.{split, is_true}
use Rattle.model.proofs.Counting.{occ_first}
use Rattle.model.proofs.Perform.{All, performed_away, address_block, stored_blocks}
use Rattle.model.proofs.Addresses.{all_map, addresses, used_none, used_once, stored_once}
use Rattle.model.proofs.Built.{Between, used}
use Rattle.model.proofs.Census.{FreeBlock, free_at, free_rises, member_free, free_member}

-- the blocks fresh i with i < lim differ and lie in 1 to B − 2; those with c ≤ i are not live
pub record Supply (g : Layout) (b : List ℕ) (fresh : ℕ → ℕ) (c lim : ℕ) : Type 0 where
  pub between : Between fresh lim (block_count g b - 1)
  pub apart : (i j : ℕ) → i < j → j < lim → fresh i ≢ fresh j
  pub spare : (i : ℕ) → c ≤ i → i < lim → occ (fresh i) (live_blocks g b) ≡ 0

-- an order of taking free blocks is one
pub supply_order : (g : Layout) (b : List ℕ) (fresh : ℕ → ℕ) → Order g b fresh → Supply g b fresh 0 (length (free g b))
supply_order g b fresh o = record {
  between = record { nonzero = λ i l. (lies i l).0; below = λ i l. (lies i l).1 };
  apart = o.apart;
  spare = λ i u l. (lies i l).2;
}
  where
    lies : (i : ℕ) → i < length (free g b) → FreeBlock g b (fresh i)
    lies i l = member_free g b (fresh i) (is_true (member (fresh i) (free g b)) (o.among i l))

pub lowest_rule : LowestRule
unfolding lowest
lowest_rule g b = record {
  among = λ i l. rw (free_member g b (get_or (free g b) i 0) (free_at g b i l)) tt;
  apart = λ i j u v e. omega (arith, free_rises g b i j u v);
}

-- and so is highest number first
pub highest_order : (g : Layout) (b : List ℕ) → Order g b (λ i. get_or (free g b) (length (free g b) - 1 - i) 0)
highest_order g b =
    let last : ℕ = length (free g b) - 1 in
    record {
      among = λ i l. rw (free_member g b (get_or (free g b) (last - i) 0) (free_at g b (last - i) (omega arith))) tt;
      apart = λ i j u v e. omega (arith, free_rises g b (last - j) (last - i) (omega arith) (omega arith));
    }

-- of lowest number first those taken are the first of the free blocks
pub lowest_first : (g : Layout) (b : List ℕ) (k n : ℕ) → 0 < k → occ k (tabulate n (lowest g b)) ≡ occ k (take n (free g b))
unfolding lowest
lowest_first g b k n pos = occ_first (free g b) k n pos

module _ {g : Layout} {b : List ℕ} {fresh : ℕ → ℕ} {c lim : ℕ} (ok : Supply g b fresh c lim) where
  -- a live block is none of them
  pub supply_live : (q m : ℕ) → c + m ≤ lim → 0 < occ q (live_blocks g b) → used fresh q c m ≡ 0
  supply_live q m room live = used_none fresh q c m (λ i u v e. omega (arith, ok.spare i u (omega arith), subst (λ (x : ℕ). 0 < occ x (live_blocks g b)) e live))

  -- live and fresh blocks are met once
  pub supply_once : ((q : ℕ) → occ q (live_blocks g b) ≤ 1) → (m : ℕ) → c + m ≤ lim → (q : ℕ) → occ q (live_blocks g b) + used fresh q c m ≤ 1
  supply_once once m room q = elim (split (occ q (live_blocks g b)) 0) [
    | inl z ↦ omega (arith, used_once fresh q c m (λ i j u v w. ok.apart i j v (omega arith)))
    | inr z ↦ omega (arith, once q, supply_live q m room z)
  ]

  -- stores to them are hidden
  pub stored_hidden : Fits g → (ps : List Page) → c + length ps ≤ lim → All (λ s. T (hidden g b s)) (stored g.words fresh ps c)
  unfolding hidden
  stored_hidden fit ps room = all_map (λ s. FreeBlock g b (s.at / g.words)) (λ s. T (hidden g b s)) (λ s k. rw (free_member g b (s.at / g.words) k) tt) (stored g.words fresh ps c)
      (stored_blocks g.words fresh (λ x. FreeBlock g b (x / g.words)) ps c
      (λ i j u v l. rw (address_block g.words (fresh i) j l) (ok.between.nonzero i (omega arith), ok.between.below i (omega arith), ok.spare i u (omega arith))))

  -- and go to different words
  pub stored_apart : (ps : List Page) → c + length ps ≤ lim → (x : ℕ) → occ x (addresses (stored g.words fresh ps c)) ≤ 1
  stored_apart ps room x = omega (arith, stored_once g.words fresh ps c x, used_once fresh (x / g.words) c (length ps) (λ i j u v w. ok.apart i j v (omega arith)))

  -- none of them to a live block
  pub stored_not_live : (ps : List Page) → c + length ps ≤ lim → (x : ℕ) → 0 < occ (x / g.words) (live_blocks g b) → All (λ s. s.at ≢ x) (stored g.words fresh ps c)
  stored_not_live ps room x live = stored_blocks g.words fresh (λ y. y ≢ x) ps c (λ i j u v l e.
      omega (arith, ok.spare i u (omega arith), subst (λ (y : ℕ). 0 < occ y (live_blocks g b)) (ap (λ (y : ℕ). y / g.words) (sym e) ∙ address_block g.words (fresh i) j l) live))

  -- so live blocks stay
  pub stored_keeps : (ps : List Page) → c + length ps ≤ lim → (q : ℕ) → 0 < occ q (live_blocks g b) → (j : ℕ) → j < g.words
      → cell g.words b q j ≡ cell g.words (performed b (stored g.words fresh ps c)) q j
  unfolding cell
  stored_keeps ps room q live j l = sym (performed_away b (stored g.words fresh ps c) (g.words * q + j)
      (all_map (λ s. s.at ≢ g.words * q + j) (λ s. g.words * q + j ≢ s.at) (λ s d e. d (sym e)) (stored g.words fresh ps c)
      (stored_not_live ps room (g.words * q + j) (rw (address_block g.words q j l) live))))
