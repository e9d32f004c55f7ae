-- A smaller size shows less: the tree (h, k, m) beside (h, k, n), where m ≤ n. For the length change down, which stores the size alone.
use mathlib.Core.Path.{refl, sym, ap, ◌∙◌}
use mathlib.Core.List.{List, []}
use Prim.Native.Nat.{ℕ, zero, suc, ◌-◌, ◌*◌, ◌/◌, ◌≤◌, ◌<◌}
use native.Mathlib.Omega.{arith}
use lib.Dec.{T}
use Rattle.model.specs.Lists.{occ}
use Rattle.model.specs.Tree.{span, aligned, link, blocks, sound}
use Rattle.model.proofs.Sums.{sum_le}
use Rattle.model.proofs.Agree.{agree, byte_at_size, agree_byte, agree_blocks, agree_sound, beneath, occ_above, occ_node, sound_child, sound_root, sound_node}
use Rattle.model.proofs.Splice.{splice_none}
use Rattle.model.specs.GivenUp.{dropped_blocks}
use Rattle.model.proofs.GivenUp.{dropped_exact}
use Rattle.model.proofs.Changed.{Changed}

module _ (W : ℕ) where
  pub shrink_agree : (b b' : List ℕ) (h k n m : ℕ) → m ≤ n → agree W b b' h k n → agree W b b' h k m
  unfolding agree
  shrink_agree b b' zero k n m l a = λ i u v. a i u (omega arith)
  shrink_agree b b' (suc h) k n m l a = λ j u v.
      ((a j u (omega arith)).0, shrink_agree b b' h (link W b k j / W) (n - j * span W h) (m - j * span W h) (omega arith) (a j u (omega arith)).1)

  aligned_shrink : (n m w : ℕ) → m ≤ n → T (aligned W n w) → T (aligned W m w)
  unfolding aligned
  aligned_shrink n zero w l t = tt
  aligned_shrink zero (suc m) w l t = absurd (omega arith)
  aligned_shrink (suc n) (suc m) w l t = t

module _ (W : ℕ) (pos : 0 < W) where
  module _ (b : List ℕ) where
    pub shrink_occ : (h k n m q : ℕ) → m ≤ n → occ q (blocks W b h k m) ≤ occ q (blocks W b h k n)
    unfolding blocks occ beneath
    shrink_occ zero zero n m q l = omega arith
    shrink_occ zero (suc k) n zero q l = omega arith
    shrink_occ zero (suc k) zero (suc m) q l = absurd (omega arith)
    shrink_occ zero (suc k) (suc n) (suc m) q l = omega arith
    shrink_occ (suc h) zero n m q l = omega arith
    shrink_occ (suc h) (suc k) n zero q l = omega arith
    shrink_occ (suc h) (suc k) n (suc m) q l = omega (
      arith,
      occ_node W pos b h (suc k) n q (omega arith) (omega arith),
      occ_above W pos b h (suc k) (suc m) q,
      sum_le W (λ j. occ q (blocks W b h (link W b (suc k) j / W) (suc m - j * span W h))) (λ j. occ q (blocks W b h (link W b (suc k) j / W) (n - j * span W h)))
          (λ j u. shrink_occ h (link W b (suc k) j / W) (n - j * span W h) (suc m - j * span W h) q (omega arith)),
    )

    pub shrink_sound : (top h k n m : ℕ) → m ≤ n → T (sound W b top h k n) → T (sound W b top h k m)
    unfolding sound
    shrink_sound top zero zero n m l t = tt
    shrink_sound top zero (suc k) n zero l t = tt
    shrink_sound top zero (suc k) zero (suc m) l t = absurd (omega arith)
    shrink_sound top zero (suc k) (suc n) (suc m) l t = t
    shrink_sound top (suc h) zero n m l t = tt
    shrink_sound top (suc h) (suc k) n zero l t = tt
    shrink_sound top (suc h) (suc k) n (suc m) l t = sound_node W pos top b h (suc k) (suc m) (sound_root W pos top b h (suc k) n (omega arith) (omega arith) t) (λ j u.
        let old = sound_child W pos top b h (suc k) n t j u in
        let w = link W b (suc k) j in
        (aligned_shrink W (n - j * span W h) (suc m - j * span W h) w (omega arith) old.0, shrink_sound top h (w / W) (n - j * span W h) (suc m - j * span W h) (omega arith) old.1))

  -- on a board that agrees, the smaller tree is the old one with nothing written
  pub shrink_changed : (b b' : List ℕ) (top h k n m o : ℕ) → m ≤ n → agree W b b' h k n
      → Changed W b b' top h k k n m o [] (λ q. 0) (λ q. occ q (dropped_blocks W b h k n m))
  shrink_changed b b' top h k n m o l a = record {
    bytes = λ i u v. byte_at_size W pos b' h k m n i v (omega arith) ∙ sym (agree_byte W pos b b' h k n i u a) ∙ sym (splice_none o [] _ i refl);
    counts = λ q. omega (arith, dropped_exact W pos b h k n m q l, ap (occ q) (agree_blocks W pos b b' h k m (shrink_agree W b b' h k n m l a)));
    fine = λ t. shrink_sound b' top h k n m l (rw (agree_sound W pos b b' top h k n a) at t);
  }
