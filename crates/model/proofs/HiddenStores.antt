-- Hidden stores: a board on which any of some stores are performed, each of them hidden, shows the same.
use mathlib.Core.Path.{◌≡◌, refl, sym, ap, ◌∙◌, subst}
use mathlib.Core.Logic.{◌⊎◌, inl, inr}
use mathlib.Core.Bool.{Bool, not, ◌&&◌}
use mathlib.Core.List.{List, [], ◌∷◌}
use Prim.Native.Nat.{ℕ, zero, suc, ◌+◌, ◌-◌, ◌*◌, ◌/◌, ◌%◌, ◌≤◌, ◌<◌}
use native.Mathlib.Omega.{arith}
use native.Mathlib.Nat.{add-zero}
use lib.ListN.{length, get_or, set, length-set}
use lib.Seq.{get_or-set_same, get_or-set_other, set_out}
use lib.Dec.{T, leb, eqb, leb→le, eqb→eq}
use lib.Ieee.Bits.{is_true}
use Rattle.model.specs.Lists.{some, all, member, one, occ}
use Rattle.model.specs.Words.{byte_of}
use Rattle.model.specs.Layout.{Layout, Fits, files}
use Rattle.model.specs.Tree.{live, span, cell, link, blocks}
use Rattle.model.specs.Board.{root_blocks, root_address, size_address, root_height, root_block, size, file_blocks, live_blocks, free, accepted}
use Rattle.model.specs.Store.{Store, performed}
use Rattle.model.specs.Hidden.{keeps_bytes, hidden_under, hidden_in_file, hidden}
use Rattle.model.specs.Cut.{chosen}
use Rattle.model.specs.Claims.{HiddenRule}
use Rattle.model.proofs.Cases.{split, decide, and_left, and_right, every_of, or_cases, some_of}
use Rattle.model.proofs.Sums.{sum_two}
use Rattle.model.proofs.Counting.{one_same}
use Rattle.model.proofs.Perform.{All, address_place}
use Rattle.model.proofs.Epochs.{all_chosen}
use Rattle.model.proofs.Trees.{child_blocks}
use Rattle.model.proofs.Agree.{agree, agree_away, cell_away, occ_children, occ_child, agree_none}
use Rattle.model.proofs.Shown.{Same, words_pos, file_live, leaf_of, root_block_law}
use Rattle.model.proofs.Accepting.{FileOn, Ranged, facts}
use Rattle.model.proofs.Linked.{same_shows}
use Rattle.model.proofs.Ranges.{file_range}
use Rattle.model.proofs.Census.{FreeBlock, member_free}
use Rattle.model.proofs.Visible.{Unseen, frame_same, unseen_same}
use Rattle.model.proofs.Apart.{spot_unseen, tree_not_inode_of}

-- ---- tests

dead_zero : (n : ℕ) → T (not (live n)) → n ≡ 0
unfolding live
dead_zero zero t = refl
dead_zero (suc n) t = absurd t

kept_byte : (n j x w i : ℕ) → i < 8 → 8 * j + i < n → T (keeps_bytes n j x w) → byte_of w i ≡ byte_of x i
unfolding keeps_bytes
kept_byte n j x w i l v t = elim (or_cases (leb n (8 * j + i)) (eqb (byte_of w i) (byte_of x i)) (every_of 8 _ t i l)) [
  | inl past ↦ absurd (omega (arith, leb→le n (8 * j + i) past))
  | inr same ↦ eqb→eq (byte_of w i) (byte_of x i) same
]

-- ---- trees

module _ (W : ℕ) (pos : 0 < W) (b : List ℕ) (s : Store) where
  -- the store at a live pointer block: at one of its pointers, which is not live, or further down
  hidden_cases : (h k n : ℕ) → T (hidden_under W b s (suc h) (suc k) (suc n))
      → ((s.at / W ≡ suc k) × (suc n ≤ s.at % W * span W h)) ⊎ ((j : ℕ) × (j < W) × T (hidden_under W b s h (cell W b (suc k) j / W) (suc n - j * span W h)))
  unfolding hidden_under
  hidden_cases h k n t =
      let m : ℕ = suc n - s.at % W * span W h in
      let here : Bool = eqb (s.at / W) (suc k) in
      let further : ℕ → Bool = λ j. hidden_under W b s h (cell W b (suc k) j / W) (suc n - j * span W h) in
      elim (or_cases (here && not (live m)) (some W further) t) [
        | inl u ↦ inl (eqb→eq (s.at / W) (suc k) (and_left here (not (live m)) u), omega (arith, dead_zero m (and_right here (not (live m)) u)))
        | inr u ↦ inr (some_of W further u)
      ]

  data_live : (k n : ℕ) → s.at / W ≡ suc k → 0 < occ (s.at / W) (blocks W b zero (suc k) (suc n))
  unfolding blocks occ
  data_live k n e = omega (arith, ap (one (s.at / W)) e, one_same (s.at / W))

  -- it goes to one of the tree's blocks
  pub hidden_under_inside : (h k n : ℕ) → T (hidden_under W b s h k n) → 0 < occ (s.at / W) (blocks W b h k n)
  unfolding hidden_under
  hidden_under_inside zero zero n t = absurd t
  hidden_under_inside zero (suc k) zero t = absurd t
  hidden_under_inside zero (suc k) (suc n) t = data_live k n (eqb→eq (s.at / W) (suc k) (and_left (eqb (s.at / W) (suc k)) _ t))
  hidden_under_inside (suc h) zero n t = absurd t
  hidden_under_inside (suc h) (suc k) zero t = absurd t
  hidden_under_inside (suc h) (suc k) (suc n) t = elim (hidden_cases h k n t) [
    | inl here ↦ omega (arith, occ_children W pos b h k (suc n) (omega arith) (s.at / W), ap (one (s.at / W)) here.0, one_same (s.at / W))
    | inr c ↦ omega (arith, occ_child W pos b h k (suc n) (omega arith) (s.at / W) c.0 c.1, hidden_under_inside h (cell W b (suc k) c.0 / W) (suc n - c.0 * span W h) c.2)
  ]

  -- a byte of a data block, below the size
  data_byte : (k n i : ℕ) → i < 8 * W → i < n → T (keeps_bytes n (s.at % W) (get_or b s.at 0) s.value)
      → byte_of (cell W b k (i / 8)) (i % 8) ≡ byte_of (cell W (set b s.at s.value) k (i / 8)) (i % 8)
  unfolding cell
  data_byte k n i l v t = elim (decide (W * k + i / 8) s.at) [
    | inl e ↦ rw e (elim (split (length b) s.at) [
      | inl out ↦ rw (set_out b s.at s.value out)
      | inr on ↦
          let place : s.at % W ≡ i / 8 = ap (λ (x : ℕ). x % W) (sym e) ∙ address_place W k (i / 8) (omega arith) in
          rw (get_or-set_same b s.at s.value 0 on) (sym (kept_byte n (s.at % W) (get_or b s.at 0) s.value (i % 8) (omega arith) (omega (arith, place)) t))
    ])
    | inr d ↦ rw (get_or-set_other b s.at (W * k + i / 8) s.value 0 d)
  ]

  -- a pointer that is not live, in a block that is reached once
  own_dark : (h k n : ℕ) → ((x : ℕ) → occ x (blocks W b (suc h) (suc k) (suc n)) ≤ 1) → s.at / W ≡ suc k → suc n ≤ s.at % W * span W h
      → agree W b (set b s.at s.value) (suc h) (suc k) (suc n)
  unfolding agree link cell
  own_dark h k n once e dead = λ j l v. (
    sym (get_or-set_other b s.at (W * suc k + j) s.value 0 (λ x. omega (arith, dead, v, ap (λ (y : ℕ). y * span W h) (sym (address_place W (suc k) j l) ∙ ap (λ (y : ℕ). y % W) x)))),
    agree_away W pos b s.at s.value h (cell W b (suc k) j / W) (suc n - j * span W h)
        (omega (arith, once (s.at / W), occ_child W pos b h k (suc n) (omega arith) (s.at / W) j l, ap (one (s.at / W)) e, one_same (s.at / W))),
  )

  -- and alters nothing that is visible of it
  pub hidden_under_dark : (h k n : ℕ) → ((x : ℕ) → occ x (blocks W b h k n) ≤ 1) → T (hidden_under W b s h k n) → agree W b (set b s.at s.value) h k n
  unfolding hidden_under agree link
  hidden_under_dark zero zero n once t = absurd t
  hidden_under_dark zero (suc k) zero once t = absurd t
  hidden_under_dark zero (suc k) (suc n) once t = λ i l v.
      data_byte (suc k) (suc n) i l v (and_right (eqb (s.at / W) (suc k)) (keeps_bytes (suc n) (s.at % W) (get_or b s.at 0) s.value) t)
  hidden_under_dark (suc h) zero n once t = absurd t
  hidden_under_dark (suc h) (suc k) zero once t = absurd t
  hidden_under_dark (suc h) (suc k) (suc n) once t = elim (hidden_cases h k n t) [
    | inl here ↦ own_dark h k n once here.0 here.1
    | inr c ↦
        let m : ℕ = suc n - c.0 * span W h in
        let inside : 0 < occ (s.at / W) (child_blocks W b h (suc k) (suc n) c.0) = hidden_under_inside h (cell W b (suc k) c.0 / W) m c.2 in
        let dark : agree W b (set b s.at s.value) h (cell W b (suc k) c.0 / W) m =
        hidden_under_dark h (cell W b (suc k) c.0 / W) m (λ x. omega (arith, once x, occ_child W pos b h k (suc n) (omega arith) x c.0 c.1)) c.2 in
        λ j l v. (
          sym (cell_away W pos b s.at s.value (suc k) j l (λ e. omega (arith, once (s.at / W), occ_child W pos b h k (suc n) (omega arith) (s.at / W) c.0 c.1, inside, ap (one (s.at / W)) e, one_same (s.at / W)))),
          elim (decide j c.0) [
            | inl e ↦ subst (λ (i : ℕ). agree W b (set b s.at s.value) h (cell W b (suc k) i / W) (suc n - i * span W h)) (sym e) dark
            | inr d ↦ agree_away W pos b s.at s.value h (cell W b (suc k) j / W) (suc n - j * span W h)
                (omega (arith, once (s.at / W), occ_children W pos b h k (suc n) (omega arith) (s.at / W), inside, sum_two W (λ i. occ (s.at / W) (child_blocks W b h (suc k) (suc n) i)) j c.0 l c.1 d))
          ],
        )
  ]

-- ---- boards

-- *to a free block*, *to the root of a file of size 0*, or in a file's tree
data Place (g : Layout) (b : List ℕ) (s : Store) : Type 0 where
  free_block : FreeBlock g b (s.at / g.words) → Place g b s
  empty_root : (f : ℕ) → f < files g → s.at ≡ root_address g b f → size g b f ≡ 0 → Place g b s
  in_tree : (f : ℕ) → f < files g → T (hidden_under g.words b s (root_height g b f) (root_block g b f) (size g b f)) → Place g b s

hidden_place : (g : Layout) (b : List ℕ) (s : Store) → T (hidden g b s) → Place g b s
unfolding hidden hidden_in_file
hidden_place g b s t =
    let in-free : Bool = member (s.at / g.words) (free g b) in
    elim (or_cases in-free (some (files g) (hidden_in_file g b s)) t) [
      | inl u ↦ free_block (member_free g b (s.at / g.words) (is_true in-free u))
      | inr u ↦
          let c = some_of (files g) (hidden_in_file g b s) u in
          let f : ℕ = c.0 in
          let here : Bool = eqb s.at (root_address g b f) in
          let empty : Bool = eqb (size g b f) 0 in
          elim (or_cases (here && empty) (hidden_under g.words b s (root_height g b f) (root_block g b f) (size g b f)) c.2) [
            | inl r ↦ empty_root f c.1 (eqb→eq s.at (root_address g b f) (and_left here empty r)) (eqb→eq (size g b f) 0 (and_right here empty r))
            | inr r ↦ in_tree f c.1 r
          ]
    ]

free_same : (g : Layout) → Fits g → (b : List ℕ) (s : Store) → FreeBlock g b (s.at / g.words) → Unseen g b s
free_same g fit b s e = frame_same g fit b (set b s.at s.value) (sym (length-set b s.at s.value)) (λ k c j l.
    sym (cell_away g.words (words_pos g fit) b s.at s.value k j l (λ same. elim c [
      | inl top ↦ omega (arith, e.1, top, same)
      | inr o ↦ omega (arith, o, e.2, ap (λ (x : ℕ). occ x (live_blocks g b)) same)
    ])))

module _ {g : Layout} {b : List ℕ} {f : ℕ} (on : FileOn g b f) (s : Store) where
  open on use {fit, board, file}

  pos : 0 < g.words
  pos = words_pos g fit

  empty_root_same : s.at ≡ root_address g b f → size g b f ≡ 0 → Unseen g b s
  unfolding size_address
  empty_root_same e z = spot_unseen on s.at s.value (inl (inl e)) (λ x. omega (arith, x, e)) (λ live. absurd (omega arith)) (agree_none g.words pos b (set b s.at s.value) _ _ (size g b f) z)

  module _ (t : T (hidden_under g.words b s (root_height g b f) (root_block g b f) (size g b f))) where
    under_inside : 0 < occ (s.at / g.words) (file_blocks g b f)
    unfolding file_blocks root_blocks
    under_inside = hidden_under_inside g.words pos b s (root_height g b f) (root_block g b f) (size g b f) t

    tree_dark : agree g.words b (set b s.at s.value) (root_height g b f) (root_block g b f) (size g b f)
    unfolding file_blocks root_blocks
    tree_dark = hidden_under_dark g.words pos b s (root_height g b f) (root_block g b f) (size g b f) (λ x. omega (arith, (facts g fit b board).once x, file_live g b f x file)) t

    in_tree_same : Unseen g b s
    unfolding size_address
    in_tree_same = spot_unseen on s.at s.value (inr under_inside) (λ x. tree_not_inode_of on s.at under_inside f 1 file (omega arith) (sym x))
        (λ live x. tree_not_inode_of on s.at under_inside f 0 file (omega arith) (add-zero (root_address g b f) ∙ sym x)) tree_dark

module _ (g : Layout) (fit : Fits g) (b : List ℕ) (t : T (accepted g b)) where
  on : {f : ℕ} → f < files g → FileOn g b f
  on u = record { fit = fit; board = t; file = u }

  -- a hidden store alters nothing visible
  pub hidden_same : (s : Store) → T (hidden g b s) → Same g b (set b s.at s.value)
  hidden_same s u = elim (hidden_place g b s u) [
    | free_block e ↦ free_same g fit b s e
    | empty_root f h e z ↦ empty_root_same (on h) s e z
    | in_tree f h i ↦ in_tree_same (on h) s i
  ]

  -- and goes to a block of 1 to B − 2
  pub hidden_in_range : (s : Store) → T (hidden g b s) → Ranged g b (s.at / g.words)
  hidden_in_range s u = elim (hidden_place g b s u) [
    | free_block e ↦ (e.0, e.1)
    | empty_root f h e z ↦ rw (e, root_block_law g fit b f) ((facts g fit b t).pointers.leaf_in_law (f / g.inodes) (leaf_of g fit f h))
    | in_tree f h i ↦ file_range g fit b (facts g fit b t) f (s.at / g.words) h (under_inside (on h) s i)
  ]

  hidden_unseen : (ss : List Store) → T (all (hidden g b) ss) → All (Unseen g b) ss
  unfolding all All
  hidden_unseen [] u = tt
  hidden_unseen (s ∷ ss) u = (hidden_same s (and_left (hidden g b s) (all (hidden g b) ss) u), hidden_unseen ss (and_right (hidden g b s) (all (hidden g b) ss) u))

  -- stores each hidden on b, performed one after the other
  pub hidden_all_same : (ss : List Store) → T (all (hidden g b) ss) → Same g b (performed b ss)
  hidden_all_same ss u = unseen_same g fit b ss (hidden_unseen ss u)

  -- and any choice of them
  pub choice_same : (ss : List Store) → T (all (hidden g b) ss) → (arrived : ℕ → Bool) → Same g b (performed b (chosen arrived ss))
  choice_same ss u arrived = unseen_same g fit b (chosen arrived ss) (all_chosen (Unseen g b) arrived ss (hidden_unseen ss u))

pub hidden_rule : HiddenRule
hidden_rule g fit b t ss u arrived = same_shows g fit b (performed b (chosen arrived ss)) t (choice_same g fit b t ss u arrived)
