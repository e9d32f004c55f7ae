use mathlib.Core.Path.{◌≡◌, sym, ap, ◌∙◌}
use mathlib.Core.Logic.{◌≢◌}
use Prim.Native.Nat.{ℕ, ◌+◌, ◌-◌, ◌^◌, ◌<◌}
use native.Mathlib.Nat.{mul-le-mul}
use native.Mathlib.Omega.{arith}
use Rattle.model.specs.InPlace.{tail_need, tail_before}
use Rattle.trees.specs.Trees.{Reach}
use Rattle.trees.proofs.Reaching.{lower, two}
use Rattle.taking.specs.Taking.{TreeCount}
use Rattle.taking.proofs.WholeTrees.{whole_small}
use Rattle.taking.proofs.Tails as Tails
use Rattle.taking.proofs.Ends as Ends
use Rattle.tails.proofs.Room.{tail_most}
use Rattle.tails.proofs.+tail_need.Goals as goal

-- The measure is the height; the loop has counted what is taken under the children before j.

-- it is at most as many as a whole tree has
needed : {bits h r : ℕ} (n l : ℕ) → Reach bits h → r ≡ tail_need (2 ^ bits) h n l → TreeCount (2 ^ bits) h (tail_need (2 ^ bits) h n l) r
needed {bits} {h} n l reach e = record { is = e; most = omega (arith, e, tail_most (2 ^ bits) h n l, whole_small (2 ^ bits) (two reach) h) }

pub returns-then-l-eq0 : goal.returns-then-l-eq0
returns-then-l-eq0 g t c = needed c.args.n c.args.l c.requires (sym (Tails.need_empty (2 ^ g.B.BlockSize.BITS) c.args.h c.args.n c.args.l c.if-l-eq0.true))

pub returns-then-n-eq0 : goal.returns-then-n-eq0
returns-then-n-eq0 g t c = needed c.args.n c.args.l c.requires (c.tree_need.ensures.is ∙ sym (Tails.need_dead (2 ^ g.B.BlockSize.BITS) c.args.h c.args.n c.args.l c.if-n-eq0.true))

pub returns-then-h-eq0 : goal.returns-then-h-eq0
returns-then-h-eq0 g t c = needed c.args.n c.args.l c.requires (sym (Tails.need_data (2 ^ g.B.BlockSize.BITS) c.args.h c.args.n c.args.l c.if-h-eq0.true c.if-n-eq0.false))

pub loop-j-init : goal.loop-j-init
loop-j-init g t c = let a = c.args in let W : ℕ = 2 ^ g.B.BlockSize.BITS in
    Ends.begin (λ i. 0 ≡ tail_before W (a.h - 1) a.n a.l i) a.l (λ i e p. p ∙ Tails.before_skip W (a.h - 1) a.n a.l i c.span-s.ensures.is e) c.width-w.result (Tails.before_start _ _ _ _)

-- all that is taken is a word
small : {b h count : ℕ} (n l j m : ℕ) → Reach b h → h ≢ 0 → n ≢ 0 → j < 2 ^ b → count ≡ tail_before (2 ^ b) (h - 1) n l j
    → tail_before (2 ^ b) (h - 1) n l j + m ≡ tail_before (2 ^ b) (h - 1) n l (j + 1) → count + m < 134217728
small {b} {h} n l j m reach high live less counted next = omega (
  arith,
  counted,
  next,
  Tails.before_within (2 ^ b) (h - 1) n l j less,
  Tails.need_tree (2 ^ b) h n l high live,
  tail_most (2 ^ b) h n l,
  whole_small (2 ^ b) (two reach) h,
  reach.spans,
)

pub loop-j-preserved : goal.loop-j-preserved
loop-j-preserved g t c =
    let a = c.args in
    let next = Tails.before_more (2 ^ g.B.BlockSize.BITS) (a.h - 1) a.n a.l c.loop-j.j c.span-s.ensures.is c.saturating_sub.ensures c.part_length-own.ensures c.tail_need-count.ensures.is in
    Ends.next c.loop-j.invariant c.loop-j-test.true (rw (Ends.here c.loop-j.invariant c.loop-j-test.true) next)

-- what all children take is what the tree takes
tree : {b h w count : ℕ} (n l : ℕ) → Reach b h → h ≢ 0 → n ≢ 0 → w ≡ 2 ^ b → count ≡ tail_before (2 ^ b) (h - 1) n l w → TreeCount (2 ^ b) h (tail_need (2 ^ b) h n l) count
tree {b} {h} n l reach high live ew e = needed n l reach (e ∙ ap (tail_before (2 ^ b) (h - 1) n l) ew ∙ sym (Tails.need_tree (2 ^ b) h n l high live))

pub returns-then-own-eq0 : goal.returns-then-own-eq0
returns-then-own-eq0 g t c =
    let z = c.span-s.ensures in
    let a = c.args in
    tree a.n a.l c.requires c.if-h-eq0.false c.if-n-eq0.false c.width-w.ensures.is
    (Ends.over c.loop-j.invariant a.l (λ x e q. q ∙ Tails.before_skip (2 ^ g.B.BlockSize.BITS) (a.h - 1) a.n a.l x z.is e) (omega (arith, z.low)) c.loop-j-test.true (sym c.part_length-own.ensures ∙ c.if-own-eq0.true))

pub returns : goal.returns
returns g t c = tree c.args.n c.args.l c.requires c.if-h-eq0.false c.if-n-eq0.false c.width-w.ensures.is (Ends.done c.loop-j.invariant (omega arith))

pub span-s-requires : goal.span-s-requires
span-s-requires g t c = lower c.requires

pub overflow_add-count : goal.overflow_add-count
overflow_add-count g t c =
    let a = c.args in
    let less : c.loop-j.j < 2 ^ g.B.BlockSize.BITS = omega (arith, c.loop-j-test.true, c.width-w.ensures.is) in
    let next = Tails.before_more (2 ^ g.B.BlockSize.BITS) (a.h - 1) a.n a.l c.loop-j.j c.span-s.ensures.is c.saturating_sub.ensures c.part_length-own.ensures c.tail_need-count.ensures.is in
    omega (arith, small a.n a.l c.loop-j.j c.tail_need-count.result c.requires c.if-h-eq0.false c.if-n-eq0.false less (Ends.here c.loop-j.invariant c.loop-j-test.true) next)
