use mathlib.Core.Path.{◌≡◌, refl, sym, ap, ◌∙◌}
use mathlib.Core.Logic.{◌≢◌}
use Prim.Native.Nat.{ℕ, ◌+◌, ◌-◌, ◌*◌, ◌^◌, ◌≤◌, ◌<◌}
use native.Mathlib.Omega.{arith}
use lib.ListN.{length}
use borrow.Author.Rules.{rules}
use Rattle.model.specs.Tree.{span}
use Rattle.model.specs.Fresh.{part_length}
use Rattle.model.specs.InPlace.{tail_need, tail_before}
use Rattle.words.proofs.Widths as Widths
use Rattle.trees.specs.declared.Tree.{Tree}
use Rattle.trees.proofs.Reaching.{lower}
use Rattle.plans.specs.Onto.{onto}
use Rattle.plans.proofs.Laying as Laying
use Rattle.taking.proofs.Tails as Tails
use Rattle.taking.proofs.Ends.{here, next, done}
use Rattle.tails.specs.Stores.{hooks, padded}
use Rattle.tails.proofs.Children as Children
use Rattle.tails.proofs.Padding as Padding
use Rattle.tails.proofs.+in_place.Goals as goal

-- The measure is the height; the loop has laid the stores under the children before j, and counted the blocks taken there.

-- what is taken under child j
taken_next : (W h n l j c : ℕ) {s left own m taken : ℕ} → taken ≡ c + tail_before W h n l j → s ≡ span W h → left ≡ n - j * s → own ≡ part_length s j n l → m ≡ tail_need W h left own
    → taken + m ≡ c + tail_before W h n l (j + 1)
taken_next W h n l j c ec es el eo em = omega (arith, ec, Tails.before_more W h n l j es el eo em)

-- it is among all that is taken
taken_small : (W h n l j c : ℕ) → j < W → h ≢ 0 → n ≢ 0 → c + tail_need W h n l ≤ 2 ^ 32 → c + tail_before W (h - 1) n l (j + 1) ≤ 2 ^ 32
taken_small W h n l j c less high live fits = omega (arith, fits, Tails.before_within W (h - 1) n l j less, Tails.need_tree W h n l high live)

pub returns-then-l-eq0 : goal.returns-then-l-eq0
returns-then-l-eq0 g t c = let a = c.args in
    Children.laid_empty (2 ^ g.B.BlockSize.BITS) (onto (2 ^ g.B.BlockSize.BITS) a.view.now.free.now a.view.now.board.now a.view.now.grown) (hooks (2 ^ g.B.BlockSize.BITS) a.view.now.free.now) a.end.tree.height a.end.tree.block a.end.tree.left (padded a.end.length a.new.now) a.end.taken a.end.at (Padding.length_padded a.new.now c.requires.2 ∙ c.if-l-eq0.true)

pub returns-then-n-eq0 : goal.returns-then-n-eq0
returns-then-n-eq0 g t c = let a = c.args in
    let long : length (padded a.end.length a.new.now) ≡ a.end.length = Padding.length_padded a.new.now c.requires.2 in
    Children.laid_hook (2 ^ g.B.BlockSize.BITS) (onto (2 ^ g.B.BlockSize.BITS) a.view.now.free.now a.view.now.board.now a.view.now.grown) (hooks (2 ^ g.B.BlockSize.BITS) a.view.now.free.now) a.end.tree.height a.end.tree.block a.end.tree.left (padded a.end.length a.new.now) a.end.taken a.end.at c.if-n-eq0.true (λ none. c.if-l-eq0.false (sym long ∙ none))
    (c.hook.ensures ∙ ap (λ (l : ℕ). hooks (2 ^ g.B.BlockSize.BITS) a.view.now.free.now a.end.tree.height l a.end.taken) (sym long)) c.pair.ensures

pub returns-then-k-eq0 : goal.returns-then-k-eq0
returns-then-k-eq0 g t c = let a = c.args in
    Children.laid_null (2 ^ g.B.BlockSize.BITS) (onto (2 ^ g.B.BlockSize.BITS) a.view.now.free.now a.view.now.board.now a.view.now.grown) (hooks (2 ^ g.B.BlockSize.BITS) a.view.now.free.now) a.end.tree.height a.end.tree.block a.end.tree.left (padded a.end.length a.new.now) a.end.taken a.end.at c.if-k-eq0.true c.if-n-eq0.false

-- the words of a live data block

pub returns-then-h-eq0 : goal.returns-then-h-eq0
returns-then-h-eq0 g t c = let a = c.args in
    let words = Padding.data_padded (2 ^ g.B.BlockSize.BITS) (onto (2 ^ g.B.BlockSize.BITS) a.view.now.free.now a.view.now.board.now a.view.now.grown) (hooks (2 ^ g.B.BlockSize.BITS) a.view.now.free.now) a.end.tree.height a.end.tree.block a.end.tree.left a.end.length a.new.now a.end.taken a.end.at c.requires.2 c.if-h-eq0.true c.if-k-eq0.false c.if-n-eq0.false in
    Laying.same_pairs words c.tail_words.ensures

pub loop-j-init : goal.loop-j-init
loop-j-init g t c = Padding.begin c.args.end.length c.args.new.now c.requires.2 c.span-s.ensures.is c.width-w.result

pub loop-j-preserved : goal.loop-j-preserved
loop-j-preserved g t c =
    let a = c.args in
    let size = c.span-s.ensures.is in
    let so = here c.loop-j.invariant c.loop-j-test.true in
    let address : c.start_of-to.result + c.loop-j.j ≡ 2 ^ g.B.BlockSize.BITS * a.end.tree.block + c.loop-j.j = ap (λ (x : ℕ). x + c.loop-j.j) c.start_of-to.ensures in
    next c.loop-j.invariant c.loop-j-test.true (record {
      count = taken_next (2 ^ g.B.BlockSize.BITS) (a.end.tree.height - 1) a.end.tree.left a.end.length c.loop-j.j a.end.taken so.count size (ap (λ (t : Tree). t.left) c.child.ensures) c.part_length-most.ensures c.tail_need-taken.ensures.is;
      stores = Padding.step a.end.length a.new.now c.requires.2 so.stores size c.part_length-most.ensures c.part-own.ensures c.cell-x.ensures c.child.ensures so.count address c.in_place-q.ensures;
    })

-- all children

pub returns-then-most-eq0 : goal.returns-then-most-eq0
returns-then-most-eq0 g t c = let a = c.args in
    let z = c.span-s.ensures in
    Children.laid_tree (2 ^ g.B.BlockSize.BITS) (onto (2 ^ g.B.BlockSize.BITS) a.view.now.free.now a.view.now.board.now a.view.now.grown) (hooks (2 ^ g.B.BlockSize.BITS) a.view.now.free.now) a.end.tree.height a.end.tree.block a.end.tree.left (padded a.end.length a.new.now) a.end.taken a.end.at c.if-h-eq0.false c.if-k-eq0.false c.if-n-eq0.false c.width-w.ensures.is
    (Padding.over a.end.length a.new.now c.requires.2 z.is c.loop-j.invariant (omega (arith, z.low)) c.loop-j-test.true c.part_length-most.ensures c.if-most-eq0.true)

pub returns : goal.returns
returns g t c = let a = c.args in
    Children.laid_tree (2 ^ g.B.BlockSize.BITS) (onto (2 ^ g.B.BlockSize.BITS) a.view.now.free.now a.view.now.board.now a.view.now.grown) (hooks (2 ^ g.B.BlockSize.BITS) a.view.now.free.now) a.end.tree.height a.end.tree.block a.end.tree.left (padded a.end.length a.new.now) a.end.taken a.end.at c.if-h-eq0.false c.if-k-eq0.false c.if-n-eq0.false c.width-w.ensures.is (done c.loop-j.invariant (omega arith)).stores

pub tail_words-requires : goal.tail_words-requires
tail_words-requires g t c = let a = c.args in
    let words = Padding.data_padded (2 ^ g.B.BlockSize.BITS) (onto (2 ^ g.B.BlockSize.BITS) a.view.now.free.now a.view.now.board.now a.view.now.grown) (hooks (2 ^ g.B.BlockSize.BITS) a.view.now.free.now) a.end.tree.height a.end.tree.block a.end.tree.left a.end.length a.new.now a.end.taken a.end.at c.requires.2 c.if-h-eq0.true c.if-k-eq0.false c.if-n-eq0.false in
    (c.requires.1, omega (arith, c.requires.4, ap length words))

pub span-s-requires : goal.span-s-requires
span-s-requires g t c = lower c.requires.0

pub in_place-q-requires : goal.in_place-q-requires
in_place-q-requires g t c =
    let a = c.args in
    let size = c.span-s.ensures.is in
    let so = here c.loop-j.invariant c.loop-j-test.true in
    let less : c.loop-j.j < 2 ^ g.B.BlockSize.BITS = omega (arith, c.loop-j-test.true, c.width-w.ensures.is) in
    let address : c.start_of-to.result + c.loop-j.j ≡ 2 ^ g.B.BlockSize.BITS * a.end.tree.block + c.loop-j.j = ap (λ (x : ℕ). x + c.loop-j.j) c.start_of-to.ensures in
    let next = taken_next (2 ^ g.B.BlockSize.BITS) (a.end.tree.height - 1) a.end.tree.left a.end.length c.loop-j.j a.end.taken so.count size refl c.part_length-most.ensures refl in
    let fits = taken_small (2 ^ g.B.BlockSize.BITS) a.end.tree.height a.end.tree.left a.end.length c.loop-j.j a.end.taken less c.if-h-eq0.false c.if-n-eq0.false c.requires.3 in
    let stores = Padding.room a.end.length a.new.now c.requires.2 so.stores size c.part_length-most.ensures c.part-own.ensures c.cell-x.ensures c.child.ensures so.count address less in
    let all = Children.tree_stores (2 ^ g.B.BlockSize.BITS) (onto (2 ^ g.B.BlockSize.BITS) a.view.now.free.now a.view.now.board.now a.view.now.grown) (hooks (2 ^ g.B.BlockSize.BITS) a.view.now.free.now) a.end.tree.height a.end.tree.block a.end.tree.left (padded a.end.length a.new.now) a.end.taken a.end.at c.if-h-eq0.false c.if-k-eq0.false c.if-n-eq0.false in λ κs l. (
      rw c.child.ensures (omega arith),
      (
        l,
        (
          rw c.child.ensures (lower c.requires.0),
          rw c.child.ensures (Widths.address_room c.requires.0.width c.cell-x.result (omega arith)),
          Padding.own_fits a.end.length a.new.now c.requires.2 so.stores size c.part_length-most.ensures c.part-own.ensures,
          rw c.child.ensures (omega (arith, next, fits)),
          omega (arith, c.requires.4, stores, ap length all),
        ),
      ),
    )

pub overflow_add-taken : goal.overflow_add-taken
overflow_add-taken g t c =
    let a = c.args in
    let so = here c.loop-j.invariant c.loop-j-test.true in
    let less : c.loop-j.j < 2 ^ g.B.BlockSize.BITS = omega (arith, c.loop-j-test.true, c.width-w.ensures.is) in
    let next = taken_next (2 ^ g.B.BlockSize.BITS) (a.end.tree.height - 1) a.end.tree.left a.end.length c.loop-j.j a.end.taken so.count c.span-s.ensures.is (ap (λ (t : Tree). t.left) c.child.ensures) c.part_length-most.ensures c.tail_need-taken.ensures.is in
    omega (arith, next, taken_small (2 ^ g.B.BlockSize.BITS) a.end.tree.height a.end.tree.left a.end.length c.loop-j.j a.end.taken less c.if-h-eq0.false c.if-n-eq0.false c.requires.3)
