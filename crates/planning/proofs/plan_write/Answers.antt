use mathlib.Core.Path.{refl}
use Prim.Native.Nat.{◌<◌}
use native.Mathlib.Omega.{arith}
use Rattle.kinds.proofs.Figures.{reach, small_sizes, height_low}
use Rattle.planning.specs.Asked.{Growable}
use Rattle.planning.proofs.Writes as Writes
use Rattle.planning.proofs.plan_write.Goals as goal

-- The lent board tells whether the write is a single word; any other is planned with growth.

pub returns-then-inode-e : goal.returns-then-inode-e
returns-then-inode-e g c = Writes.as_grown c.requires.1 c.lent_inode-inode.ensures (Writes.past_size c.lent_inode-inode.ensures _ _ c.if-inode-e.true) c.plan_grown.ensures

pub returns-then-o-e : goal.returns-then-o-e
returns-then-o-e g c = Writes.as_grown c.requires.1 c.lent_inode-inode.ensures (Writes.two_words _ _ _ _ _ (omega (arith, c.if-o-e.true))) c.plan_grown-then-o-e.ensures

pub returns-in_default : goal.returns-in_default
returns-in_default g c = Writes.as_grown c.requires.1 c.lent_inode-inode.ensures
    -- the bytes are in one word, and the walk to it tells; of a wrong test omega says where it fails
    (Writes.one_word c.lent_inode-inode.ensures _ _ c.if-inode-e.false (omega (arith, c.if-o-e.false)) (rw (← c.requires.0.wide.is) at c.root_walk.ensures) c.in_default.is) c.plan_grown-in_default.ensures

pub returns : goal.returns
returns g c = Writes.as_single c.requires.1 (Writes.one_word c.lent_inode-inode.ensures _ _ c.if-inode-e.false (omega (arith, c.if-o-e.false)) (rw (← c.requires.0.wide.is) at c.root_walk.ensures) c.in-Some.is) c.single.ensures

pub overflow_add-e : goal.overflow_add-e
overflow_add-e g c = omega (arith, c.requires.1.end, small_sizes g.L.Layout.kind)

pub plan_grown-requires : goal.plan_grown-requires
plan_grown-requires g c =
    let growable : let a = c.args in Growable g.L.Layout.kind c.lent_inode-inode.result a.request.offset a.new.now a.free.now = Writes.growable c.requires.1 c.lent_inode-inode.ensures in
    (c.requires.0, growable)

pub plan_grown-requires-then-o-e : goal.plan_grown-requires-then-o-e
plan_grown-requires-then-o-e g c =
    let growable : let a = c.args in Growable g.L.Layout.kind c.lent_inode-inode.result a.request.offset a.new.now a.free.now = Writes.growable c.requires.1 c.lent_inode-inode.ensures in
    (c.requires.0, growable)

-- the file is not empty, so its root's height is one of the kind's
pub root_walk-requires : goal.root_walk-requires
root_walk-requires g c =
    let growable : let a = c.args in Growable g.L.Layout.kind c.lent_inode-inode.result a.request.offset a.new.now a.free.now = Writes.growable c.requires.1 c.lent_inode-inode.ensures in
    let wide = c.requires.0.wide in
    let live : 0 < c.lent_inode-inode.result.size = omega (arith, c.if-inode-e.false, c.requires.1.some) in
    reach g.L.Layout.kind wide (height_low c.lent_inode-inode.result.root wide (growable.low live) refl)

pub plan_grown-requires-in_default : goal.plan_grown-requires-in_default
plan_grown-requires-in_default g c =
    let growable : let a = c.args in Growable g.L.Layout.kind c.lent_inode-inode.result a.request.offset a.new.now a.free.now = Writes.growable c.requires.1 c.lent_inode-inode.ensures in
    (c.requires.0, growable)

pub single-requires : goal.single-requires
single-requires g c = Writes.block_small _ c.requires.1.of c.lent_inode-inode.ensures (rw (← c.requires.0.wide.is) at c.root_walk.ensures) c.in-Some.is
