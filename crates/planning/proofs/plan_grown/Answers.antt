use mathlib.Core.Path.{◌≡◌, sym, ◌∙◌}
use mathlib.Core.Bool.{true, false}
use Prim.Native.Nat.{◌+◌, ◌-◌, ◌*◌, ◌^◌, ◌≤◌, ◌<◌}
use native.Mathlib.Omega.{arith}
use native.Mathlib.Nat.{mul-le-mul}
use lib.ListN.{length}
use Rattle.model.specs.Layout.{layout_of}
use Rattle.model.specs.Change.{growing}
use Rattle.words.proofs.Widths as Widths
use Rattle.kinds.proofs.Figures.{small_sizes}
use Rattle.planning.proofs.Grown as Grown
use Rattle.planning.proofs.plan_grown.Goals as goal

-- Where the tree grows, its levels, a barrier and what follows are laid one after another; what follows is planned on the grown board.

-- ---- The tree does not grow

pub returns-then-not-grows : goal.returns-then-not-grows
returns-then-not-grows g c =
    let stays : let a = c.args in growing (layout_of g.L.Layout.kind) a.target.inode (a.target.offset + length a.new.now) ≡ false = sym c.grows.ensures ∙ c.if-not-grows.true in
    let b = c.args.board.now in
    let small : length b < 2 ^ 64 = omega arith in
    Grown.still_laid c.requires.0 c.requires.1 stays c.not_grown.ensures b small c.way.ensures

-- ---- It grows

pub returns : goal.returns
returns g c =
    let grows : let a = c.args in growing (layout_of g.L.Layout.kind) a.target.inode (a.target.offset + length a.new.now) ≡ true = sym c.grows.ensures ∙ c.if-not-grows.false in
    let counted : Grown.GrowthCount (2 ^ g.L.BlockSize.BITS) c.grow-count.result = Grown.counted c.requires.0 c.requires.1 grows c.least_height-h.ensures c.grow-count.ensures in
    let next : let r = c.grow-count.result in r.pairs + 1 - c.start_of.result + 2 ^ g.L.BlockSize.BITS * r.taken ≡ r.pairs + 1 = omega (arith, counted.stores, c.start_of.ensures) in
    Grown.grown_laid c.requires.0 c.requires.1 grows c.least_height-h.ensures c.grown_root-root.ensures c.block_of.ensures (omega (arith, c.well_formed)) c.grow-count.ensures
    c.args.board.now _ c.barrier.ensures next c.way-2.ensures

pub overflow_add-e : goal.overflow_add-e
overflow_add-e g c = omega (arith, c.requires.1.end, small_sizes g.L.Layout.kind)

pub way-requires : goal.way-requires
way-requires g c =
    let stays : let a = c.args in growing (layout_of g.L.Layout.kind) a.target.inode (a.target.offset + length a.new.now) ≡ false = sym c.grows.ensures ∙ c.if-not-grows.true in
    Grown.still_ready c.requires.0 c.requires.1 stays c.not_grown.ensures

pub grow-count-requires : goal.grow-count-requires
grow-count-requires g c =
    let grows : let a = c.args in growing (layout_of g.L.Layout.kind) a.target.inode (a.target.offset + length a.new.now) ≡ true = sym c.grows.ensures ∙ c.if-not-grows.false in
    Grown.may_grow c.requires.0 c.requires.1 grows c.least_height-h.ensures

pub overflow_add-base : goal.overflow_add-base
overflow_add-base g c =
    let grows : let a = c.args in growing (layout_of g.L.Layout.kind) a.target.inode (a.target.offset + length a.new.now) ≡ true = sym c.grows.ensures ∙ c.if-not-grows.false in
    let counted : Grown.GrowthCount (2 ^ g.L.BlockSize.BITS) c.grow-count.result = Grown.counted c.requires.0 c.requires.1 grows c.least_height-h.ensures c.grow-count.ensures in
    let places : 2 ^ g.L.BlockSize.BITS * c.grow-count.result.taken ≤ 512 * 3 = mul-le-mul (Widths.most c.requires.0.wide.width) counted.few in
    omega (arith, counted.most, places)

pub start_of-requires : goal.start_of-requires
start_of-requires g c =
    let grows : let a = c.args in growing (layout_of g.L.Layout.kind) a.target.inode (a.target.offset + length a.new.now) ≡ true = sym c.grows.ensures ∙ c.if-not-grows.false in
    let counted : Grown.GrowthCount (2 ^ g.L.BlockSize.BITS) c.grow-count.result = Grown.counted c.requires.0 c.requires.1 grows c.least_height-h.ensures c.grow-count.ensures in
    let places : 2 ^ g.L.BlockSize.BITS * c.grow-count.result.taken ≤ 512 * 3 = mul-le-mul (Widths.most c.requires.0.wide.width) counted.few in
    omega (arith, places)

pub overflow_sub-base : goal.overflow_sub-base
overflow_sub-base g c =
    let grows : let a = c.args in growing (layout_of g.L.Layout.kind) a.target.inode (a.target.offset + length a.new.now) ≡ true = sym c.grows.ensures ∙ c.if-not-grows.false in
    let counted : Grown.GrowthCount (2 ^ g.L.BlockSize.BITS) c.grow-count.result = Grown.counted c.requires.0 c.requires.1 grows c.least_height-h.ensures c.grow-count.ensures in
    omega (arith, counted.stores, c.start_of.ensures)

pub grown_root-root-requires : goal.grown_root-root-requires
grown_root-root-requires g c =
    let grows : let a = c.args in growing (layout_of g.L.Layout.kind) a.target.inode (a.target.offset + length a.new.now) ≡ true = sym c.grows.ensures ∙ c.if-not-grows.false in
    Grown.may_hook c.requires.0 c.requires.1 grows c.least_height-h.ensures

pub way-requires-2 : goal.way-requires-2
way-requires-2 g c =
    let grows : let a = c.args in growing (layout_of g.L.Layout.kind) a.target.inode (a.target.offset + length a.new.now) ≡ true = sym c.grows.ensures ∙ c.if-not-grows.false in
    let counted : Grown.GrowthCount (2 ^ g.L.BlockSize.BITS) c.grow-count.result = Grown.counted c.requires.0 c.requires.1 grows c.least_height-h.ensures c.grow-count.ensures in
    let places : 2 ^ g.L.BlockSize.BITS * c.grow-count.result.taken ≤ 512 * 3 = mul-le-mul (Widths.most c.requires.0.wide.width) counted.few in
    let next : let r = c.grow-count.result in r.pairs + 1 - c.start_of.result + 2 ^ g.L.BlockSize.BITS * r.taken ≡ r.pairs + 1 = omega (arith, counted.stores, c.start_of.ensures) in
    Grown.grown_ready c.requires.0 c.requires.1 grows c.least_height-h.ensures c.grown_root-root.ensures c.block_of.ensures (omega (arith, c.well_formed)) c.grow-count.ensures
    (omega (arith, next, counted.most, places))
