use mathlib.Core.Path.{◌∙◌}
use mathlib.Core.List.{map, map-append}
use Prim.Native.Nat.{◌^◌, ◌<◌}
use native.Mathlib.Omega.{arith}
use lib.ListN.{length, get_or}
use Rattle.std.proofs.lemmas.Iterator.Consumers.{YieldsList-end}
use Rattle.performing.proofs.Pairs.{pair_of, pairs_yielded}
use Rattle.performing.proofs.Performing.{stored_none, stored_more}
use Rattle.performing.proofs.store_all.Goals as goal

pub loop-pair-init : goal.loop-pair-init
loop-pair-init c = stored_none c.args.board.now

pub loop-pair-preserved : goal.loop-pair-preserved
loop-pair-preserved c =
    let x = c.in-Some.pair.now in
    let fits : length c.args.board.now < 2 ^ 64 = omega arith in
    rw map-append (stored_more c.args.board.now (map pair_of c.loop-pair.yielded) (get_or x 0 0) (get_or x 1 0) fits c.loop-pair.invariant c.put.ensures)

pub returns : goal.returns
returns c =
    let a = c.args in
    let road = pairs_yielded a.plan.now a.k {s = c.into_iter-pair-iterator.result} (cc) (cc) (cc) in
    c.loop-pair.invariant ∙ rw (YieldsList-end road c.loop-pair.yielded c.loop-pair.pair-iterator c.loop-pair.yielded_by _ c.next.new.self c.in-None.is c.next.ensures.steps).0
