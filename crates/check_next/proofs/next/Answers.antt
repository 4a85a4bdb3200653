-- `check_next::next` climbs from level to level. Invariant: y is the next number of the levels below i.
use native.Mathlib.Omega.{arith}
use Rattle.check_next.proofs.Tabling.{nexting_start, nexting_power, nexting_room, nexting_more, nexting_done}
use Rattle.check_next.proofs.next.Goals as goal

pub loop-i-init : goal.loop-i-init
loop-i-init c =
    let a = c.args in
    nexting_start a.table.now.starts a.table.now.ends a.table.now.at c.args.j c.args.x

pub bounds-table-i : goal.bounds-table-i
bounds-table-i c =
    let a = c.args in
    let p = c.requires in
    let l = c.loop-i in
    omega (arith, nexting_room a.table.now.starts a.table.now.ends a.table.now.at p.0 l.invariant (omega arith))

pub bounds-table-i-in-loop-i : goal.bounds-table-i-in-loop-i
bounds-table-i-in-loop-i c =
    let a = c.args in
    let p = c.requires in
    let l = c.loop-i in
    omega (arith, nexting_room a.table.now.starts a.table.now.ends a.table.now.at p.0 l.invariant (omega arith))

pub climb-y-requires : goal.climb-y-requires
climb-y-requires c =
    let a = c.args in
    let p = c.requires in
    let l = c.loop-i in
    let w = nexting_power a.table.now.starts a.table.now.ends a.table.now.at p.0 l.invariant (omega arith) in
    ((nexting_room a.table.now.starts a.table.now.ends a.table.now.at p.0 l.invariant (omega arith)).1, w.0, w.1, p.1, p.0.low, p.0.high)

pub overflow_mul-m : goal.overflow_mul-m
overflow_mul-m c =
    let a = c.args in
    let p = c.requires in
    let l = c.loop-i in
    omega (arith, nexting_power a.table.now.starts a.table.now.ends a.table.now.at p.0 l.invariant (omega (arith, c.loop-i-test.true)))

pub loop-i-preserved : goal.loop-i-preserved
loop-i-preserved c =
    let a = c.args in
    let p = c.requires in
    let l = c.loop-i in
    nexting_more a.table.now.starts a.table.now.ends a.table.now.at p.0 l.invariant (omega (arith, c.loop-i-test.true)) c.climb-y.result c.climb-y.ensures

pub returns : goal.returns
returns c =
    let a = c.args in
    let l = c.loop-i in
    nexting_done a.table.now.starts a.table.now.ends a.table.now.at l.invariant (omega (arith, c.loop-i-test.false))
