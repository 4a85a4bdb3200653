-- `check_next::climb::climb` is `climb` of the level's segments, or y where it has none.
use native.Mathlib.Omega.{arith}
use Prim.Native.Nat.{◌%◌}
use native.Mathlib.Nat.{mod-le}
use Rattle.check_next.proofs.Climbing.{climb_free, climb_made, wrap_small, up_to_small}
use Rattle.check_next.proofs.climb.climb.Goals as goal

pub returns-then-to-from : goal.returns-then-to-from
returns-then-to-from c =
    let a = c.args in
    climb_free a.table.now.starts a.table.now.ends a.from a.to a.m a.x a.y (omega arith)

pub overflow_sub-x : goal.overflow_sub-x
overflow_sub-x c =
    let a = c.args in
    omega (arith, mod-le a.x a.m)

pub overflow_sub-result : goal.overflow_sub-result
overflow_sub-result c =
    let a = c.args in
    omega (arith, mod-le a.x a.m)

pub overflow_add-result : goal.overflow_add-result
overflow_add-result c =
    let a = c.args in
    let p = c.requires in
    omega (arith, mod-le a.x a.m, p.3, wrap_small a.table.now.starts a.table.now.ends p.4 a.m p.2 a.from a.to c.up_to-o.result c.wrap_round.result (up_to_small a.table.now.starts a.table.now.ends p.4 a.m p.2 p.5 a.from a.to (a.x % a.m) c.saturating_sub.result c.up_to-o.result c.up_to-o.ensures) c.wrap_round.ensures)

pub returns : goal.returns
returns c =
    let a = c.args in
    climb_made a.table.now.starts a.table.now.ends a.from a.to a.m a.x a.y (omega arith) c.saturating_sub.result c.up_to-o.result c.wrap_round.result c.saturating_sub.ensures c.up_to-o.ensures c.wrap_round.ensures
