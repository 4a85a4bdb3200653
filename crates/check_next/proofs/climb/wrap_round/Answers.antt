-- `check_next::climb::wrap_round` stays in the block, or takes the first remainder of the next one.
use native.Mathlib.Omega.{arith}
use Rattle.check_next.specs.Table.{segments_in}
use Rattle.check_next.proofs.Climbing.{wrap_in, wrap_out, start_small}
use Rattle.check_next.proofs.climb.wrap_round.Goals as goal

pub returns-then-o-m : goal.returns-then-o-m
returns-then-o-m c =
    let a = c.args in
    wrap_in (segments_in a.table.now.starts a.table.now.ends a.from a.to) a.m a.o (omega arith)

pub overflow_add-result : goal.overflow_add-result
overflow_add-result c =
    let a = c.args in
    let p = c.requires in
    omega (arith, start_small a.table.now.starts a.table.now.ends p.2 a.m p.1 a.from a.to c.start_from.result c.start_from.ensures)

pub returns : goal.returns
returns c =
    let a = c.args in
    wrap_out (segments_in a.table.now.starts a.table.now.ends a.from a.to) a.m a.o c.start_from.result (omega arith) c.start_from.ensures
