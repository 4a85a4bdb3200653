-- `check_fraction::least_code` takes the least over the zeros at the end. Invariant: the best is that of fewer than k zeros.
use Rattle.pack_rules.specs.Stretch.{table_of}
use Rattle.check_laws.specs.Read.{joined_in}
use Rattle.check_laws.specs.Bounded.{bounded}
use native.Mathlib.Omega.{arith}
use Rattle.check_laws.proofs.Placing.{part_start, part_more, part_stop, part_end}
use borrow.Author.Rules.{rules}
use Rattle.check_fraction.proofs.least_code.Goals as goal

pub loop-k-init : goal.loop-k-init
loop-k-init c =
    let a = c.args in
    let T = table_of a.pack.now in
    let x = joined_in T a.s in
    let d = bounded a.b x in
    (omega arith, part_start d)

pub returns-then-best-k : goal.returns-then-best-k
returns-then-best-k c =
    let a = c.args in
    let T = table_of a.pack.now in
    let x = joined_in T a.s in
    let d = bounded a.b x in
    part_stop d c.loop-k.best c.loop-k.k c.loop-k.invariant.1 (search rules) (search rules)

pub loop-k-preserved : goal.loop-k-preserved
loop-k-preserved c =
    let a = c.args in
    let T = table_of a.pack.now in
    let x = joined_in T a.s in
    let d = bounded a.b x in
    (omega (arith, c.loop-k-test.true), part_more d c.loop-k.best c.tail_code.result c.min-best.result c.loop-k.k c.loop-k.invariant.1 c.tail_code.ensures c.min-best.ensures)

pub returns : goal.returns
returns c =
    let a = c.args in
    let T = table_of a.pack.now in
    let x = joined_in T a.s in
    let d = bounded a.b x in
    part_end d c.loop-k.best c.loop-k.k c.loop-k.invariant.1 (omega (arith, c.loop-k.invariant.0, c.loop-k-test.false))
