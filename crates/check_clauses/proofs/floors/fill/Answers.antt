-- `check_clauses::floors::fill` puts in those of each clause in turn. Invariant: the arrays hold floors.
use Rattle.pack_rules.specs.Stretch.{table_of}
use Rattle.check_laws.proofs.Flooring.{floored_set}
use Rattle.check_clauses.proofs.floors.fill.Goals as goal

pub loop-j-preserved : goal.loop-j-preserved
loop-j-preserved c =
    let a = c.args in
    let l = c.loop-j in
    floored_set (table_of a.pack.now) a.pack.now.relations l.floors.whole l.floors.part l.floors.tail c.clause_floors-l.result l.j l.invariant c.clause_floors-l.ensures
