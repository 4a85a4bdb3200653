-- `check_clauses::floors::fill` puts in those of each clause in turn. Invariant: the arrays hold floors.
use Rattle.pack_rules.specs.Stretch.{table_of}
use Rattle.check_laws.specs.Floors.{Floored}
use Rattle.check_clauses.proofs.floors.fill.Given as goal

abbrev pub invariant-loop-j : goal.invariant-loop-j
invariant-loop-j l =
    Floored (table_of l.pack) l.pack.relations l.floors.whole l.floors.part l.floors.tail
