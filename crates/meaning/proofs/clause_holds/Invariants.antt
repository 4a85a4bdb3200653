-- `meaning::clause_holds` tests a stretch of relations. The invariant: what is left decides as the whole does.
use mathlib.Core.Path.{◌≡◌}
use Rattle.pack_rules.specs.Stretch.{table_of, relations_in}
use Rattle.meaning.specs.Meaning.{clause_holds}
use Rattle.meaning.proofs.clause_holds.Given as goal

abbrev pub invariant-loop-j : goal.invariant-loop-j
invariant-loop-j l =
    clause_holds (relations_in (table_of l.pack) l.j l.to) l.x ≡ clause_holds (relations_in (table_of l.pack) l.from l.to) l.x
