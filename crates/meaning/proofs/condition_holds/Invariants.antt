-- `meaning::condition_holds` tests a stretch of clauses. The invariant: what is left decides as the whole does.
use mathlib.Core.Path.{◌≡◌}
use Rattle.pack_rules.specs.Stretch.{table_of, clauses_in}
use Rattle.meaning.specs.Meaning.{condition_holds}
use Rattle.meaning.proofs.condition_holds.Given as goal

abbrev pub invariant-loop-j : goal.invariant-loop-j
invariant-loop-j l =
    condition_holds (clauses_in (table_of l.pack) l.pack.relations l.j l.to) l.x ≡ condition_holds (clauses_in (table_of l.pack) l.pack.relations l.from l.to) l.x
