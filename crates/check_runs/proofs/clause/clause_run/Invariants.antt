-- `check_runs::clause::clause_run` joins the runs of its level's relations up to the first that says no. Invariant: those so far say yes; the runs kept are right.
use Rattle.pack_rules.specs.Stretch.{table_of}
use Rattle.check_runs.specs.Kept.{Kept}
use Rattle.check_runs.proofs.Keeping.{Agreed}
use Rattle.check_runs.proofs.clause.clause_run.Given as goal

abbrev pub invariant-loop-i : goal.invariant-loop-i
invariant-loop-i l =
    Agreed (table_of l.pack) l.s l.q l.list.level l.list.at l.p l.i l.end × Kept (table_of l.pack) l.s l.q l.list.level l.p l.runs.says l.runs.stop
