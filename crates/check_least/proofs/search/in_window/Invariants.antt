-- `check_least::search::in_window` goes from run to run. Invariant: none before p passes; the runs kept are right.
use Prim.Native.Nat.{◌-◌}
use Rattle.pack_rules.specs.Stretch.{table_of}
use Rattle.check_laws.specs.Read.{joined_in}
use Rattle.check_laws.specs.Levels.{own, window}
use Rattle.check_runs.specs.Kept.{Kept}
use Rattle.check_least.proofs.Searching.{Passed}
use Rattle.check_least.proofs.search.in_window.Given as goal

abbrev pub invariant-loop-p : goal.invariant-loop-p
invariant-loop-p l =
    Passed (own l.q (joined_in (table_of l.pack) l.s) window) l.lo l.p × Kept (table_of l.pack) l.s l.q l.list.level l.p l.runs.says l.runs.stop

abbrev pub decreases-loop-p : goal.decreases-loop-p
decreases-loop-p l = l.hi - l.p
