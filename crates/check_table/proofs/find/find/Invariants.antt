-- `check_table::find::find` looks on until a number is found. Invariant: none before p passes; the runs kept are right.
use Prim.Native.Nat.{◌≤◌, ◌-◌}
use Rattle.pack_rules.specs.Stretch.{table_of}
use Rattle.check_laws.specs.Levels.{own, below}
use Rattle.check_laws.specs.Read.{joined_in}
use Rattle.check_runs.specs.Kept.{Kept}
use Rattle.check_table.proofs.Finding.{NoneTo}
use Rattle.check_table.proofs.find.find.Given as goal

abbrev pub invariant-loop-p : goal.invariant-loop-p
invariant-loop-p l =
    let c = joined_in (table_of l.pack) l.s in
    (l.from ≤ l.p) × NoneTo (own l.q c l.list.level) (below l.q c l.j) l.from l.p × Kept (table_of l.pack) l.s l.q l.list.level l.p l.runs.says l.runs.stop

abbrev pub decreases-loop-p : goal.decreases-loop-p
decreases-loop-p l = l.end - l.p
