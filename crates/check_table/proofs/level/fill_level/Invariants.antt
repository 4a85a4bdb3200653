-- `check_table::level::fill_level` stores the segments that it finds. Invariant: they cover the numbers below p, and the levels below stand.
use mathlib.Core.Path.{◌≡◌}
use Prim.Native.Nat.{◌-◌}
use Rattle.pack_rules.specs.Stretch.{table_of}
use Rattle.check_laws.specs.Levels.{own, below}
use Rattle.check_laws.specs.Read.{joined_in}
use Rattle.check_runs.specs.Kept.{Kept}
use Rattle.check_table.proofs.Building.{Filling}
use Rattle.check_table.proofs.level.fill_level.Given as goal

abbrev pub invariant-loop-p : goal.invariant-loop-p
invariant-loop-p l =
    Filling (below l.q (joined_in (table_of l.pack) l.s)) (own l.q (joined_in (table_of l.pack) l.s) l.j) l.table.starts l.table.ends l.table.at l.j l.m l.n l.p × (l.table.at ≡ l.initial.table.at) × Kept (table_of l.pack) l.s l.q l.list.level l.p l.runs.says l.runs.stop

abbrev pub decreases-loop-p : goal.decreases-loop-p
decreases-loop-p l = l.m - l.p
