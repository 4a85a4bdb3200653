-- `check_table::level::build` adds the levels in turn. Invariant: those below j stand.
use Rattle.pack_rules.specs.Stretch.{table_of}
use Rattle.check_laws.specs.Read.{joined_in}
use Rattle.check_table.proofs.Building.{Building}
use Rattle.check_table.proofs.level.build.Given as goal

abbrev pub invariant-loop-j : goal.invariant-loop-j
invariant-loop-j l =
    Building l.q (joined_in (table_of l.pack) l.s) l.table.starts l.table.ends l.table.at l.j l.m
