-- `check_next::next` climbs from level to level. Invariant: y is the next number of the levels below i.
use Rattle.check_next.proofs.Tabling.{Nexting}
use Rattle.check_next.proofs.next.Given as goal

abbrev pub invariant-loop-i : goal.invariant-loop-i
invariant-loop-i l = Nexting l.table.starts l.table.ends l.table.at l.j l.x l.y l.m l.i
