-- `check_least::search::try_each` tries the numbers in turn. Invariant: none before x passes.
use Rattle.pack_rules.specs.Stretch.{table_of}
use Rattle.check_laws.specs.Read.{joined_in}
use Rattle.check_laws.specs.Fast.{passes_all}
use Rattle.check_least.proofs.Searching.{Passed}
use Rattle.check_least.proofs.search.try_each.Given as goal

abbrev pub invariant-loop-x : goal.invariant-loop-x
invariant-loop-x l = Passed (passes_all l.q (joined_in (table_of l.pack) l.s)) l.lo l.x
