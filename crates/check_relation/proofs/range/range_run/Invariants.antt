-- `check_relation::range::range_run` looks at each range once, up to the first that holds y. Invariant: none so far does, and none begins before `next`.
use Rattle.check_relation.proofs.Sweeping.{Sweep}
use Rattle.check_relation.proofs.range.range_run.Given as goal

abbrev pub invariant-loop-k : goal.invariant-loop-k
invariant-loop-k l = Sweep l.pack.low l.pack.high l.from l.to l.y l.next l.k
