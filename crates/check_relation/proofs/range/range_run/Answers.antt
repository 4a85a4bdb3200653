-- `check_relation::range::range_run` looks at each range once, up to the first that holds y. Invariant: none so far does, and none begins before `next`.
use Rattle.check_relation.proofs.Sweeping.{sweep_start, sweep_more, sweep_in, sweep_out}
use borrow.Author.Rules.{rules}
use Rattle.check_relation.proofs.range.range_run.Goals as goal

pub loop-k-init : goal.loop-k-init
loop-k-init c = let a = c.args in sweep_start a.pack.now.low a.pack.now.high a.from a.to a.y c.requires.1

pub returns-then-in_range-clause-alike : goal.returns-then-in_range-clause-alike
returns-then-in_range-clause-alike c = let a = c.args in let l = c.loop-k in sweep_in a.pack.now.low a.pack.now.high a.from a.to a.y l.next l.k _ c.in_range.result c.loop-k-test.true l.invariant (search rules) c.if-in_range.true (search rules)

pub returns-then-in_range-clause-near : goal.returns-then-in_range-clause-near
returns-then-in_range-clause-near c = let a = c.args in let l = c.loop-k in c.behind.ensures.1

pub loop-k-preserved : goal.loop-k-preserved
loop-k-preserved c = let a = c.args in let l = c.loop-k in sweep_more a.pack.now.low a.pack.now.high a.from a.to a.y l.next l.k c.next_with-next.result c.in_range.result c.loop-k-test.true l.invariant (search rules) c.if-in_range.false (search rules)

pub returns-clause-alike : goal.returns-clause-alike
returns-clause-alike c = let a = c.args in let l = c.loop-k in sweep_out a.pack.now.low a.pack.now.high a.from a.to a.y l.next l.k c.loop-k-test.false l.invariant

pub returns-clause-near : goal.returns-clause-near
returns-clause-near c = let a = c.args in let l = c.loop-k in l.invariant.near
