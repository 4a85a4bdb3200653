-- `check_relation::range::next_with`: only a range above y can be the next.
use Rattle.check_relation.proofs.Sweeping.{next_after, next_not}
use borrow.Author.Rules.{rules}
use Rattle.check_relation.proofs.range.next_with.Goals as goal

pub returns-then-y-start : goal.returns-then-y-start
returns-then-y-start c =
    let a = c.args in
    search (rules, next_after a.next a.a a.y (search rules))

pub returns-else-y-start : goal.returns-else-y-start
returns-else-y-start c = next_not c.args.next c.args.a c.args.y (search rules)
