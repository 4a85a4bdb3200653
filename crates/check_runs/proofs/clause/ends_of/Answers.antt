-- `check_runs::clause::ends_of` asks the last digit, where it is asked.
use Rattle.check_runs.proofs.Keeping.{ends_digit, ends_any}
use Rattle.check_runs.proofs.clause.ends_of.Goals as goal

pub returns-then-q : goal.returns-then-q
returns-then-q c = ends_digit c.args.q c.args.x c.if-q.true

pub returns : goal.returns
returns c = ends_any c.args.q c.args.x c.if-q.false
