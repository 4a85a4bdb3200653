-- `check_runs::clause::place_of`: the first stretch, then the other.
use Rattle.check_runs.proofs.Keeping.{place_first, place_second}
use Rattle.check_runs.proofs.clause.place_of.Goals as goal

pub returns-then-k-n-clause-value : goal.returns-then-k-n-clause-value
returns-then-k-n-clause-value c =
    let a = c.args in place_first a.s a.k c.count-n.result c.count-n.ensures c.if-k-n.true

pub returns-clause-value : goal.returns-clause-value
returns-clause-value c =
    let a = c.args in place_second a.s a.k c.count-n.result c.count-n.ensures c.if-k-n.false
