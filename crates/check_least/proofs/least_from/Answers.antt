-- `check_least::least_from`: nothing below the floor passes, so the search that starts there finds the same.
use Rattle.pack_rules.specs.Stretch.{table_of}
use Rattle.check_laws.proofs.Flooring.{least_from, least_past}
use borrow.Author.Rules.{rules}
use Rattle.check_least.proofs.least_from.Goals as goal

pub returns-then-hi-from : goal.returns-then-hi-from
returns-then-hi-from c =
    let a = c.args in
    let T = table_of a.pack.now in
    least_past T a.s a.q a.lo a.hi a.floor c.max-from.result c.requires c.max-from.ensures (search rules)

pub returns : goal.returns
returns c =
    let a = c.args in
    let T = table_of a.pack.now in
    least_from T a.s a.q a.lo a.hi a.floor c.max-from.result c.requires c.max-from.ensures c.least_number.result (search rules) c.least_number.ensures
