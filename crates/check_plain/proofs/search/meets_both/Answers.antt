-- `check_plain::search::meets_both` asks the second rule where the first is met.
use mathlib.Core.Path.{◌∙◌}
use Rattle.pack_rules.specs.Stretch.{table_of}
use Rattle.check_plain.proofs.Trying.{first_fails, second_says}
use Rattle.check_plain.proofs.search.meets_both.Goals as goal

pub returns-then-meets_held : goal.returns-then-meets_held
returns-then-meets_held c =
    let a = c.args in
    second_says (table_of a.pack.now) a.pack.now.relations a.pack.now.clauses a.first a.second a.x c.meets_held.result c.meets_held-then-meets_held.result c.meets_held.ensures c.if-meets_held.true c.meets_held-then-meets_held.ensures

pub returns-else-meets_held : goal.returns-else-meets_held
returns-else-meets_held c =
    let a = c.args in
    c.if-meets_held.false ∙ first_fails (table_of a.pack.now) a.pack.now.relations a.pack.now.clauses a.first a.second a.x c.meets_held.result c.meets_held.ensures c.if-meets_held.false
