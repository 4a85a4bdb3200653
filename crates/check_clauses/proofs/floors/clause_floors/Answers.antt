-- `check_clauses::floors::clause_floors`: zeros, or those of the clause as one stretch beside an empty one.
use Rattle.pack_rules.specs.Stretch.{table_of}
use Rattle.check_laws.proofs.Flooring.{under_one}
use Rattle.check_clauses.proofs.floors.clause_floors.Goals as goal

pub returns : goal.returns
returns c =
    let a = c.args in
    let from = c.start_at-from in
    let to = c.stop_at-to in
    under_one (table_of a.pack.now) a.pack.now.relations c.floors_of.result from.result to.result a.j from.ensures to.ensures c.floors_of.ensures.under
