-- `check_pairs::check`: the profiles and floors are filled in, and the pairs in turn are those of the rules that the pack holds.
use native.Mathlib.Omega.{arith}
use Rattle.pack_rules.specs.Stretch.{table_of}
use Rattle.check_laws.proofs.Flooring.{floored_fresh}
use Rattle.check_laws.proofs.Holding.{held_is}
use Rattle.check_laws.proofs.Profiles.{profiled_rules}
use borrow.Author.Rules.{rules}
use Rattle.check_pairs.proofs.check.Goals as goal

pub clauses_end-end-requires : goal.clauses_end-end-requires
clauses_end-end-requires c = omega (arith, c.min-n.ensures)

pub fill-requires : goal.fill-requires
fill-requires c = c.clauses_end-end.ensures.0

pub fill-requires-2 : goal.fill-requires-2
fill-requires-2 c =
    let a = c.args in
    (c.clauses_end-end.ensures.0, floored_fresh (table_of a.pack.now) a.pack.now.relations)

pub first_pair-requires : goal.first_pair-requires
first_pair-requires c =
    let a = c.args in
    let n = c.min-n in
    let e = c.clauses_end-end in
    let f = c.fill in
    record {
      in_room = (omega (arith, n.ensures), c.fill-2.ensures);
      profiled_rules = profiled_rules (table_of a.pack.now) a.pack.now.relations a.pack.now.clauses n.result e.result f.new.profiles f.ensures e.ensures.1;
    }

pub returns : goal.returns
returns c =
    let a = c.args in
    let n = c.min-n in
    held_is (a.pack.now) n.result c.first_pair.result
    (record {
      low = (search rules);
      high = (search rules);
      columns = (search rules);
      relations = (search rules);
      keyword = (search rules);
      clauses = (search rules);
    })
    n.ensures c.first_pair.ensures
