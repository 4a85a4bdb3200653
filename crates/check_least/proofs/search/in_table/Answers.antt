-- `check_least::search::in_table`: the table stands, or no number passes its levels, or each number is tried.
use Rattle.pack_rules.specs.Stretch.{table_of}
use Rattle.check_laws.specs.Read.{joined_in}
use Rattle.check_least.proofs.Searching.{least_empty, laid_fresh}
use Rattle.check_least.proofs.search.in_table.Goals as goal

pub build-b-requires : goal.build-b-requires
build-b-requires c =
    let p = c.requires in
    record {
      fit = (p.fit.0, p.fit.3, p.fit.4, p.fit.5, p.fit.6);
      unasked = p.unasked;
      laid = laid_fresh;
    }

pub by_table-requires : goal.by_table-requires
by_table-requires c =
    let p = c.requires in
    let b = c.build-b.ensures.stands c.in-Stands.is in
    record {
      fit = p.fit;
      all_levelled = p.all_levelled;
      laid = b.0;
      tabled = b.1;
    }

pub try_each-requires : goal.try_each-requires
try_each-requires c =
    let p = c.requires in
    (p.fit.1, p.fit.2, p.fit.3, p.fit.4)

pub returns-in-Stands : goal.returns-in-Stands
returns-in-Stands c = c.by_table.ensures

pub returns-in-Empty : goal.returns-in-Empty
returns-in-Empty c =
    let a = c.args in
    let p = c.requires in
    let T = table_of a.pack.now in
    let c' = joined_in T a.s in
    least_empty a.q c' p.all_levelled a.lo a.hi p.fit.2 (c.build-b.ensures.empty c.in-Empty.is)

pub returns-in-Full : goal.returns-in-Full
returns-in-Full c = c.try_each.ensures
