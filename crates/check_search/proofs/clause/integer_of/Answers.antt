-- `check_search::clause::integer_of` is a search with the factor 1 for i, and for n where f is 0.
use mathlib.Core.Path.{◌∙◌}
use Rattle.pack_rules.specs.Stretch.{table_of}
use Rattle.check_laws.specs.Read.{joined_in}
use Rattle.check_laws.proofs.Flooring.{below_integer}
use Rattle.check_laws.proofs.Spotting.{low_le, integer_is}
use Rattle.check_laws.proofs.Readying.{integer_ready}
use Rattle.check_search.proofs.clause.integer_of.Goals as goal

pub least_from-requires : goal.least_from-requires
least_from-requires c =
    let a = c.args in
    let T = table_of a.pack.now in
    below_integer (joined_in T a.s) a.whole c.one_if-n.result a.floor c.one_if-n.ensures c.requires.3

pub returns : goal.returns
returns c =
    let a = c.args in
    let p = c.requires in
    let T = table_of a.pack.now in
    integer_is a.whole a.e c.one_if-n.result c.lowest_of-lo.result c.least_from.result (joined_in T a.s) c.one_if-n.ensures c.lowest_of-lo.ensures
    (c.least_from.ensures ∙ integer_ready T a.s a.whole c.one_if-n.result c.lowest_of-lo.result p.1 p.2 c.one_if-n.ensures (low_le a.e c.lowest_of-lo.result p.0 c.lowest_of-lo.ensures))
