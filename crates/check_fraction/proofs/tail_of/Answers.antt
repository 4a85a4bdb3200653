-- `check_fraction::tail_of` is a search with the factor 10 ^ k for f.
use mathlib.Core.Path.{◌∙◌}
use Rattle.pack_rules.specs.Stretch.{table_of}
use Rattle.check_laws.specs.Read.{joined_in}
use Rattle.check_laws.proofs.Flooring.{below_alone, below_tail}
use Rattle.check_laws.proofs.Placing.{tail_is}
use Rattle.check_laws.proofs.Readying.{tail_ready}
use Rattle.check_fraction.proofs.tail_of.Goals as goal

pub least_from-requires : goal.least_from-requires
least_from-requires c =
    let a = c.args in
    let T = table_of a.pack.now in
    below_tail (joined_in T a.s) a.k c.power-ten.result a.least c.power-ten.ensures (below_alone (joined_in T a.s) a.least c.requires.3)

pub returns : goal.returns
returns c =
    let a = c.args in
    let p = c.requires in
    let T = table_of a.pack.now in
    tail_is a.k c.power-ten.result c.power-end.result c.least_from.result (joined_in T a.s) c.power-ten.ensures c.power-end.ensures
    (c.least_from.ensures ∙ tail_ready T a.s a.k c.power-ten.result c.power-end.result p.1 p.2 p.0 c.power-ten.ensures c.power-end.ensures)
