-- `check_fraction::alone_of` is a search that asks t only.
use mathlib.Core.Path.{◌∙◌}
use Rattle.pack_rules.specs.Stretch.{table_of}
use Rattle.check_laws.specs.Read.{joined_in}
use Rattle.check_laws.proofs.Placing.{alone_is}
use Rattle.check_laws.proofs.Readying.{alone_ready}
use Rattle.check_fraction.proofs.alone_of.Goals as goal

pub least_from-requires : goal.least_from-requires
least_from-requires c = c.requires.2

pub returns : goal.returns
returns c =
    let a = c.args in
    let T = table_of a.pack.now in
    alone_is c.least_from.result (joined_in T a.s) (c.least_from.ensures ∙ alone_ready T a.s c.requires.0 c.requires.1)
