-- `check_fraction::least_f` is a search that asks f only.
use Rattle.pack_rules.specs.Stretch.{table_of}
use Rattle.check_laws.specs.Read.{joined_in}
use mathlib.Core.Path.{◌∙◌}
use native.Mathlib.Omega.{arith}
use Rattle.check_laws.proofs.LeastF.{f_is}
use Rattle.check_laws.proofs.Readying.{f_ready}
use Rattle.check_fraction.proofs.least_f.Goals as goal

pub least_from-requires : goal.least_from-requires
least_from-requires c = λ x h. absurd (omega arith)

pub returns : goal.returns
returns c =
    let a = c.args in
    let T = table_of a.pack.now in
    f_is c.least_from.result (joined_in T a.s) (c.least_from.ensures ∙ f_ready T a.s c.requires.0 c.requires.1)
