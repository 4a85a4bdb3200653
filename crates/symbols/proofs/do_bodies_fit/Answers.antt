-- `symbols::do_bodies_fit` answers whether all bodies fit. The invariant: the answer for the entries still to come is the whole answer.
use mathlib.Core.Path.{sym, ◌∙◌}
use Rattle.records.proofs.Walks.{turn, every_again, every_fails}
use Rattle.symbols.specs.Entries.{entry_fits}
use Rattle.symbols.proofs.do_bodies_fit.Goals as goal

pub returns-then-not-fits_as : goal.returns-then-not-fits_as
returns-then-not-fits_as c =
    let t = turn c.in-Some.ensures in
    let f = rw t.its at c.fits_as.ensures in
    sym (every_fails t entry_fits (sym f ∙ c.if-not-fits_as.true)) ∙ c.loop-symbol.invariant

pub loop-symbol-preserved : goal.loop-symbol-preserved
loop-symbol-preserved c =
    let t = turn c.in-Some.ensures in
    let f = rw t.its at c.fits_as.ensures in
    every_again t entry_fits (sym f ∙ c.if-not-fits_as.false) c.loop-symbol.invariant
