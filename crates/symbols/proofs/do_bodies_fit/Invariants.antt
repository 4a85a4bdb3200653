-- `symbols::do_bodies_fit` answers whether all bodies fit. The invariant: the answer for the entries still to come is the whole answer.
use mathlib.Core.Path.{◌≡◌}
use lib.ListN.{length}
use Rattle.symbols.specs.Entries.{entries, bodies_fit}
use Rattle.symbols.proofs.do_bodies_fit.Given as goal

abbrev pub invariant-loop-symbol : goal.invariant-loop-symbol
invariant-loop-symbol l = bodies_fit (entries l.s) ≡ bodies_fit (entries l.fn.s)

abbrev pub decreases-loop-symbol : goal.decreases-loop-symbol
decreases-loop-symbol l = length l.s
