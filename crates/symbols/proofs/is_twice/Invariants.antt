-- `symbols::is_twice` answers whether a symbol stands twice. The invariant: the answer for the entries still to come is the whole answer.
use mathlib.Core.Path.{◌≡◌}
use lib.ListN.{length}
use Rattle.symbols.specs.Entries.{entries, twice}
use Rattle.symbols.proofs.is_twice.Given as goal

abbrev pub invariant-loop-symbol : goal.invariant-loop-symbol
invariant-loop-symbol l = twice (entries l.s) ≡ twice (entries l.fn.s)

abbrev pub decreases-loop-symbol : goal.decreases-loop-symbol
decreases-loop-symbol l = length l.s
