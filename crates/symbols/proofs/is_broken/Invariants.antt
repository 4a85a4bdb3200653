-- `symbols::is_broken` answers whether a record breaks off. The invariant: the answer for the bytes still to come is the whole answer.
use mathlib.Core.Path.{◌≡◌}
use lib.ListN.{length}
use Rattle.symbols.specs.Entries.{broken}
use Rattle.symbols.proofs.is_broken.Given as goal

abbrev pub invariant-loop-rest : goal.invariant-loop-rest
invariant-loop-rest l = broken l.s ≡ broken l.fn.s

abbrev pub decreases-loop-rest : goal.decreases-loop-rest
decreases-loop-rest l = length l.s
