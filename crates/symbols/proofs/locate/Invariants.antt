-- `symbols::locate` finds the first entry of a symbol. The invariant: what is found from here on is what the record holds.
use lib.ListN.{length}
use Rattle.records.proofs.Walks.{Sought}
use Rattle.symbols.specs.Kinds.{upper_of, name_of, length_of}
use Rattle.symbols.proofs.locate.Given as goal

abbrev pub invariant-loop-symbol : goal.invariant-loop-symbol
invariant-loop-symbol l = Sought length_of name_of (upper_of l.y) l.fn.s l.s

abbrev pub decreases-loop-symbol : goal.decreases-loop-symbol
decreases-loop-symbol l = length l.s
