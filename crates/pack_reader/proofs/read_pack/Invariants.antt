-- `read_pack` takes token by token, and the end behind the last: the board so far with what is ahead gives what the first board gives with all. No rules
-- are told before the end.
use mathlib.Core.Path.{◌≡◌}
use Prim.Native.Nat.{◌+◌, ◌-◌}
use lib.ListN.{length}
use Rattle.pack_reader.specs.Board.{Sized}
use Rattle.pack_reader.proofs.Boards.{arrays, Stands}
use Rattle.pack_reader.proofs.read_pack.Given as goal

abbrev pub invariant-loop-at : goal.invariant-loop-at
invariant-loop-at l = record { stands : Stands l.s l.end (arrays l.initial.pack) l.at l.w (arrays l.pack); sized : Sized (arrays l.initial.pack); none : l.pack.count ≡ 0 }

abbrev pub decreases-loop-at : goal.decreases-loop-at
decreases-loop-at l =
    (length l.s + 1) - l.at
