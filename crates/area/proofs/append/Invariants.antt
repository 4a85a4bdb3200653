-- `area::append` writes the bytes one by one. The invariant: what is left to write, written from the place reached on, gives what the whole gives.
use Prim.Native.Nat.{◌≤◌}
use lib.ListN.{length, drop}
use Rattle.area.specs.Area.{most}
use Rattle.area.proofs.Pieces.{Left}
use Rattle.area.proofs.append.Given as goal

abbrev pub invariant-loop-b : goal.invariant-loop-b
invariant-loop-b l = (l.next ≤ most) × (length l.initial.out ≤ most) × Left l.initial.out l.at l.s l.out l.next (drop l.b-index l.s)
