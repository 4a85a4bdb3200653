-- `layout::append_digits` writes digit by digit. The invariant: what is left to write, written from the place reached on, gives what the whole gives.
use Prim.Native.Nat.{◌≤◌}
use lib.ListN.{length, drop}
use Rattle.area.specs.Area.{most}
use Rattle.area.proofs.Pieces.{Left}
use Rattle.layout.specs.Layout.{zero_digit, grouped}
use Rattle.layout.proofs.append_digits.Given as goal

abbrev pub invariant-loop-i : goal.invariant-loop-i
invariant-loop-i l = (l.k ≤ most) × (length l.initial.out ≤ most) × Left l.initial.out l.at (grouped zero_digit l.group l.primary l.secondary l.d) l.out l.k (grouped zero_digit l.group l.primary l.secondary (drop l.i l.d))
