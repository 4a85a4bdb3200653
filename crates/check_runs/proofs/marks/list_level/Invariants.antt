-- `check_runs::marks::list_level` stores each index, and goes on behind it where it is of the level. Invariant: those so far are gathered.
use mathlib.Core.Path.{◌≡◌}
use Prim.Native.Nat.{◌≤◌}
use lib.ListN.{length}
use Rattle.check_runs.specs.Kept.{Gathered}
use Rattle.check_runs.proofs.marks.list_level.Given as goal

abbrev pub invariant-loop-k : goal.invariant-loop-k
invariant-loop-k l = Gathered l.marks.tiers l.level l.at l.count l.k × (length l.at ≡ 16) × (l.k ≤ l.size)
