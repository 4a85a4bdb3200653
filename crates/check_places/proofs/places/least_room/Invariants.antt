-- `check_places::places::least_room` tries each in turn. Invariant: none before passes.
use mathlib.Core.Bool.{Bool}
use Prim.Native.Nat.{ℕ, suc, ◌^◌, ◌≤◌}
use lib.Dec.{ltb}
use Rattle.decimal.specs.Choice.{both}
use Rattle.number.specs.Limits.{max_places}
use Rattle.check_laws.specs.Profile.{marked}
use Rattle.check_laws.proofs.Placing.{Before}
use Rattle.check_places.proofs.places.least_room.Given as goal

abbrev pub Room : ℕ → ℕ → ℕ → Bool
Room vs f v = both (marked vs v) (ltb f (10 ^ v))

abbrev pub invariant-loop-v : goal.invariant-loop-v
invariant-loop-v l = (Before (Room l.vs l.f) max_places 1 l.v) × (l.v ≤ suc max_places)
