-- `check_places::places::opens` looks for the least w that is left. Invariant: none before is.
use mathlib.Core.Path.{◌≡◌}
use mathlib.Core.Bool.{false}
use Prim.Native.Nat.{ℕ, ◌≤◌, ◌<◌}
use Rattle.check_laws.specs.Profile.{marked}
use Rattle.check_places.proofs.places.opens.Given as goal

abbrev pub invariant-loop-w : goal.invariant-loop-w
invariant-loop-w l = (1 ≤ l.w) × (l.w ≤ 10) × ((k : ℕ) → 1 ≤ k → k < l.w → marked l.ws k ≡ false)
