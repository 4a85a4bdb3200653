-- `check_fraction::zeros_of` tries one zero more in turn. Invariant: f ends in all that were tried.
use mathlib.Core.Path.{◌≡◌}
use Prim.Native.Nat.{◌-◌, ◌%◌, ◌^◌, ◌≤◌}
use Rattle.check_fraction.proofs.zeros_of.Given as goal

abbrev pub invariant-loop-k : goal.invariant-loop-k
invariant-loop-k l = (1 ≤ l.k) × (l.k ≤ 9) × (l.f % 10 ^ (l.k - 1) ≡ 0)
