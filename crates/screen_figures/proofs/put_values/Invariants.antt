-- `screen_figures::put_values` stores the values one by one. The invariant: what is left to store, stored from the place reached on, gives what the whole gives.
use mathlib.Core.Path.{◌≡◌}
use Prim.Native.Nat.{◌≤◌, ◌-◌, ◌+◌}
use lib.ListN.{length, take, drop}
use lib.Seq.{sets}
use Rattle.screen_figures.proofs.put_values.Given as goal

abbrev pub invariant-loop-k : goal.invariant-loop-k
invariant-loop-k l =
    (l.k ≤ l.n) × (l.n ≤ length l.values) × (length l.figures ≡ length l.initial.figures)
    × (sets l.figures (l.k + 1) (take (l.n - l.k) (drop l.k l.values)) ≡ sets l.initial.figures 1 (take l.n l.values))
