-- `check_places::places::settled_places` tries each in turn. Invariant: none before passes.
use Prim.Native.Nat.{ℕ, suc, ◌≤◌, ◌<◌, ◌-◌}
use mathlib.Core.List.{List}
use Rattle.decimal.specs.Lists.{all}
use Rattle.number.specs.Limits.{max_places}
use Rattle.check_laws.specs.Fast.{settled_f}
use Rattle.pack_rules.specs.Syntax.{Relation}
use Rattle.check_laws.proofs.Placing.{Before}
use Rattle.check_laws.specs.Profile.{Settled}
use Rattle.check_places.proofs.places.settled_places.Given as goal

abbrev pub invariant-loop-v : goal.invariant-loop-v
invariant-loop-v l = ((x : List Relation) → Settled x l.vs l.ws → Before (λ (u : ℕ). all (settled_f u (u - l.k)) x) (max_places - l.k) (suc l.k) l.v) × (l.k < l.v) × (l.v ≤ suc max_places)
