-- `check_profile::clause_profile`: one relation more at each turn.
use mathlib.Core.Path.{◌≡◌}
use mathlib.Core.Logic.{◌⊎◌}
use Prim.Native.Nat.{◌≤◌}
use Rattle.pack_rules.specs.Stretch.{table_of, relations_in}
use Rattle.check_laws.specs.Profile.{profile_of}
use Rattle.check_profile.proofs.clause_profile.Given as goal

abbrev pub invariant-loop-j : goal.invariant-loop-j
invariant-loop-j l = (l.from ≤ l.j) × ((l.j ≤ l.to) ⊎ (l.j ≡ l.from)) × (l.p ≡ profile_of (relations_in (table_of l.pack) l.from l.j))
