-- `check_fraction::least_code` takes the least over the zeros at the end. Invariant: the best is that of fewer than k zeros.
use Rattle.pack_rules.specs.Stretch.{table_of}
use Rattle.check_laws.specs.Read.{joined_in}
use Rattle.check_laws.specs.Bounded.{bounded}
use Prim.Native.Nat.{◌≤◌}
use mathlib.Core.Path.{◌≡◌}
use Rattle.number.specs.Limits.{max_places}
use Rattle.check_laws.specs.Fast.{part_code}
use Rattle.check_fraction.proofs.least_code.Given as goal

abbrev pub invariant-loop-k : goal.invariant-loop-k
invariant-loop-k l = (l.k ≤ max_places) × (l.best ≡ part_code l.k (bounded l.b (joined_in (table_of l.pack) l.s)))
