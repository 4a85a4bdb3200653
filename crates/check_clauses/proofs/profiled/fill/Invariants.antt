-- `check_clauses::profiled::fill` puts in those of each clause in turn. Invariant: those before are in.
use Rattle.pack_rules.specs.Stretch.{table_of}
use Prim.Native.Nat.{◌≤◌}
use mathlib.Core.Path.{◌≡◌}
use lib.ListN.{length}
use Rattle.check_laws.specs.Profile.{Profiled}
use Rattle.check_clauses.proofs.profiled.fill.Given as goal

abbrev pub invariant-loop-j : goal.invariant-loop-j
invariant-loop-j l = (l.j ≤ l.to) × (length l.profiles ≡ 40) × Profiled (table_of l.pack) l.pack.relations l.profiles l.j
