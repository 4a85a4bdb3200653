-- `check_runs::clause::passes_at` asks the last digit and each relation. Invariant: x passes all exactly where it passes those left.
use Rattle.pack_rules.specs.Stretch.{table_of}
use mathlib.Core.Path.{◌≡◌}
use Rattle.check_laws.specs.Fast.{passes_all}
use Rattle.check_laws.specs.Read.{joined_in}
use Rattle.check_runs.proofs.Keeping.{Rest}
use Rattle.check_runs.proofs.clause.passes_at.Given as goal

abbrev pub invariant-loop-k : goal.invariant-loop-k
invariant-loop-k l = Rest (table_of l.pack) l.s l.q l.x l.k ≡ passes_all l.q (joined_in (table_of l.pack) l.s) l.x
