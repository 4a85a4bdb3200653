-- `check_next::climb::up_to` passes over the segments that end before r. Invariant: the answer is that of the segments left.
use mathlib.Core.Path.{◌≡◌}
use Rattle.check_laws.specs.Segments.{up_to}
use Rattle.check_next.specs.Table.{segments_in}
use Rattle.check_next.proofs.climb.up_to.Given as goal

abbrev pub invariant-loop-k : goal.invariant-loop-k
invariant-loop-k l = up_to (segments_in l.table.starts l.table.ends l.k l.to) l.m l.r l.z ≡ up_to (segments_in l.table.starts l.table.ends l.from l.to) l.m l.r l.z
