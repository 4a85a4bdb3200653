-- `meaning::in_ranges` looks through a stretch of ranges. The invariant: what is left decides as the whole does.
use mathlib.Core.Path.{◌≡◌}
use Rattle.decimal.specs.Lists.{any}
use Rattle.pack_rules.specs.Stretch.{ranges_in}
use Rattle.meaning.specs.Meaning.{in_range}
use Rattle.meaning.proofs.in_ranges.Given as goal

abbrev pub invariant-loop-k : goal.invariant-loop-k
invariant-loop-k l = any (in_range l.x) (ranges_in l.pack.low l.pack.high l.k l.to) ≡ any (in_range l.x) (ranges_in l.pack.low l.pack.high l.from l.to)
