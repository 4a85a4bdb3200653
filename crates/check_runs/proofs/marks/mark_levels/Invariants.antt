-- `check_runs::marks::mark_levels` marks the level of each relation. Invariant: those of the relations so far are marked.
use Rattle.pack_rules.specs.Stretch.{table_of}
use mathlib.Core.Path.{◌≡◌}
use Rattle.check_runs.specs.Kept.{size_of}
use Rattle.check_runs.proofs.Marking.{Marks, Telling}
use Rattle.check_runs.proofs.marks.mark_levels.Given as goal

abbrev pub invariant-loop-k : goal.invariant-loop-k
invariant-loop-k l =
    let T = table_of l.pack in
    Marks T l.s l.q l.k l.marks.asked × (l.size ≡ size_of l.s) × Telling T l.s l.q l.k l.marks.tiers
