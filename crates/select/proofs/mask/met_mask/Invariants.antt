-- `select::mask::met_mask` gathers the met rules, a bit each. The invariant: the mask is that of the rules passed.
use mathlib.Core.Path.{◌≡◌}
use Prim.Native.Nat.{◌-◌, ◌≤◌}
use Rattle.pack_rules.specs.Stretch.{stretch, table_of}
use Rattle.select.specs.Select.{mask_of}
use Rattle.meaning.specs.Places.{met_at}
use Rattle.select.proofs.mask.met_mask.Given as goal

abbrev pub invariant-loop-j : goal.invariant-loop-j
invariant-loop-j l =
    (l.j ≤ l.rules) × (l.bit ≡ l.j) × (l.mask ≡ mask_of (stretch (met_at (table_of l.pack) l.pack.relations l.pack.clauses l.x) 0 l.j))

abbrev pub decreases-loop-j : goal.decreases-loop-j
decreases-loop-j l = l.rules - l.j
