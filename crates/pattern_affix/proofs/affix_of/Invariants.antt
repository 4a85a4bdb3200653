-- `pattern_affix::affix_of` answers the affix that a text begins with. The invariant: the bytes passed and the affix still to come are the whole affix.
use Prim.Native.Nat.{◌≤◌, ◌-◌}
use lib.ListN.{length}
use Rattle.pattern_affix.proofs.Scans.{Passed}
use Rattle.pattern_affix.proofs.affix_of.Given as goal

abbrev pub invariant-loop-len : goal.invariant-loop-len
invariant-loop-len l = (l.len ≤ length l.s) × Passed l.s l.quoted l.number l.len

abbrev pub decreases-loop-len : goal.decreases-loop-len
decreases-loop-len l = length l.s - l.len
