-- `check_clauses::ends::clauses_end` takes the furthest. Invariant: those before are within.
use Prim.Native.Nat.{ℕ, ◌≤◌, ◌<◌, min}
use lib.ListN.{get_or}
use Rattle.check_clauses.proofs.ends.clauses_end.Given as goal

abbrev pub invariant-loop-p : goal.invariant-loop-p
invariant-loop-p l = (l.p ≤ l.n) × (l.end ≤ 40) × ((k : ℕ) → k < l.p → min (get_or l.pack.clauses k 0) 40 ≤ l.end)
