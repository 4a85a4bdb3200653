-- `skip_white` goes over one code point of white space at a time.
use Prim.Native.Nat.{◌-◌}
use lib.ListN.{length}
use Rattle.pack_token.proofs.Skips.{Skipping}
use Rattle.pack_token.proofs.skip_white.Given as goal

abbrev pub invariant-loop-at : goal.invariant-loop-at
invariant-loop-at l = Skipping l.s l.from l.at

abbrev pub decreases-loop-at : goal.decreases-loop-at
decreases-loop-at l = length l.s - l.at
