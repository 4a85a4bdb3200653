-- `check_plain::operands::strip` takes zeros off one by one. Invariant: f is t with the zeros that were taken off.
use Rattle.check_plain.proofs.Trimming.{Left}
use Rattle.check_plain.proofs.operands.strip.Given as goal

abbrev pub invariant-loop-w : goal.invariant-loop-w
invariant-loop-w l = Left l.v l.f l.w l.t

abbrev pub decreases-loop-w : goal.decreases-loop-w
decreases-loop-w l = l.w
