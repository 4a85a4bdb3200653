-- `check_digits::digits::any_reached`: one range more at each turn.
use Prim.Native.Nat.{ℕ}
use Rattle.decimal.specs.Lists.{any}
use Rattle.check_laws.specs.Profile.{reaches}
use Rattle.check_digits.proofs.Rounds.{Gone}
use Rattle.check_digits.proofs.digits.any_reached.Given as goal

abbrev pub invariant-loop-k : goal.invariant-loop-k
invariant-loop-k l = Gone l.pack.low l.pack.high l.from (λ (d : ℕ). any (reaches d)) l.to l.k l.mask
