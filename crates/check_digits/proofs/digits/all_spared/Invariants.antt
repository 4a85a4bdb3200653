-- `check_digits::digits::all_spared`: one range more at each turn.
use Prim.Native.Nat.{ℕ}
use Rattle.decimal.specs.Lists.{all}
use Rattle.check_laws.specs.Profile.{spares}
use Rattle.check_digits.proofs.Rounds.{Gone}
use Rattle.check_digits.proofs.digits.all_spared.Given as goal

abbrev pub invariant-loop-k : goal.invariant-loop-k
invariant-loop-k l = Gone l.pack.low l.pack.high l.from (λ (d : ℕ). all (spares l.m d)) l.to l.k l.mask
