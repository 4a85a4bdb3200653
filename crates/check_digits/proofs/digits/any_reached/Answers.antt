-- `check_digits::digits::any_reached`: one range more at each turn.
use mathlib.Core.Path.{refl}
use Prim.Native.Nat.{ℕ}
use Rattle.decimal.specs.Lists.{any}
use Rattle.check_laws.specs.Profile.{reaches}
use Rattle.check_digits.proofs.Filling.{values_lt}
use Rattle.check_digits.proofs.Rounds.{no_digit, gone_none, gone_any, gone_ended}
use Rattle.check_digits.proofs.digits.any_reached.Goals as goal

pub loop-k-init : goal.loop-k-init
loop-k-init c = let a = c.args in gone_none a.pack.now.low a.pack.now.high a.from (λ (d : ℕ). any (reaches d)) a.to 0 no_digit

pub loop-k-preserved : goal.loop-k-preserved
loop-k-preserved c = let a = c.args in let l = c.loop-k in gone_any a.pack.now.low a.pack.now.high a.from a.to l.k l.mask c.reached-mask.result _ c.loop-k-test.true l.invariant c.reached-mask.ensures.0 refl

pub returns : goal.returns
returns c = let a = c.args in let l = c.loop-k in let e = gone_ended a.pack.now.low a.pack.now.high a.from (λ (d : ℕ). any (reaches d)) a.to l.k l.mask c.loop-k-test.false l.invariant in (e, values_lt _ 10 l.mask e)
