-- `check_digits::digits::all_spared`: one range more at each turn.
use mathlib.Core.Path.{refl}
use Prim.Native.Nat.{ℕ}
use Rattle.decimal.specs.Lists.{all}
use Rattle.check_laws.specs.Profile.{spares}
use Rattle.check_digits.proofs.Filling.{values_lt}
use Rattle.check_digits.proofs.Rounds.{each_digit, gone_none, gone_all, gone_ended}
use Rattle.check_digits.proofs.digits.all_spared.Goals as goal

pub loop-k-init : goal.loop-k-init
loop-k-init c = let a = c.args in gone_none a.pack.now.low a.pack.now.high a.from (λ (d : ℕ). all (spares a.m d)) a.to 1023 each_digit

pub loop-k-preserved : goal.loop-k-preserved
loop-k-preserved c = let a = c.args in let l = c.loop-k in gone_all a.pack.now.low a.pack.now.high a.from a.m a.to l.k l.mask c.spared-mask.result _ c.loop-k-test.true l.invariant c.spared-mask.ensures.0 refl

pub returns : goal.returns
returns c = let a = c.args in let l = c.loop-k in let e = gone_ended a.pack.now.low a.pack.now.high a.from (λ (d : ℕ). all (spares a.m d)) a.to l.k l.mask c.loop-k-test.false l.invariant in (e, values_lt _ 10 l.mask e)
