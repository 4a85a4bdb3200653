-- `rounding::scaled_of` multiplies the step by the power of ten that the number's places have above the fraction places.
use native.Mathlib.Omega.{arith}
use mathlib.Core.Path.{◌≡◌}
use Prim.Native.Nat.{◌^◌, ◌-◌, ◌≤◌}
use native.Mathlib.Nat.{mul-le-mul, mul-le-mul_left}
use Rattle.decimal.proofs.Values.{power_pos, power_mono}
use Rattle.rounding.proofs.scaled_of.Goals as goal

pub returns : goal.returns
returns c =
    let a = c.args in
    let p = c.requires in
    let e : c.power.result ≡ 10 ^ (a.v - a.most) = rw (c.power.ensures, c.saturating_sub.ensures) in
    let one : 1 ≤ c.power.result = rw e (power_pos (a.v - a.most)) in
    let most : c.power.result ≤ 10 ^ 9 = rw e (power_mono {i = a.v - a.most} {j = 9} (omega arith)) in
    (rw e, omega (arith, mul-le-mul_left a.step one), omega (arith, mul-le-mul p.1 most))
