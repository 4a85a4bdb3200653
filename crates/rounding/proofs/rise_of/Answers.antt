-- `rounding::rise_of` multiplies the factor by the power of ten that the fraction places have above those of the number.
use mathlib.Core.Path.{◌≡◌}
use Prim.Native.Nat.{◌^◌, ◌-◌}
use Rattle.rounding.proofs.Words.{rise_room}
use Rattle.rounding.proofs.rise_of.Goals as goal

pub returns : goal.returns
returns c =
    let a = c.args in
    let p = c.requires in
    let e : c.power.result ≡ 10 ^ (a.most - a.v) = rw (c.power.ensures, c.saturating_sub.ensures) in
    (rw e, rw e (rise_room a.factor a.most a.v p.0 p.1 p.2))
