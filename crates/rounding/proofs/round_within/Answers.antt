-- `rounding::round_within` rounds by one of two engines. Both give the nearest multiple of what is left of value and step without the power of ten that they share.
use native.Mathlib.Omega.{arith}
use Prim.Native.Nat.{◌*◌, ◌≤◌}
use native.Mathlib.Nat.{mul-le-mul_right}
use Rattle.decimal.proofs.Values.{power_pos, power_mono}
use Rattle.rounding.proofs.Arithmetic.{within_fits}
use Rattle.rounding.proofs.Words.{units_share}
use Rattle.rounding.proofs.round_within.Goals as goal

pub returns-then-is_in_word : goal.returns-then-is_in_word
returns-then-is_in_word c =
    let a = c.args in
    let x = within_fits a.step a.factor a.most a.i a.v a.f c.requires.1 in
    rw (c.scaled_of-scaled.ensures.0, c.word_of.ensures.0, c.power-unit.ensures, c.rise_of-rise.ensures.0, units_share a.step a.factor a.most a.i a.v a.f x.step_least) at c.round_word.ensures

pub round_digits-requires : goal.round_digits-requires
round_digits-requires c =
    let a = c.args in
    let x = within_fits a.step a.factor a.most a.i a.v a.f c.requires.1 in
    let t = c.power-unit in
    let r = c.rise_of-rise in
    let e = c.scaled_of-scaled.ensures in
    let one : 1 ≤ t.result = rw t.ensures (power_pos a.v) in
    let most : t.result ≤ 1000000000 = rw t.ensures (power_mono {i = a.v} {j = 9} x.places_most) in
    let all : t.result * r.result ≤ 1000000000000 = rw t.ensures r.ensures.1 in
    (c.requires.0, one, most, omega (arith, all, mul-le-mul_right r.result one), x.integer_most, x.fraction_most, x.step_least, x.step_most, e.1, e.2)

pub returns-else-is_in_word : goal.returns-else-is_in_word
returns-else-is_in_word c =
    let a = c.args in
    let x = within_fits a.step a.factor a.most a.i a.v a.f c.requires.1 in
    rw (c.scaled_of-scaled.ensures.0, c.power-unit.ensures, c.rise_of-rise.ensures.0, units_share a.step a.factor a.most a.i a.v a.f x.step_least) at c.round_digits.ensures
