-- `rounding::write_whole` writes the number at once, or the integer and then the fraction behind it.
use native.Mathlib.Omega.{arith}
use native.Mathlib.Nat.{le-div_iff_mul-le}
use lib.ListN.{length}
use Rattle.rounding.proofs.Arithmetic.{scaled_written, integer_room}
use Rattle.rounding.proofs.write_whole.Goals as goal

pub overflow_mul-i : goal.overflow_mul-i
overflow_mul-i c = omega (arith, (le-div_iff_mul-le c.requires.1).0 c.if-i-unit.true)

pub overflow_add-i : goal.overflow_add-i
overflow_add-i c = omega (arith, (le-div_iff_mul-le c.requires.1).0 c.if-i-unit.true, c.requires.4)

pub returns-else-i-unit : goal.returns-else-i-unit
returns-else-i-unit c =
    let a = c.args in
    let k = length a.d.now in
    let w = c.write_figures-else-i-unit in
    scaled_written k a.i a.unit a.f w.new.out c.scale.new.d (integer_room k a.i c.requires.0 c.requires.3) w.ensures c.scale.ensures
