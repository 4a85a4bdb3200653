-- `rounding::round_word` multiplies the number of steps: the product is at most n and a step.
use native.Mathlib.Omega.{arith}
use Rattle.rounding.proofs.Arithmetic.{steps_below}
use Rattle.rounding.proofs.round_word.Goals as goal

pub overflow_mul-steps_of : goal.overflow_mul-steps_of
overflow_mul-steps_of c =
    let a = c.args in
    let p = c.requires in
    rw c.steps_of.ensures (omega (arith, steps_below a.step a.scaled a.n p.0, p))
