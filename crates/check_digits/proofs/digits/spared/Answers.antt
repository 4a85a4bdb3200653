-- `check_digits::digits::spared`: a range that ends early spares each digit.
use native.Mathlib.Omega.{arith}
use Rattle.check_digits.proofs.Rounds.{spared_all}
use Rattle.check_digits.proofs.digits.spared.Goals as goal

pub returns-then-from : goal.returns-then-from
returns-then-from c = let a = c.args in (spared_all a.a a.b a.m (omega (arith, c.if-from.true)), omega arith)
