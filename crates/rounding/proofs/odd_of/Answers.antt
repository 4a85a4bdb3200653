-- `rounding::odd_of` looks at the last digit: a number is odd as it is.
use native.Mathlib.Omega.{arith}
use Prim.Native.Nat.{◌-◌}
use lib.ListN.{length}
use Rattle.rounding.proofs.Arithmetic.{odd_last}
use Rattle.rounding.proofs.odd_of.Goals as goal

pub returns-in-len1-up : goal.returns-in-len1-up
returns-in-len1-up c =
    let d = c.args.d.now in
    (odd_last d (length d - 1) c.digit_value.result (omega arith) c.digit_value.ensures, omega arith)
