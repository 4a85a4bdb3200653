-- `layout::append_fraction` writes the decimal symbol where there is a fraction digit, and the digits.
use mathlib.Core.Path.{◌≡◌}
use mathlib.Core.Bool.{not}
use native.Mathlib.Omega.{arith}
use lib.Dec.{ltb}
use lib.ListN.{length}
use Rattle.std.proofs.lemmas.Bool.Decides.{nat_tests}
use Rattle.area.proofs.Pieces.{joined}
use Rattle.layout.proofs.append_fraction.Goals as goal

pub returns : goal.returns
returns c =
    let e : not c.is_empty.result ≡ ltb 0 (length c.args.fraction.now) = grind (arith, nat_tests) in
    joined (omega arith) (rw e at c.append_if-k.ensures) c.append_digits.ensures
