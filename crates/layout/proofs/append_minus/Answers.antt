-- `layout::append_minus` writes the minus symbol, or nothing.
use native.Mathlib.Omega.{arith}
use Rattle.layout.proofs.Writing.{nothing}
use Rattle.layout.proofs.append_minus.Goals as goal

pub returns-then-on : goal.returns-then-on
returns-then-on c = rw c.if-on.true c.append_symbol.ensures

pub returns-else-on : goal.returns-else-on
returns-else-on c = rw c.if-on.false (nothing _ _ (omega arith))
