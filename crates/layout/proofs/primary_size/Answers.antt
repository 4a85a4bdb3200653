-- `layout::primary_size` makes the definition's test part by part, so that nothing is added up.
use native.Mathlib.Omega.{arith}
use Rattle.symbols.specs.Entries.{symbol_in, standard_record}
use Rattle.layout.specs.Text.{minimum_in}
use Rattle.layout.proofs.Writing.{size_none, size_few, size_many}
use Rattle.layout.proofs.primary_size.Goals as goal
use Rattle.layout.proofs.primary_size.Goals.{else-primary-ne0-via-then-primary-ne0+then-primary-digits+else-minimum-digits, else-primary-ne0-via-then-primary-ne0+else-primary-digits, else-primary-ne0-via-else-primary-ne0}

pub returns-then-minimum-digits : goal.returns-then-minimum-digits
returns-then-minimum-digits c =
    let a = c.args in
    size_many (minimum_in (symbol_in a.house.now standard_record)) a.primary a.digits
    (omega (arith, c.if-minimum-digits.true, c.minimum.ensures, c.if-primary-digits.true))

pub returns-else-primary-ne0 : goal.returns-else-primary-ne0
returns-else-primary-ne0 c =
    let a = c.args in
    let m = minimum_in (symbol_in a.house.now standard_record) in
    elim c.else-primary-ne0.branch [
      | else-primary-ne0-via-then-primary-ne0+then-primary-digits+else-minimum-digits w ↦ size_few m a.primary a.digits (omega (arith, w.if-minimum-digits, w.minimum.ensures, w.if-primary-digits))
      | else-primary-ne0-via-then-primary-ne0+else-primary-digits w ↦ size_few m a.primary a.digits (omega (arith, w.if-primary-digits))
      | else-primary-ne0-via-else-primary-ne0 w ↦ rw w.if-primary-ne0.false (size_none m a.digits)
    ]
