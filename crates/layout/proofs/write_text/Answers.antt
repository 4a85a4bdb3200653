-- `layout::write_text` writes the text's parts one after another.
use native.Mathlib.Omega.{arith}
use Rattle.area.proofs.Pieces.{joined, size}
use Rattle.layout.proofs.write_text.Goals as goal

pub returns : goal.returns
returns c =
    let m = c.append_minus-first.ensures in
    let x = c.append_part-second.ensures in
    let n = c.append_number-third.ensures in
    let y = c.append_part.ensures in
    joined (omega arith) m (joined (omega (arith, size m)) x (joined (omega (arith, size m, size x)) n y))
