-- `layout::append_number` writes the integer digits shown, in groups, and the fraction digits shown.
use native.Mathlib.Omega.{arith}
use Rattle.area.proofs.Pieces.{joined, renamed}
use Rattle.symbols.specs.Entries.{symbol_in, standard_record}
use Rattle.layout.proofs.Writing.{number_is}
use Rattle.layout.proofs.append_number.Goals as goal

pub returns : goal.returns
returns c =
    let a = c.args in
    let g = c.find-group in
    let t = c.find-point in
    let w = c.whole_shown-whole in
    let z = c.primary_size-size in
    let f = c.fraction_shown in
    renamed (number_is (symbol_in a.house.now standard_record) a.p a.d.now g.result.now t.result.now w.result.now f.result.now z.result g.ensures t.ensures w.ensures z.ensures f.ensures)
    (joined (omega (arith, c)) c.append_digits-k.ensures c.append_fraction.ensures)
