-- `area::append_number` writes a number's digits: the last twenty without the leading zeros.
use Rattle.decimal.proofs.Figured.{shown_figures}
use mathlib.Core.Path.{◌≡◌, ◌∙◌}
use Rattle.decimal.specs.Digits.{wide, numeral}
use Rattle.area.proofs.Pieces.{renamed}
use Rattle.area.proofs.append_number.Goals as goal

pub returns : goal.returns
returns c =
    let w = c.write_figures in
    let z = c.leading_zeros in
    let k = c.min-zeros in
    let a = c.after in
    let n = c.args.n in
    let e : a.result.now ≡ numeral n = a.ensures ∙ shown_figures wide n 1 w.new.out z.result k.result w.ensures z.ensures.0 k.ensures in
    renamed e c.append.ensures
