-- `bench_line::append_refusal` writes its pieces one behind the other.
use native.Mathlib.Omega.{arith}
use mathlib.Core.Path.{ap, ◌∙◌}
use mathlib.Core.List.{◌∷◌}
use Prim.Native.Nat.{ℕ}
use Rattle.decimal.specs.Digits.{numeral}
use Rattle.answer.proofs.Lists.{figures_told}
use Rattle.area.proofs.Pieces.{joined, renamed}
use Rattle.bench_line.specs.Lines.{spaced}
use Rattle.bench_line.proofs.append_refusal.Goals as goal

pub returns : goal.returns
returns c =
    let w = c.from.ensures in
    let n = c.number.ensures in
    let f = figures_told c.figures.result c.args.refusal c.figures.ensures in
    let p1 = c.put-name.ensures in
    let p2 = c.put-mark.ensures in
    let p3 = renamed (ap (λ (k : ℕ). 32 ∷ numeral k) (w ∙ n)) c.append_spaced-number.ensures in
    let p4 = renamed (ap spaced f) c.append_figures-figures.ensures in
    joined (omega arith) (joined (omega arith) (joined (omega arith) (joined (omega arith) p1 p2) p3) p4) c.put.ensures
