-- `check_least::search::first`: lo, or the number behind it where lo's last digit does not pass.
use native.Mathlib.Omega.{arith}
use mathlib.Core.Path.{◌≡◌, sym, ap, ◌∙◌}
use Rattle.check_laws.specs.Fast.{ends}
use Rattle.check_least.proofs.search.first.Goals as goal

pub returns-then-ends_of : goal.returns-then-ends_of
returns-then-ends_of c = (omega arith, omega arith, λ x a b. absurd (omega arith))

pub returns : goal.returns
returns c =
    let a = c.args in
    (omega arith, omega arith, λ x h k. ap (ends a.q) (let e : x ≡ a.lo = omega arith in e) ∙ sym c.ends_of.ensures ∙ c.if-ends_of.false)
