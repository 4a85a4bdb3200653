-- `check_runs::clause::digit_run`: of the last digit, only 0 fails.
use mathlib.Core.Path.{refl}
use mathlib.Core.Bool.{false≢true}
use native.Mathlib.Omega.{arith}
use Rattle.check_runs.proofs.Keeping.{digit_zero, digit_more, digit_elsewhere, digit_not}
use Rattle.check_runs.proofs.clause.digit_run.Goals as goal

pub returns-then-p-eq0-clause-alike : goal.returns-then-p-eq0-clause-alike
returns-then-p-eq0-clause-alike c =
    let a = c.args in digit_zero a.q a.level a.p c.requires.self c.if-q.true c.if-level-eq1.true c.if-p-eq0.true

pub returns-then-p-eq0-clause-near : goal.returns-then-p-eq0-clause-near
returns-then-p-eq0-clause-near c =
    let a = c.args in (omega arith, λ e. absurd (false≢true e))

pub returns-else-p-eq0-clause-alike : goal.returns-else-p-eq0-clause-alike
returns-else-p-eq0-clause-alike c =
    let a = c.args in digit_more a.q a.level a.p c.requires.self c.if-q.true c.if-level-eq1.true c.if-p-eq0.false

pub returns-else-p-eq0-clause-near : goal.returns-else-p-eq0-clause-near
returns-else-p-eq0-clause-near c =
    let a = c.args in (omega arith, λ e. refl)

pub returns-else-level-eq1-clause-alike : goal.returns-else-level-eq1-clause-alike
returns-else-level-eq1-clause-alike c =
    let a = c.args in digit_elsewhere a.q a.level a.p c.requires.self c.if-level-eq1.false

pub returns-else-level-eq1-clause-near : goal.returns-else-level-eq1-clause-near
returns-else-level-eq1-clause-near c =
    let a = c.args in (omega arith, λ e. refl)

pub returns-else-q-clause-alike : goal.returns-else-q-clause-alike
returns-else-q-clause-alike c =
    let a = c.args in digit_not a.q a.level a.p c.requires.self c.if-q.false

pub returns-else-q-clause-near : goal.returns-else-q-clause-near
returns-else-q-clause-near c =
    let a = c.args in (omega arith, λ e. refl)
