-- `check_digits::digits::reached`: ten numbers in a row end in every digit, fewer in as many.
use native.Mathlib.Omega.{arith}
use mathlib.Core.Path.{ap}
use Prim.Native.Nat.{ℕ, ◌-◌, ◌%◌, ◌≤◌}
use borrow.Author.Rules.{rules}
use Rattle.check_digits.proofs.Rounds.{reached_all, reached_few}
use Rattle.check_digits.proofs.digits.reached.Goals as goal

pub returns-then-n-ge9 : goal.returns-then-n-ge9
returns-then-n-ge9 c =
    let a = c.args in
    let l : 9 ≤ a.b - a.a = search rules in
    (reached_all a.a a.b l, omega arith)

pub returns-else-n-ge9 : goal.returns-else-n-ge9
returns-else-n-ge9 c =
    let a = c.args in
    (reached_few a.a a.b _ _ _ (ap (λ (x : ℕ). x % 10) c.from-u.ensures) (search rules) c.digits_from.ensures.0, c.digits_from.ensures.1)
