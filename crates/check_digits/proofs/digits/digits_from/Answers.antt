-- `check_digits::digits::digits_from`: bits in a row, those past the tenth put down by ten.
use native.Mathlib.Omega.{arith}
use mathlib.Core.Path.{ap₂, ◌∙◌}
use Prim.Native.Nat.{ℕ, ◌+◌, ◌-◌, ◌/◌, ◌%◌, ◌^◌, ◌≤◌}
use lib.Pow.{pow_mono}
use Rattle.check_laws.specs.Profile.{round}
use Rattle.check_digits.proofs.Filling.{values_lt}
use Rattle.check_digits.proofs.Rounds.{in_a_row}
use Rattle.check_digits.proofs.digits.digits_from.Goals as goal

pub overflow_sub-m : goal.overflow_sub-m
overflow_sub-m c =
    let a = c.args in
    let h : 2 ^ a.u ≤ 2 ^ (a.u + a.n + 1) = pow_mono {i = a.u} {j = a.u + a.n + 1} (omega arith) in
    omega (arith, c.two_to-2.ensures, c.two_to.ensures)

pub returns : goal.returns
returns c =
    let a = c.args in
    let p = c.requires in
    let e = ap₂ (λ (x y : ℕ). (x - y) % 1024 + (x - y) / 1024) c.two_to.ensures c.two_to-2.ensures ∙ in_a_row a.u a.n p.0 p.1 in
    (e, values_lt (round a.u (a.u + a.n)) 10 _ e)
