-- `check_fraction::zeros_of` tries one zero more in turn. Invariant: f ends in all that were tried.
use mathlib.Core.Path.{◌≡◌, subst, sym}
use Prim.Native.Nat.{ℕ, ◌+◌, ◌-◌, ◌%◌, ◌^◌}
use native.Mathlib.Nat.{mod-one}
use native.Mathlib.Omega.{arith}
use Rattle.decimal.proofs.Values.{power_pos}
use Rattle.check_fraction.proofs.zeros_of.Goals as goal

pub loop-k-init : goal.loop-k-init
loop-k-init c = (omega arith, omega arith, mod-one c.args.f)

pub nonzero_rem-f : goal.nonzero_rem-f
nonzero_rem-f c = omega (arith, c.power.ensures, power_pos c.loop-k.k)

pub loop-k-preserved : goal.loop-k-preserved
loop-k-preserved c =
    let k = c.loop-k.k in
    let z : c.args.f % c.power.result ≡ 0 = omega (arith, c.if-f-power-ne0.false) in
    let e : k + 1 - 1 ≡ k = omega arith in
    (omega arith, omega (arith, c.loop-k-test.true), subst (λ (x : ℕ). c.args.f % 10 ^ x ≡ 0) (sym e) (subst (λ (x : ℕ). c.args.f % x ≡ 0) c.power.ensures z))
