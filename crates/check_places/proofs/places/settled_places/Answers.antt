-- `check_places::places::settled_places` tries each in turn. Invariant: none before passes.
use native.Mathlib.Omega.{arith}
use mathlib.Core.Path.{◌≡◌, ◌∙◌}
use Prim.Native.Nat.{ℕ, suc, ◌-◌}
use Rattle.decimal.specs.Lists.{all}
use Rattle.number.specs.Limits.{max_places}
use Rattle.check_laws.specs.Fast.{settled_f}
use Rattle.check_laws.proofs.Placing.{seek_at, seek_none}
use Rattle.check_places.proofs.places.settled_places.Goals as goal

pub returns-then-settled_at : goal.returns-then-settled_at
returns-then-settled_at c =
    let a = c.args in
    λ x h. seek_at (λ (u : ℕ). all (settled_f u (u - a.k)) x) (max_places - a.k) (suc a.k) c.loop-v.v c.settled_at.result (c.loop-v.invariant.0 x h) (omega arith) (c.settled_at.ensures x h) c.if-settled_at.true

pub returns : goal.returns
returns c =
    let a = c.args in
    let e : 10 ≡ c.loop-v.v = omega (arith, c.loop-v.invariant.2, c.loop-v-test.false) in
    λ x h. e ∙ seek_none (λ (u : ℕ). all (settled_f u (u - a.k)) x) (max_places - a.k) (suc a.k) c.loop-v.v (c.loop-v.invariant.0 x h) (omega (arith, c.loop-v.invariant.2))
