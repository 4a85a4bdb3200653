-- `check_places::places::whole_places` tries each in turn. Invariant: none before passes.
use native.Mathlib.Omega.{arith}
use mathlib.Core.Path.{◌≡◌, ◌∙◌}
use Prim.Native.Nat.{ℕ, suc}
use Rattle.decimal.specs.Lists.{all}
use Rattle.number.specs.Limits.{max_places}
use Rattle.check_laws.specs.Fast.{settled_f}
use Rattle.check_laws.proofs.Placing.{seek_at, seek_none}
use Rattle.check_places.proofs.places.whole_places.Goals as goal

pub returns-then-settled_at : goal.returns-then-settled_at
returns-then-settled_at c =
    (λ x h. seek_at (λ (u : ℕ). all (settled_f u 0) x) (suc max_places) 0 c.loop-v.v c.settled_at.result (c.loop-v.invariant.0 x h) (omega arith) (c.settled_at.ensures x h) c.if-settled_at.true, omega arith)

pub returns : goal.returns
returns c =
    let e : 10 ≡ c.loop-v.v = omega (arith, c.loop-v.invariant.1, c.loop-v-test.false) in
    (λ x h. e ∙ seek_none (λ (u : ℕ). all (settled_f u 0) x) (suc max_places) 0 c.loop-v.v (c.loop-v.invariant.0 x h) (omega (arith, c.loop-v.invariant.1)), omega arith)
