-- `check_places::places::tail_places` tries each in turn. Invariant: none before passes.
use native.Mathlib.Omega.{arith}
use mathlib.Core.Path.{◌≡◌, ◌∙◌}
use Prim.Native.Nat.{ℕ, suc, ◌-◌}
use Rattle.number.specs.Limits.{max_places}
use Rattle.decimal.specs.Choice.{both}
use Rattle.decimal.specs.Lists.{all}
use lib.Dec.{ltb}
use Prim.Native.Nat.{◌^◌}
use Rattle.check_laws.specs.Fast.{settled_f}
use Rattle.check_laws.proofs.Placing.{seek_at, seek_none, places_is}
use Rattle.check_places.proofs.places.tail_places.Goals as goal

pub returns-then-room_for : goal.returns-then-room_for
returns-then-room_for c =
    let a = c.args in (
      λ x h. places_is c.loop-v.v a.k a.t x
          (seek_at (λ (u : ℕ). both (all (settled_f u (u - a.k)) x) (ltb a.t (10 ^ (u - a.k)))) (max_places - a.k) (suc a.k) c.loop-v.v c.room_for.result (c.loop-v.invariant.0 x h) (omega arith) (c.room_for.ensures x h) c.if-room_for.true),
      omega arith,
    )

pub returns : goal.returns
returns c =
    let a = c.args in
    let e : 10 ≡ c.loop-v.v = omega (arith, c.loop-v.invariant.2, c.loop-v-test.false) in (
      λ x h. e ∙ places_is c.loop-v.v a.k a.t x
          (seek_none (λ (u : ℕ). both (all (settled_f u (u - a.k)) x) (ltb a.t (10 ^ (u - a.k)))) (max_places - a.k) (suc a.k) c.loop-v.v (c.loop-v.invariant.0 x h) (omega (arith, c.loop-v.invariant.2))),
      omega arith,
    )
