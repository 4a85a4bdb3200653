-- `check_places::places::least_room` tries each in turn. Invariant: none before passes.
use native.Mathlib.Omega.{arith}
use mathlib.Core.Path.{◌≡◌, ◌∙◌}
use Rattle.number.specs.Limits.{max_places}
use Rattle.check_laws.proofs.LeastF.{room_is}
use Rattle.check_laws.proofs.Placing.{seek_at, seek_none}
use Rattle.check_places.proofs.places.least_room.Invariants.{Room}
use Rattle.check_places.proofs.places.least_room.Goals as goal

pub returns-then-has_room : goal.returns-then-has_room
returns-then-has_room c = (room_is c.loop-v.v c.args.vs c.args.f (seek_at (Room c.args.vs c.args.f) max_places 1 c.loop-v.v c.has_room.result c.loop-v.invariant.0 (omega arith) c.has_room.ensures c.if-has_room.true), c.loop-v.invariant.1)

pub returns : goal.returns
returns c =
    let e : 10 ≡ c.loop-v.v = omega (arith, c.loop-v.invariant.1, c.loop-v-test.false) in
    (e ∙ room_is c.loop-v.v c.args.vs c.args.f (seek_none (Room c.args.vs c.args.f) max_places 1 c.loop-v.v c.loop-v.invariant.0 (omega (arith, c.loop-v.invariant.1))), omega arith)
