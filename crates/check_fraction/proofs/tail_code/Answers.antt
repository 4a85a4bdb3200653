-- `check_fraction::tail_code`: no v, no v with room for t, or the least v with the least t.
use mathlib.Core.Path.{◌∙◌}
use native.Mathlib.Omega.{arith}
use Rattle.pack_rules.specs.Stretch.{table_of}
use Rattle.check_laws.specs.Bounded.{bounded}
use Rattle.check_laws.specs.Read.{joined_in}
use Rattle.check_laws.proofs.Bounding.{bounded_tail}
use Rattle.check_laws.proofs.Placing.{tail_unsettled, tail_none, tail_some, tail_room}
use borrow.Author.Rules.{rules}
use Rattle.check_fraction.proofs.tail_code.Goals as goal

pub returns-then-settled_places-gt-MAX_PLACES : goal.returns-then-settled_places-gt-MAX_PLACES
returns-then-settled_places-gt-MAX_PLACES c =
    let a = c.args in
    let T = table_of a.pack.now in
    tail_unsettled a.k c.requires.in_room.0 (bounded a.b (joined_in T a.s)) c.settled_places.result (c.settled_places.ensures (bounded a.b (joined_in T a.s)) c.requires.settled) (search rules)

pub returns-then-v-gt-MAX_PLACES : goal.returns-then-v-gt-MAX_PLACES
returns-then-v-gt-MAX_PLACES c =
    let a = c.args in
    let T = table_of a.pack.now in
    tail_none a.k c.requires.in_room.0 (bounded a.b (joined_in T a.s)) c.tail_at-u.result c.tail_places-v.result (c.tail_at-u.ensures ∙ bounded_tail a.b (joined_in T a.s) a.k) (c.tail_places-v.ensures.0 (bounded a.b (joined_in T a.s)) c.requires.settled) (search rules)

pub overflow_mul-result : goal.overflow_mul-result
overflow_mul-result c = omega (arith, c.tail_places-v.ensures.1)

pub overflow_mul-result-2 : goal.overflow_mul-result-2
overflow_mul-result-2 c =
    let a = c.args in
    let T = table_of a.pack.now in
    omega (arith, tail_room a.k c.requires.in_room.0 (bounded a.b (joined_in T a.s)) c.tail_at-u.result c.power.result (c.tail_at-u.ensures ∙ bounded_tail a.b (joined_in T a.s) a.k) c.power.ensures)

pub overflow_add-result : goal.overflow_add-result
overflow_add-result c =
    let a = c.args in
    let T = table_of a.pack.now in
    omega (arith, c.tail_places-v.ensures.1, tail_room a.k c.requires.in_room.0 (bounded a.b (joined_in T a.s)) c.tail_at-u.result c.power.result (c.tail_at-u.ensures ∙ bounded_tail a.b (joined_in T a.s) a.k) c.power.ensures)

pub returns : goal.returns
returns c =
    let a = c.args in
    let T = table_of a.pack.now in
    tail_some a.k c.requires.in_room.0 (bounded a.b (joined_in T a.s)) c.tail_at-u.result c.tail_places-v.result c.power.result (c.tail_at-u.ensures ∙ bounded_tail a.b (joined_in T a.s) a.k) (c.tail_places-v.ensures.0 (bounded a.b (joined_in T a.s)) c.requires.settled) (search rules) c.power.ensures
