-- `check_fraction::asked_code`: no v has room, the bound is reached, or a search at each count of zeros.
use Rattle.pack_rules.specs.Stretch.{table_of}
use Rattle.check_laws.specs.Read.{joined_in}
use Rattle.check_laws.specs.Bounded.{bounded}
use mathlib.Core.Path.{◌∙◌}
use native.Mathlib.Omega.{arith}
use Rattle.check_laws.proofs.Bounding.{bounded_f}
use Rattle.check_laws.proofs.LeastF.{f_most, part_crowded, part_reached}
use borrow.Author.Rules.{rules}
use Rattle.check_fraction.proofs.asked_code.Goals as goal

pub returns-then-v-gt-MAX_PLACES : goal.returns-then-v-gt-MAX_PLACES
returns-then-v-gt-MAX_PLACES c =
    let a = c.args in
    let T = table_of a.pack.now in
    let x = joined_in T a.s in
    let d = bounded a.b x in
    part_crowded d a.vs a.ws c.requires.settled c.least_f-f.result c.least_room-v.result (c.least_f-f.ensures ∙ bounded_f a.b x) c.least_room-v.ensures.0 (search rules)

pub code_of-requires : goal.code_of-requires
code_of-requires c =
    let a = c.args in
    let T = table_of a.pack.now in
    (c.least_room-v.ensures.1, f_most c.least_f-f.result (joined_in T a.s) c.least_f-f.ensures)

pub returns-then-x-code_of : goal.returns-then-x-code_of
returns-then-x-code_of c =
    let a = c.args in
    let T = table_of a.pack.now in
    let x = joined_in T a.s in
    let d = bounded a.b x in
    part_reached d a.vs a.ws c.requires.settled c.least_f-f.result c.least_room-v.result (c.least_f-f.ensures ∙ bounded_f a.b x) c.least_room-v.ensures.0 c.zeros_of-k.result c.tail_code-x.result c.zeros_of-k.ensures.0 c.tail_code-x.ensures (omega (arith, c.if-x-code_of.true, c.code_of.ensures))
