-- `check_fraction::part_code`: no t, or the least over the zeros at the end, by whether f is asked.
use Rattle.pack_rules.specs.Stretch.{table_of}
use Rattle.check_laws.specs.Read.{joined_in}
use Rattle.check_laws.specs.Bounded.{bounded}
use mathlib.Core.Path.{sym, ◌∙◌}
use Rattle.check_laws.proofs.Bounding.{bounded_alone}
use Rattle.check_laws.proofs.Placing.{part_none}
use Rattle.check_laws.proofs.Profiles.{profile_settled}
use borrow.Author.Rules.{rules}
use Rattle.check_fraction.proofs.part_code.Goals as goal

pub returns-then-t-ge-FRACTION_LIMIT : goal.returns-then-t-ge-FRACTION_LIMIT
returns-then-t-ge-FRACTION_LIMIT c =
    let a = c.args in
    let T = table_of a.pack.now in
    let x = joined_in T a.s in
    let d = bounded a.b x in
    part_none d c.alone_of-t.result (c.alone_of-t.ensures ∙ bounded_alone a.b x) (search rules)

pub least_code-requires : goal.least_code-requires
least_code-requires c =
    let a = c.args in
    let T = table_of a.pack.now in
    let x = joined_in T a.s in
    let d = bounded a.b x in
    record {
      in_room = (c.requires.in_room.0, c.requires.in_room.1, c.alone_of-t.ensures, sym c.if-spares_f.true ∙ c.spares_f.ensures d c.requires.profile);
      settled = profile_settled d a.p c.requires.profile _ _ c.v_of-vs.ensures c.w_of-ws.ensures;
    }

pub asked_code-requires : goal.asked_code-requires
asked_code-requires c =
    let a = c.args in
    let T = table_of a.pack.now in
    let x = joined_in T a.s in
    let d = bounded a.b x in
    record {
      in_room = (c.requires.in_room.0, c.requires.in_room.1, c.alone_of-t.ensures, sym c.if-spares_f.false ∙ c.spares_f.ensures d c.requires.profile);
      settled = profile_settled d a.p c.requires.profile _ _ c.v_of-vs.ensures c.w_of-ws.ensures;
    }
