-- `check_least::least_number` searches where there is room.
use mathlib.Core.Path.{sym, ◌∙◌}
use Rattle.pack_rules.specs.Stretch.{table_of}
use Rattle.check_laws.proofs.Readying.{ready_room, ready_fit}
use Rattle.check_least.proofs.Searching.{answer_ready, answer_not}
use Rattle.check_least.proofs.least_number.Goals as goal

pub least-requires : goal.least-requires
least-requires c =
    let a = c.args in
    let e = sym c.is_ready.ensures ∙ c.if-is_ready.true in
    let r = ready_room a.s a.q a.lo a.hi e in
    (ready_fit a.s a.q a.lo a.hi e, r.1, r.0, r.2, r.3)

pub returns-then-is_ready : goal.returns-then-is_ready
returns-then-is_ready c =
    let a = c.args in
    let T = table_of a.pack.now in
    let e = sym c.is_ready.ensures ∙ c.if-is_ready.true in
    answer_ready T a.s a.q a.lo a.hi c.least.result e (ready_room a.s a.q a.lo a.hi e).0 c.least.ensures

pub returns : goal.returns
returns c =
    let a = c.args in
    let T = table_of a.pack.now in
    answer_not T a.s a.q a.lo a.hi (sym c.is_ready.ensures ∙ c.if-is_ready.false)
