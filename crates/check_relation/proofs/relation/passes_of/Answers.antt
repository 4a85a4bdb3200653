-- `check_relation::relation::passes_of`: what is not asked passes.
use mathlib.Core.Path.{◌∙◌}
use borrow.Author.Tests.{eq-eqb}
use native.Mathlib.Omega.{arith}
use Rattle.pack_rules.specs.Stretch.{relation_by}
use Rattle.check_laws.proofs.Searched.{room_factor}
use Rattle.check_relation.proofs.Levelling.{passes_unasked, passes_asked}
use Rattle.check_relation.proofs.relation.passes_of.Goals as goal

pub returns-then-k-eq0 : goal.returns-then-k-eq0
returns-then-k-eq0 c =
    let a = c.args in
    eq-eqb _ _ c.if-k-eq0.true ∙ passes_unasked a.q (relation_by a.pack.now.low a.pack.now.high a.s) c.factor_of-k.result c.factor_of-k.ensures a.x c.if-k-eq0.true

pub overflow_mul-x : goal.overflow_mul-x
overflow_mul-x c =
    let a = c.args in
    omega (arith, room_factor a.q a.x a.s.operand c.factor_of-k.result c.requires c.factor_of-k.ensures)

pub holds_of-requires : goal.holds_of-requires
holds_of-requires c =
    let a = c.args in
    room_factor a.q a.x a.s.operand c.factor_of-k.result c.requires c.factor_of-k.ensures

pub returns-else-k-eq0 : goal.returns-else-k-eq0
returns-else-k-eq0 c =
    let a = c.args in
    passes_asked a.q (relation_by a.pack.now.low a.pack.now.high a.s) c.factor_of-k.result c.factor_of-k.ensures a.x c.holds_of.result c.if-k-eq0.false c.holds_of.ensures
