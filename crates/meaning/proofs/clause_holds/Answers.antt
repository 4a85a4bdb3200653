-- `meaning::clause_holds` tests a stretch of relations. The invariant: what is left decides as the whole does.
use Rattle.pack_rules.specs.declared.single.Single.{Single}
use mathlib.Core.Path.{sym, ap, ◌∙◌}
use Rattle.pack_rules.specs.Syntax.{Relation}
use Rattle.pack_rules.specs.Stretch.{relation_by, table_of, relation_at}
use Rattle.meaning.specs.Meaning.{holds}
use Rattle.meaning.proofs.Meanings.{all_failed, all_next, all_passed}
use Rattle.meaning.proofs.clause_holds.Goals as goal

pub returns-then-not-relation_holds : goal.returns-then-not-relation_holds
returns-then-not-relation_holds c =
    let l = c.loop-j in
    let a = c.args in
    let T = table_of a.pack.now in
    let h = c.relation_holds in
    let e = h.ensures ∙ ap (λ (s : Single). holds (relation_by a.pack.now.low a.pack.now.high s) a.x) c.single_at.ensures in
    sym (sym l.invariant ∙ all_failed (λ (r : Relation). holds r a.x) (relation_at T) l.j a.to c.loop-j-test.true (sym e ∙ c.if-not-relation_holds.true))

pub loop-j-preserved : goal.loop-j-preserved
loop-j-preserved c =
    let l = c.loop-j in
    let a = c.args in
    let T = table_of a.pack.now in
    let h = c.relation_holds in
    let e = h.ensures ∙ ap (λ (s : Single). holds (relation_by a.pack.now.low a.pack.now.high s) a.x) c.single_at.ensures in
    sym (all_next (λ (r : Relation). holds r a.x) (relation_at T) l.j a.to c.loop-j-test.true (sym e ∙ c.if-not-relation_holds.false)) ∙ l.invariant

pub returns : goal.returns
returns c =
    let a = c.args in
    let T = table_of a.pack.now in
    sym (sym c.loop-j.invariant ∙ all_passed (λ (r : Relation). holds r a.x) (relation_at T) c.loop-j.j a.to c.loop-j-test.false)
