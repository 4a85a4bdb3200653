-- `meaning::condition_holds` tests a stretch of clauses. The invariant: what is left decides as the whole does.
use mathlib.Core.Path.{◌≡◌, sym, ◌∙◌}
use mathlib.Core.List.{List}
use Rattle.pack_rules.specs.Syntax.{Relation}
use Rattle.pack_rules.specs.Stretch.{table_of, clause_at}
use Rattle.meaning.specs.Meaning.{clause_holds}
use Rattle.meaning.proofs.Meanings.{any_found, any_next, any_none}
use Rattle.meaning.proofs.condition_holds.Goals as goal

pub returns-then-clause_holds : goal.returns-then-clause_holds
returns-then-clause_holds c =
    let a = c.args in
    let T = table_of a.pack.now in
    let h : c.clause_holds.result ≡ clause_holds (clause_at T a.pack.now.relations c.loop-j.j) a.x = c.clause_holds.ensures ∙ rw (c.start_at.ensures, c.stop_at.ensures) in
    sym (sym c.loop-j.invariant ∙ any_found (λ (r : List Relation). clause_holds r a.x) (clause_at T a.pack.now.relations) c.loop-j.j a.to c.loop-j-test.true (sym h ∙ c.if-clause_holds.true))

pub loop-j-preserved : goal.loop-j-preserved
loop-j-preserved c =
    let a = c.args in
    let T = table_of a.pack.now in
    let h : c.clause_holds.result ≡ clause_holds (clause_at T a.pack.now.relations c.loop-j.j) a.x = c.clause_holds.ensures ∙ rw (c.start_at.ensures, c.stop_at.ensures) in
    sym (any_next (λ (r : List Relation). clause_holds r a.x) (clause_at T a.pack.now.relations) c.loop-j.j a.to c.loop-j-test.true (sym h ∙ c.if-clause_holds.false)) ∙ c.loop-j.invariant

pub returns : goal.returns
returns c =
    let a = c.args in
    let T = table_of a.pack.now in
    sym (sym c.loop-j.invariant ∙ any_none (λ (r : List Relation). clause_holds r a.x) (clause_at T a.pack.now.relations) c.loop-j.j a.to c.loop-j-test.false)
