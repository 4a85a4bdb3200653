-- `check_runs::clause::passes_at` asks the last digit and each relation. Invariant: x passes all exactly where it passes those left.
use Rattle.pack_rules.specs.Stretch.{single_at, relation_by, table_of}
use native.Mathlib.Omega.{arith}
use mathlib.Core.Path.{sym, ap, ◌∙◌}
use Rattle.pack_rules.specs.Syntax.{Relation}
use Rattle.pack_rules.specs.declared.single.Single.{Single}
use Rattle.meaning.proofs.Meanings.{all_failed, all_next, all_passed}
use Rattle.check_laws.specs.Fast.{passes}
use Rattle.check_runs.specs.Kept.{size_of}
use Rattle.check_runs.proofs.Keeping.{relation_of, rest_all, ends_not}
use Rattle.check_runs.proofs.clause.passes_at.Goals as goal

pub returns-then-not-ends_of : goal.returns-then-not-ends_of
returns-then-not-ends_of c =
    let a = c.args in
    let T = table_of a.pack.now in
    ends_not T a.s a.q a.x c.ends_of.result c.ends_of.ensures c.if-not-ends_of.true

pub loop-k-init : goal.loop-k-init
loop-k-init c =
    let a = c.args in
    let T = table_of a.pack.now in
    rest_all T a.s a.q a.x c.ends_of.result c.ends_of.ensures c.if-not-ends_of.false

pub place_of-requires : goal.place_of-requires
place_of-requires c = (c.requires.1, c.requires.2, omega (arith, c.size_of-k-end.ensures, c.loop-k-test.true))

pub single_at-requires : goal.single_at-requires
single_at-requires c = c.place_of.ensures.upper_bound

pub returns-then-not-passes_of : goal.returns-then-not-passes_of
returns-then-not-passes_of c =
    let a = c.args in
    let T = table_of a.pack.now in
    let l = c.loop-k in
    let e = c.passes_of.ensures ∙ ap (λ (s : Single). passes a.q (relation_by a.pack.now.low a.pack.now.high s) a.x) (c.single_at.ensures ∙ ap (single_at a.pack.now.columns) c.place_of.ensures.value) in
    sym (sym l.invariant ∙ all_failed (λ (r : Relation). passes a.q r a.x) (relation_of T a.s) l.k (size_of a.s) (omega (arith, c.size_of-k-end.ensures, c.loop-k-test.true)) (sym e ∙ c.if-not-passes_of.true))

pub loop-k-preserved : goal.loop-k-preserved
loop-k-preserved c =
    let a = c.args in
    let T = table_of a.pack.now in
    let l = c.loop-k in
    let e = c.passes_of.ensures ∙ ap (λ (s : Single). passes a.q (relation_by a.pack.now.low a.pack.now.high s) a.x) (c.single_at.ensures ∙ ap (single_at a.pack.now.columns) c.place_of.ensures.value) in
    (sym (all_next (λ (r : Relation). passes a.q r a.x) (relation_of T a.s) l.k (size_of a.s) (omega (arith, c.size_of-k-end.ensures, c.loop-k-test.true)) (sym e ∙ c.if-not-passes_of.false)) ∙ l.invariant)

pub returns : goal.returns
returns c =
    let a = c.args in
    let T = table_of a.pack.now in
    let l = c.loop-k in
    sym (sym l.invariant ∙ all_passed (λ (r : Relation). passes a.q r a.x) (relation_of T a.s) l.k (size_of a.s) (omega (arith, c.size_of-k-end.ensures, c.loop-k-test.false)))
