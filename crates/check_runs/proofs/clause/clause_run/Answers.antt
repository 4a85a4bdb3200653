-- `check_runs::clause::clause_run` joins the runs of its level's relations up to the first that says no. Invariant: those so far say yes; the runs kept are right.
use borrow.Author.Tests.{not-true, not-false}
use Rattle.pack_rules.specs.Stretch.{table_of}
use Rattle.check_runs.proofs.Keeping.{agreed_more, agreed_all, digit_says_no, one_says_no}
use Rattle.check_runs.proofs.clause.clause_run.Goals as goal

pub returns-then-not-digit-clause-alike : goal.returns-then-not-digit-clause-alike
returns-then-not-digit-clause-alike c =
    let a = c.args in
    let d = c.digit_run-digit in
    digit_says_no (table_of a.pack.now) a.s a.q a.list.now.level a.list.now.at a.list.now.count a.p c.requires.in_room.3 d.result.says d.result.stop d.ensures.alike (not-true _ c.if-not-digit.true)

pub returns-then-not-r-clause-alike : goal.returns-then-not-r-clause-alike
returns-then-not-r-clause-alike c =
    let a = c.args in
    let r = c.run_at-r in
    one_says_no (table_of a.pack.now) a.s a.q a.list.now.level a.list.now.at a.list.now.count a.p c.requires.in_room.3 c.loop-i.i r.result.stop c.min.result r.result.says c.loop-i-test.true c.requires.room.self r.ensures.alike (not-true _ c.if-not-r.true) c.min.ensures

pub loop-i-preserved : goal.loop-i-preserved
loop-i-preserved c =
    let a = c.args in
    let l = c.loop-i in
    let r = c.run_at-r in
    (agreed_more (table_of a.pack.now) a.s a.q a.list.now.level a.list.now.at a.list.now.count a.p c.requires.in_room.3 l.i l.end r.result.stop c.min-end.result r.result.says l.invariant.0 r.ensures.alike (not-false _ c.if-not-r.false) c.min-end.ensures, r.ensures.kept_after)

pub returns-clause-alike : goal.returns-clause-alike
returns-clause-alike c =
    let a = c.args in
    let l = c.loop-i in
    agreed_all (table_of a.pack.now) a.s a.q a.list.now.level a.list.now.at a.list.now.count a.p c.requires.in_room.3 l.i l.end c.loop-i-test.false l.invariant.0
