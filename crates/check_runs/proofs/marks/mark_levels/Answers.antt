-- `check_runs::marks::mark_levels` marks the level of each relation. Invariant: those of the relations so far are marked.
use Rattle.pack_rules.specs.Stretch.{single_at, relation_by, table_of}
use Rattle.pack_rules.specs.declared.single.Single.{Single}
use native.Mathlib.Omega.{arith}
use Prim.Native.Nat.{◌≤◌}
use mathlib.Core.Path.{ap, sym, subst, ◌∙◌}
use Rattle.check_runs.specs.Kept.{size_of, Noted}
use Rattle.check_relation.specs.Runs.{tier}
use Rattle.check_runs.proofs.Marking.{Telling, marks_more, marks_own, marks_levelled, telling_more}
use Rattle.check_runs.proofs.marks.mark_levels.Goals as goal

pub loop-k-preserved : goal.loop-k-preserved
loop-k-preserved c =
    let a = c.args in
    let T = table_of a.pack.now in
    let l = c.loop-k in
    let m = c.mark_of-tier in
    let e = c.single_at.ensures ∙ ap (single_at a.pack.now.columns) c.place_of.ensures.value in
    let k = subst (Telling T a.s a.q l.k) (sym m.ensures.tiers_kept) l.invariant.2 in
    (marks_more T a.s a.q l.k l.marks.asked m.new.marks.asked (omega (arith, l.invariant.1, c.loop-k-test.true)) l.invariant.0 (subst (λ (s : Single). Noted a.q (relation_by a.pack.now.low a.pack.now.high s) m.new.marks.asked) e (m.ensures.noted a.pack.now.low a.pack.now.high)) m.ensures.grown, l.invariant.1, telling_more T a.s a.q l.k m.result m.new.marks.tiers (omega (arith, l.invariant.1, c.loop-k-test.true, c.requires.in_room.2)) k (m.ensures.tier a.pack.now.low a.pack.now.high ∙ ap (λ (s : Single). tier a.q (relation_by a.pack.now.low a.pack.now.high s)) e))

pub returns-clause-unasked : goal.returns-clause-unasked
returns-clause-unasked c =
    let a = c.args in
    let l = c.loop-k in
    let h : size_of a.s ≤ l.k = omega (arith, l.invariant.1, c.loop-k-test.false) in
    λ j m e x. marks_own (table_of a.pack.now) a.s a.q l.k l.marks.asked h l.invariant.0 j e x

pub returns-clause-all_levelled : goal.returns-clause-all_levelled
returns-clause-all_levelled c =
    let a = c.args in
    let l = c.loop-k in
    let h : size_of a.s ≤ l.k = omega (arith, l.invariant.1, c.loop-k-test.false) in
    λ e. marks_levelled (table_of a.pack.now) a.s a.q l.k l.marks.asked h l.invariant.0 e
