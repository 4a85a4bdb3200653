-- `check_runs::clause::run_at` takes the run that is kept, or looks for another and keeps it.
use native.Mathlib.Omega.{arith}
use Prim.Native.Nat.{ℕ}
use mathlib.Core.Path.{sym, ap, subst, ◌∙◌}
use Rattle.pack_rules.specs.Stretch.{single_at, relation_by, table_of, relation_at}
use Rattle.pack_rules.specs.declared.single.Single.{Single}
use Rattle.check_laws.specs.Seek.{Alike}
use Rattle.check_laws.specs.Levels.{own_one}
use Rattle.check_relation.specs.Runs.{tier}
use Rattle.check_runs.proofs.Keeping.{relation_of, kept_there, kept_set}
use Rattle.check_runs.proofs.clause.run_at.Goals as goal

pub returns-then-p-end : goal.returns-then-p-end
returns-then-p-end c =
    let a = c.args in
    let p = c.requires in
    record {
      alike = kept_there (table_of a.pack.now) a.s a.q a.level a.p a.runs.now.says a.runs.now.stop a.k p.kept p.in_room.2 c.if-p-end.true;
      kept_after = p.kept;
    }

pub single_at-requires : goal.single_at-requires
single_at-requires c = c.place_of.ensures.upper_bound

pub own_run-r-requires : goal.own_run-r-requires
own_run-r-requires c =
    let a = c.args in
    let p = c.requires in
    let T = table_of a.pack.now in
    let e = c.single_at.ensures in
    record {
      fit = p.fit;
      room = p.room;
      level = (p.in_room.4, p.in_room.5 ∙ ap (λ (j : ℕ). tier a.q (relation_at T j)) (sym c.place_of.ensures.value) ∙ ap (λ (s : Single). tier a.q (relation_by a.pack.now.low a.pack.now.high s)) (sym e));
    }

pub returns : goal.returns
returns c =
    let a = c.args in
    let T = table_of a.pack.now in
    let r = c.own_run-r.result in
    let e = c.single_at.ensures ∙ ap (single_at a.pack.now.columns) c.place_of.ensures.value in
    let f : Alike (own_one a.q a.level (relation_of T a.s a.k)) a.p r.says r.stop = subst (λ (s : Single). Alike (own_one a.q a.level (relation_by a.pack.now.low a.pack.now.high s)) a.p r.says r.stop) e c.own_run-r.ensures.alike in
    record {
      alike = f;
      kept_after = kept_set T a.s a.q a.level a.p a.runs.now.says a.runs.now.stop a.k r.stop r.says (omega (arith, c.requires.in_room.3)) (omega (arith, c.requires.in_room.3)) f c.requires.kept;
    }
