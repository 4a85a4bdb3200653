-- `check_least::search::in_window` goes from run to run. Invariant: none before p passes; the runs kept are right.
use native.Mathlib.Omega.{arith}
use Rattle.check_runs.specs.Kept.{Listed}
use Rattle.check_runs.proofs.Keeping.{gathered_listed}
use Prim.Native.Nat.{ℕ}
use mathlib.Core.Path.{sym, subst, ◌∙◌}
use Rattle.pack_rules.specs.Stretch.{table_of}
use Rattle.check_laws.specs.Read.{joined_in}
use Rattle.check_laws.specs.Levels.{own, window}
use Rattle.check_laws.proofs.Searched.{room_le}
use Rattle.check_table.proofs.Finding.{kept_fresh}
use Rattle.check_least.proofs.Searching.{passed_start, passed_more, passed_hit, passed_end}
use Rattle.check_least.proofs.search.in_window.Goals as goal

pub size_of-requires : goal.size_of-requires
size_of-requires c = (c.requires.3, c.requires.4)

pub list_level-list-requires : goal.list_level-list-requires
list_level-list-requires c = omega (arith, c.size_of.ensures, c.requires.5)

pub loop-p-init : goal.loop-p-init
loop-p-init c = let a = c.args in let T = table_of a.pack.now in (passed_start (own a.q (joined_in T a.s) window) a.lo a.hi a.lo, kept_fresh T a.s a.q c.list_level-list.result.level a.lo)

pub clause_run-run-requires : goal.clause_run-run-requires
clause_run-run-requires c = let a = c.args in let T = table_of a.pack.now in let p = c.requires in let i = c.loop-p.invariant in let v = c.list_level-list in
    record {
      fit = p.0;
      room = room_le a.q c.loop-p.p a.hi p.1 (omega (arith, c.loop-p-test.true));
      in_room = (p.3, p.4, p.5, subst (λ (k : ℕ). Listed T a.s a.q k v.result.at v.result.count) (sym v.ensures.level) (gathered_listed T a.s a.q window a.marks.now.tiers v.result.at v.result.count c.size_of.result (omega arith) p.6 c.size_of.ensures (omega (arith, c.size_of.ensures, p.5)) v.ensures.gathered));
      kept = i.1;
    }

pub returns-then-run : goal.returns-then-run
returns-then-run c = let a = c.args in let T = table_of a.pack.now in let p = c.requires in let i = c.loop-p.invariant in let x = joined_in T a.s in let r = rw c.list_level-list.ensures.level at c.clause_run-run.ensures.alike in passed_hit (own a.q x window) a.lo a.hi c.loop-p.p i.0 c.loop-p-test.true (r.same c.loop-p.p (omega arith) r.some ∙ c.if-run.true)

pub loop-p-smaller : goal.loop-p-smaller
loop-p-smaller c = omega (arith, c.clause_run-run.ensures.alike.some, c.loop-p-test.true)

pub loop-p-preserved : goal.loop-p-preserved
loop-p-preserved c = let a = c.args in let T = table_of a.pack.now in let p = c.requires in let i = c.loop-p.invariant in let x = joined_in T a.s in let r = c.clause_run-run.ensures in let k = rw c.list_level-list.ensures.level at r.alike in (passed_more (own a.q x window) a.lo a.hi c.loop-p.p i.0 c.clause_run-run.result.stop (omega (arith, k.some)) (λ x b e. k.same x b e ∙ c.if-run.false), λ j h x b. r.kept_after j h x (omega (arith, k.some)))

pub returns : goal.returns
returns c = let a = c.args in let T = table_of a.pack.now in let p = c.requires in let i = c.loop-p.invariant in let x = joined_in T a.s in passed_end (own a.q x window) a.lo a.hi c.loop-p.p i.0 p.2 (omega (arith, c.loop-p-test.false))
