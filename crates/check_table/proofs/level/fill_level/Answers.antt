-- `check_table::level::fill_level` stores the segments that it finds. Invariant: they cover the numbers below p, and the levels below stand.
use native.Mathlib.Omega.{arith}
use mathlib.Core.Path.{refl, sym, subst}
use Rattle.check_runs.specs.Kept.{Listed}
use Rattle.check_runs.proofs.Keeping.{gathered_listed}
use Prim.Native.Nat.{ℕ}
use Rattle.pack_rules.specs.Stretch.{table_of}
use Rattle.check_laws.proofs.Readying.{fit_room}
use Rattle.check_table.proofs.Finding.{kept_fresh}
use Rattle.check_table.proofs.Building.{filling_start, filling_more, filling_done, filling_all, level_small}
use Rattle.check_table.proofs.level.fill_level.Goals as goal

pub size_of-requires : goal.size_of-requires
size_of-requires c = (c.requires.fit.1, c.requires.fit.2)

pub list_level-list-requires : goal.list_level-list-requires
list_level-list-requires c = omega (arith, c.size_of.ensures, c.requires.fit.3)

pub loop-p-init : goal.loop-p-init
loop-p-init c = let a = c.args in let T = table_of a.pack.now in let p = c.requires in (filling_start a.m p.laid p.tabled, refl, kept_fresh T a.s a.q c.list_level-list.result.level 0)

pub find-f-requires : goal.find-f-requires
find-f-requires c = let a = c.args in let T = table_of a.pack.now in let p = c.requires in let i = c.loop-p.invariant in let v = c.list_level-list in
    record {
      fit = (p.fit.0, fit_room a.q a.m p.fit.0 (omega (arith, level_small a.j a.m p.fit.4 p.fit.5)), i.0.reach, p.fit.1, p.fit.2, p.fit.3, subst (λ (k : ℕ). Listed T a.s a.q k v.result.at v.result.count) (sym v.ensures.level) (gathered_listed T a.s a.q a.j a.marks.now.tiers v.result.at v.result.count c.size_of.result (omega (arith, p.fit.4)) p.fit.6 c.size_of.ensures (omega (arith, c.size_of.ensures, p.fit.3)) v.ensures.gathered));
      laid = i.0.laid;
      tabled = i.0.tabled;
      kept = i.2;
    }

pub returns-then-m-f : goal.returns-then-m-f
returns-then-m-f c = let p = c.requires in let i = c.loop-p.invariant in
    record {
      laid_after = i.0.laid;
      tabled_after = i.0.tabled;
      at_kept = i.1;
      covers = λ _. rw p.fit.5 at (filling_done i.0 (rw c.list_level-list.ensures.level at c.find-f.ensures.opens) c.if-m-f.true);
    }

pub returns-then-n-ge-ROOM : goal.returns-then-n-ge-ROOM
returns-then-n-ge-ROOM c = let i = c.loop-p.invariant in
    record {
      laid_after = i.0.laid;
      tabled_after = i.0.tabled;
      at_kept = i.1;
      covers = λ h. absurd (omega arith);
    }

pub overflow_cast-table : goal.overflow_cast-table
overflow_cast-table c = let a = c.args in let T = table_of a.pack.now in let p = c.requires in let i = c.loop-p.invariant in let o = (rw c.list_level-list.ensures.level at c.find-f.ensures.opens) in omega (arith, level_small a.j a.m p.fit.4 p.fit.5, o.least.high, c.if-m-f.false)

pub overflow_sub-table : goal.overflow_sub-table
overflow_sub-table c = let a = c.args in let T = table_of a.pack.now in let p = c.requires in let i = c.loop-p.invariant in let o = (rw c.list_level-list.ensures.level at c.find-f.ensures.opens) in omega (arith, o.some (omega (arith, c.if-m-f.false)))

pub overflow_cast-table-in-loop-p : goal.overflow_cast-table-in-loop-p
overflow_cast-table-in-loop-p c = let a = c.args in let T = table_of a.pack.now in let p = c.requires in let i = c.loop-p.invariant in let o = (rw c.list_level-list.ensures.level at c.find-f.ensures.opens) in omega (arith, level_small a.j a.m p.fit.4 p.fit.5, o.until (omega (arith, c.if-m-f.false)))

pub loop-p-smaller : goal.loop-p-smaller
loop-p-smaller c = let a = c.args in let T = table_of a.pack.now in let p = c.requires in let i = c.loop-p.invariant in let o = (rw c.list_level-list.ensures.level at c.find-f.ensures.opens) in omega (arith, o.least.low, o.some (omega (arith, c.if-m-f.false)), c.loop-p-test.true)

pub loop-p-preserved : goal.loop-p-preserved
loop-p-preserved c = let a = c.args in let T = table_of a.pack.now in let p = c.requires in let i = c.loop-p.invariant in let o = (rw c.list_level-list.ensures.level at c.find-f.ensures.opens) in (filling_more i.0 o (level_small a.j a.m p.fit.4 p.fit.5) (omega (arith, c.if-n-ge-ROOM.false)) (omega (arith, c.if-m-f.false)), i.1, c.find-f.ensures.kept_after)

pub returns : goal.returns
returns c = let p = c.requires in let i = c.loop-p.invariant in
    record {
      laid_after = i.0.laid;
      tabled_after = i.0.tabled;
      at_kept = i.1;
      covers = λ _. rw p.fit.5 at (filling_all i.0 (omega (arith, c.loop-p-test.false)));
    }
