-- `check_least::search::by_table` finds the least number of the window that passes the levels: all that the clause asks.
use native.Mathlib.Omega.{arith}
use mathlib.Core.Path.{sym, subst}
use Rattle.check_runs.specs.Kept.{Listed}
use Rattle.check_runs.proofs.Keeping.{gathered_listed}
use Prim.Native.Nat.{ℕ}
use Rattle.pack_rules.specs.Stretch.{table_of}
use Rattle.check_laws.specs.Read.{joined_in}
use Rattle.check_table.proofs.Finding.{kept_fresh}
use Rattle.check_least.proofs.Searching.{least_levelled}
use Rattle.check_least.proofs.search.by_table.Goals as goal

pub size_of-requires : goal.size_of-requires
size_of-requires c = (c.requires.fit.3, c.requires.fit.4)

pub list_level-list-requires : goal.list_level-list-requires
list_level-list-requires c = omega (arith, c.size_of.ensures, c.requires.fit.5)

pub find-f-requires : goal.find-f-requires
find-f-requires c = let a = c.args in let T = table_of a.pack.now in let p = c.requires in let v = c.list_level-list in
    record {
      fit = (p.fit.0, p.fit.1, p.fit.2, p.fit.3, p.fit.4, p.fit.5, subst (λ (k : ℕ). Listed T a.s a.q k v.result.at v.result.count) (sym v.ensures.level) (gathered_listed T a.s a.q 7 a.marks.now.tiers v.result.at v.result.count c.size_of.result (omega arith) p.fit.6 c.size_of.ensures (omega (arith, c.size_of.ensures, p.fit.5)) v.ensures.gathered));
      laid = p.laid;
      tabled = p.tabled;
      kept = kept_fresh T a.s a.q v.result.level a.lo;
    }

pub returns : goal.returns
returns c = let a = c.args in let T = table_of a.pack.now in least_levelled a.q (joined_in T a.s) c.requires.all_levelled (rw c.list_level-list.ensures.level at c.find-f.ensures.opens)
