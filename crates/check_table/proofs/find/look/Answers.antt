-- `check_table::find::look` asks the run of p, and where it holds the levels below.
use native.Mathlib.Omega.{arith}
use Rattle.pack_rules.specs.Stretch.{table_of}
use Rattle.check_laws.specs.Levels.{below}
use Rattle.check_laws.specs.Read.{joined_in}
use Rattle.check_laws.proofs.Searched.{room_le}
use Rattle.check_table.proofs.Finding.{looked_on, looked_off}
use Rattle.check_table.proofs.find.look.Goals as goal

pub clause_run-run-requires : goal.clause_run-run-requires
clause_run-run-requires c =
    let a = c.args in
    let p = c.requires in
    record {
      fit = p.fit.0;
      room = room_le a.q a.p a.end p.fit.1 (omega (arith, p.fit.2));
      in_room = (p.fit.3, p.fit.4, p.fit.5, p.fit.6);
      kept = p.kept;
    }

pub next-requires : goal.next-requires
next-requires c =
    let p = c.requires in
    (p.laid, omega (arith, p.fit.1.self, p.fit.2))

pub returns-then-run : goal.returns-then-run
returns-then-run c =
    let a = c.args in
    let p = c.requires in
    let T = table_of a.pack.now in
    record {
      looked = looked_on c.if-run.true c.clause_run-run.ensures.alike (c.next.ensures.1 (below a.q (joined_in T a.s)) p.tabled) c.min.ensures p.fit.2;
      kept_after = c.clause_run-run.ensures.kept_after;
    }

pub returns : goal.returns
returns c =
    record {
      looked = looked_off c.if-run.false c.clause_run-run.ensures.alike;
      kept_after = c.clause_run-run.ensures.kept_after;
    }
