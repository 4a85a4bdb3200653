-- `check_table::level::build` adds the levels in turn. Invariant: those below j stand.
use native.Mathlib.Omega.{arith}
use Rattle.pack_rules.specs.Stretch.{table_of}
use Rattle.check_laws.specs.Read.{joined_in}
use Rattle.check_table.proofs.Building.{building_start, building_more, built_empty, built_all, is_full, level_small}
use Rattle.check_table.proofs.level.build.Goals as goal

pub loop-j-init : goal.loop-j-init
loop-j-init c = building_start c.requires.laid

pub add_level-requires : goal.add_level-requires
add_level-requires c =
    let p = c.requires in
    let i = c.loop-j.invariant in
    record {
      fit = (p.fit.0, p.fit.1, p.fit.2, p.fit.3, omega (arith, c.loop-j-test.true), i.power, p.fit.4);
      unasked = λ e. p.unasked c.loop-j.j (omega arith) e;
      laid = i.laid;
      tabled = i.tabled;
    }

pub returns-in-Empty : goal.returns-in-Empty
returns-in-Empty c =
    let a = c.args in
    let c' = joined_in (table_of a.pack.now) a.s in
    built_empty a.q c' c.loop-j.j c.add_level.ensures (omega (arith, c.loop-j-test.true)) c.in-Empty.is

pub returns-in-Full : goal.returns-in-Full
returns-in-Full c = is_full

pub overflow_mul-m : goal.overflow_mul-m
overflow_mul-m c =
    let i = c.loop-j.invariant in
    omega (arith, level_small c.loop-j.j c.loop-j.m (omega (arith, c.loop-j-test.true)) i.power)

pub loop-j-preserved : goal.loop-j-preserved
loop-j-preserved c =
    let i = c.loop-j.invariant in
    building_more c.add_level.ensures (omega (arith, c.loop-j-test.true)) i.power c.in-Stands.is

pub returns : goal.returns
returns c =
    let i = c.loop-j.invariant in
    built_all i (omega (arith, c.loop-j-test.false))
