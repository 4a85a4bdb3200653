-- `check_plain::search::try_fractions` tries each f in turn. Invariant: none before passes.
use native.Mathlib.Omega.{arith}
use Rattle.pack_rules.specs.Stretch.{table_of}
use Rattle.check_plain.specs.Search.{meets_both, rank_at}
use Rattle.check_plain.proofs.Trying.{none_start, fractions_more, fractions_found, fractions_none}
use Rattle.check_plain.proofs.search.try_fractions.Goals as goal

pub loop-f-init : goal.loop-f-init
loop-f-init c =
    let a = c.args in
    none_start (meets_both (table_of a.pack.now) a.pack.now.relations a.pack.now.clauses a.p a.q) (rank_at a.e a.v a.i 0)

pub number_at-x-requires : goal.number_at-x-requires
number_at-x-requires c = omega (arith, c.power-f-end.ensures)

pub returns-then-meets_both : goal.returns-then-meets_both
returns-then-meets_both c =
    let a = c.args in
    fractions_found (meets_both (table_of a.pack.now) a.pack.now.relations a.pack.now.clauses a.p a.q) a.e a.v a.i c.requires.0 c.requires.1 c.requires.2 c.requires.3 c.loop-f.f c.number_at-x.result c.meets_both.result
    (omega (arith, c.power-f-end.ensures)) c.number_at-x.ensures c.meets_both.ensures c.if-meets_both.true c.loop-f.invariant

pub loop-f-preserved : goal.loop-f-preserved
loop-f-preserved c =
    let a = c.args in
    fractions_more (meets_both (table_of a.pack.now) a.pack.now.relations a.pack.now.clauses a.p a.q) a.e a.v a.i c.requires.0 c.requires.1 c.requires.2 c.requires.3 c.loop-f.f c.number_at-x.result c.meets_both.result
    (omega (arith, c.power-f-end.ensures)) c.number_at-x.ensures c.meets_both.ensures c.if-meets_both.false c.loop-f.invariant

pub returns : goal.returns
returns c =
    let a = c.args in
    fractions_none (meets_both (table_of a.pack.now) a.pack.now.relations a.pack.now.clauses a.p a.q) a.e a.v a.i c.requires.0 c.requires.1 c.requires.2 c.requires.3 c.loop-f.f c.nowhere.result
    (omega (arith, c.power-f-end.ensures)) c.nowhere.ensures.1 c.nowhere.ensures.0 c.loop-f.invariant
