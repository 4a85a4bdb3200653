-- `check_plain::search::try_integers` tries each i in turn. Invariant: none before passes.
use native.Mathlib.Omega.{arith}
use Rattle.pack_rules.specs.Stretch.{table_of}
use Rattle.check_plain.specs.Search.{meets_both}
use Rattle.check_plain.proofs.Trying.{integers_start, integers_more, integers_found, integers_none}
use borrow.Author.Rules.{rules}
use Rattle.check_plain.proofs.search.try_integers.Goals as goal

pub loop-i-init : goal.loop-i-init
loop-i-init c =
    let a = c.args in
    (omega (arith, c.lowest_of-i.ensures), integers_start (meets_both (table_of a.pack.now) a.pack.now.relations a.pack.now.clauses a.p a.q) a.e a.v c.lowest_of-i.result c.requires.0 c.requires.1 c.lowest_of-i.ensures)

pub try_fractions-s-requires : goal.try_fractions-s-requires
try_fractions-s-requires c = (c.requires.0, c.requires.1, c.loop-i.invariant.0, search rules)

pub returns-then-s-lt-NO_EXPONENT : goal.returns-then-s-lt-NO_EXPONENT
returns-then-s-lt-NO_EXPONENT c =
    let a = c.args in
    let r = c.try_fractions-s in
    integers_found (meets_both (table_of a.pack.now) a.pack.now.relations a.pack.now.clauses a.p a.q) a.e a.v c.loop-i.i r.result (search rules) c.loop-i.invariant.1 r.ensures (search rules)

pub loop-i-preserved : goal.loop-i-preserved
loop-i-preserved c =
    let a = c.args in
    let r = c.try_fractions-s in
    (omega (arith, c.loop-i.invariant.0), integers_more (meets_both (table_of a.pack.now) a.pack.now.relations a.pack.now.clauses a.p a.q) a.e a.v c.loop-i.i r.result c.loop-i.invariant.1 r.ensures (search rules))

pub returns : goal.returns
returns c =
    let a = c.args in
    integers_none (meets_both (table_of a.pack.now) a.pack.now.relations a.pack.now.clauses a.p a.q) a.e a.v c.loop-i.i c.nowhere.result (search rules) c.loop-i.invariant.1 c.nowhere.ensures.1 c.nowhere.ensures.0
