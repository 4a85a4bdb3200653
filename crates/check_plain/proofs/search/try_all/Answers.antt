-- `check_plain::search::try_all` tries each e in turn. Invariant: none before passes.
use Rattle.pack_rules.specs.Stretch.{table_of}
use Rattle.check_plain.proofs.Trying.{exponents_start, exponents_more, exponents_found, exponents_none}
use borrow.Author.Rules.{rules}
use Rattle.check_plain.proofs.search.try_all.Goals as goal

pub loop-e-init : goal.loop-e-init
loop-e-init c =
    let a = c.args in
    exponents_start (table_of a.pack.now) a.pack.now.relations a.pack.now.clauses a.p a.q

pub returns-then-s-lt-NO_EXPONENT : goal.returns-then-s-lt-NO_EXPONENT
returns-then-s-lt-NO_EXPONENT c =
    let a = c.args in
    let r = c.try_places-s in
    exponents_found (table_of a.pack.now) a.pack.now.relations a.pack.now.clauses a.p a.q c.loop-e.e r.result (search rules) c.loop-e.invariant r.ensures (search rules)

pub loop-e-preserved : goal.loop-e-preserved
loop-e-preserved c =
    let a = c.args in
    let r = c.try_places-s in
    exponents_more (table_of a.pack.now) a.pack.now.relations a.pack.now.clauses a.p a.q c.loop-e.e r.result c.loop-e.invariant r.ensures (search rules)

pub returns : goal.returns
returns c =
    let a = c.args in
    exponents_none (table_of a.pack.now) a.pack.now.relations a.pack.now.clauses a.p a.q c.loop-e.e c.nowhere.result (search rules) c.loop-e.invariant c.nowhere.ensures.1 c.nowhere.ensures.0
