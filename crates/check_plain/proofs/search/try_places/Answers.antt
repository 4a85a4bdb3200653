-- `check_plain::search::try_places` tries each v in turn. Invariant: none before passes.
use Rattle.pack_rules.specs.Stretch.{table_of}
use Rattle.check_plain.specs.Search.{meets_both, rank_at}
use Rattle.check_plain.proofs.Trying.{none_start, places_more, places_found, places_none}
use borrow.Author.Rules.{rules}
use Rattle.check_plain.proofs.search.try_places.Goals as goal

pub loop-v-init : goal.loop-v-init
loop-v-init c =
    let a = c.args in
    none_start (meets_both (table_of a.pack.now) a.pack.now.relations a.pack.now.clauses a.p a.q) (rank_at a.e 0 0 0)

pub returns-then-s-lt-NO_EXPONENT : goal.returns-then-s-lt-NO_EXPONENT
returns-then-s-lt-NO_EXPONENT c =
    let a = c.args in
    let r = c.try_integers-s in
    places_found (meets_both (table_of a.pack.now) a.pack.now.relations a.pack.now.clauses a.p a.q) a.e c.loop-v.v r.result (search rules) c.loop-v.invariant r.ensures (search rules)

pub loop-v-preserved : goal.loop-v-preserved
loop-v-preserved c =
    let a = c.args in
    let r = c.try_integers-s in
    places_more (meets_both (table_of a.pack.now) a.pack.now.relations a.pack.now.clauses a.p a.q) a.e c.loop-v.v r.result c.loop-v.invariant r.ensures (search rules)

pub returns : goal.returns
returns c =
    let a = c.args in
    places_none (meets_both (table_of a.pack.now) a.pack.now.relations a.pack.now.clauses a.p a.q) a.e c.loop-v.v c.nowhere.result (search rules) c.loop-v.invariant c.nowhere.ensures.1 c.nowhere.ensures.0
