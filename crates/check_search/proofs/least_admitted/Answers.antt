-- `check_search::least_admitted` is the search that is run, and that is the definition's.
use Rattle.pack_rules.specs.Stretch.{table_of}
use Rattle.check_laws.specs.Read.{joined_in}
use Rattle.check_laws.specs.Spots.{spot_rank}
use mathlib.Core.Path.{sym, subst}
use Rattle.check_laws.specs.Floors.{Under}
use Rattle.check_laws.proofs.Bounding.{bounded_least}
use Rattle.check_laws.proofs.LastDigit.{raised_under}
use Rattle.check_search.proofs.least_admitted.Goals as goal

pub clause_spot-requires : goal.clause_spot-requires
clause_spot-requires c =
    let a = c.args in
    let p = c.requires in
    let T = table_of a.pack.now in
    let x = joined_in T a.s in
    record {
      in_room = (p.0, p.1, subst (Under x) (sym c.raise.ensures) (raised_under x a.p a.l p.2 p.3));
      profile = c.within.ensures x p.2;
    }

pub returns : goal.returns
returns c = let a = c.args in let T = table_of a.pack.now in (bounded_least a.b (joined_in T a.s) (spot_rank c.clause_spot.result) c.clause_spot.ensures.0, c.clause_spot.ensures.1)
