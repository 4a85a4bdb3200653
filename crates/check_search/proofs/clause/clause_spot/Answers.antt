-- `check_search::clause::clause_spot`: no e, or the number at the least e.
use Rattle.pack_rules.specs.Stretch.{table_of}
use Rattle.check_laws.specs.Read.{joined_in}
use Rattle.check_laws.specs.Bounded.{bounded}
use Rattle.check_laws.proofs.Spotting.{clause_none}
use borrow.Author.Rules.{rules}
use Rattle.check_search.proofs.clause.clause_spot.Goals as goal

pub returns-then-e-gt-MAX_EXPONENT : goal.returns-then-e-gt-MAX_EXPONENT
returns-then-e-gt-MAX_EXPONENT c = let a = c.args in let T = table_of a.pack.now in let x = joined_in T a.s in let d = bounded a.b x in (clause_none d c.exponent_of-e.result _ (c.exponent_of-e.ensures d c.requires.profile) c.if-e-gt-MAX_EXPONENT.true c.nowhere.ensures.0, c.nowhere.ensures.1)

pub spot_at-requires : goal.spot_at-requires
spot_at-requires c = let a = c.args in let T = table_of a.pack.now in let x = joined_in T a.s in let d = bounded a.b x in
    record {
      e_le_max_exponent = (search rules, c.requires.in_room.0, c.requires.in_room.1, c.requires.in_room.2);
      profile = (c.requires.profile, c.exponent_of-e.ensures d c.requires.profile);
    }
