-- `check_search::clause::spot_at`: only where f is not 0, or where it is 0 and that comes first, or the earlier of both.
use Rattle.pack_rules.specs.Stretch.{table_of}
use Rattle.check_laws.specs.Read.{joined_in}
use Rattle.check_laws.specs.Bounded.{bounded}
use mathlib.Core.Path.{refl, ◌∙◌}
use mathlib.Core.Bool.{true}
use Rattle.check_laws.proofs.Bounding.{bounded_integer}
use Rattle.check_laws.proofs.Placing.{code_whole}
use Rattle.check_laws.proofs.Spotting.{clause_some}
use Rattle.check_laws.proofs.Whole.{clause_whole, clause_part}
use borrow.Author.Rules.{rules}
use Rattle.check_search.proofs.clause.spot_at.Goals as goal

pub part_spot-requires : goal.part_spot-requires
part_spot-requires c =
    record {
      e_le_max_exponent = c.requires.e_le_max_exponent;
      profile = c.requires.profile.0;
    }

pub returns-then-q-ge-FRACTIONS : goal.returns-then-q-ge-FRACTIONS
returns-then-q-ge-FRACTIONS c = let a = c.args in let T = table_of a.pack.now in let x = joined_in T a.s in let d = bounded a.b x in (clause_part d a.e c.whole_code-q.result _ c.requires.profile.1 c.requires.e_le_max_exponent.0 (code_whole d true _ refl (c.whole_code-q.ensures d c.requires.profile.0)) c.if-q-ge-FRACTIONS.true c.part_spot.ensures.0 c.part_spot.ensures.1.ranked, c.part_spot.ensures.1)

pub integer_of-i-requires : goal.integer_of-i-requires
integer_of-i-requires c = (c.requires.e_le_max_exponent.0, c.requires.e_le_max_exponent.1, c.requires.e_le_max_exponent.2, c.requires.e_le_max_exponent.3.whole)

pub spot_of-x-requires : goal.spot_of-x-requires
spot_of-x-requires c = (c.requires.e_le_max_exponent.0, search rules)

pub returns-then-comes_first : goal.returns-then-comes_first
returns-then-comes_first c = let a = c.args in let T = table_of a.pack.now in let x = joined_in T a.s in let d = bounded a.b x in let g = code_whole d true _ refl (c.whole_code-q.ensures d c.requires.profile.0) in let i = c.integer_of-i.ensures ∙ bounded_integer a.b x true a.e c.requires.e_le_max_exponent.0 in (clause_whole d a.e _ c.requires.profile.1 c.requires.e_le_max_exponent.0 (c.spot_of-x.ensures.0 true d g i) (c.comes_first.ensures c.if-comes_first.true d a.e c.requires.profile.0 c.requires.e_le_max_exponent.0 g i), c.spot_of-x.ensures.1)

pub part_spot-y-requires : goal.part_spot-y-requires
part_spot-y-requires c =
    record {
      e_le_max_exponent = c.requires.e_le_max_exponent;
      profile = c.requires.profile.0;
    }

pub earlier-requires : goal.earlier-requires
earlier-requires c = (c.spot_of-x.ensures.1, c.part_spot-y.ensures.1)

pub returns : goal.returns
returns c = let a = c.args in let T = table_of a.pack.now in let x = joined_in T a.s in let d = bounded a.b x in let g = code_whole d true _ refl (c.whole_code-q.ensures d c.requires.profile.0) in let i = c.integer_of-i.ensures ∙ bounded_integer a.b x true a.e c.requires.e_le_max_exponent.0 in (clause_some d a.e _ _ _ c.requires.profile.1 c.requires.e_le_max_exponent.0 (c.spot_of-x.ensures.0 true d g i) c.part_spot-y.ensures.0 c.earlier.ensures.0, c.earlier.ensures.1)
