-- `check_search::clause::part_spot`: no v or w, no t, no i, no f, or all.
use Rattle.pack_rules.specs.Stretch.{table_of}
use Rattle.check_laws.specs.Read.{joined_in}
use Rattle.check_laws.specs.Bounded.{bounded}
use mathlib.Core.Path.{refl, ◌∙◌}
use mathlib.Core.Bool.{false}
use Prim.Native.Nat.{◌^◌}
use native.Mathlib.Omega.{arith}
use borrow.Author.Tests.{not-true}
use Rattle.number.specs.Limits.{max_places}
use Rattle.check_laws.proofs.Bounding.{bounded_integer, bounded_alone}
use Rattle.check_laws.proofs.Flooring.{tail_past}
use Rattle.check_laws.proofs.Placing.{code_part, part_none}
use Rattle.check_laws.proofs.Profiles.{profile_settled}
use Rattle.check_laws.proofs.Spotting.{kind_no_fraction, kind_none}
use borrow.Author.Rules.{rules}
use Rattle.check_search.proofs.clause.part_spot.Goals as goal

pub returns-then-not-opens : goal.returns-then-not-opens
returns-then-not-opens c = let a = c.args in let T = table_of a.pack.now in let x = joined_in T a.s in let d = bounded a.b x in (kind_no_fraction false a.e d _ _ (code_part d false _ refl (c.opens.ensures (not-true _ c.if-not-opens.true-raw) d (profile_settled d a.p c.requires.profile _ _ c.v_of.ensures c.w_of.ensures))) (omega arith) c.nowhere.ensures.0, c.nowhere.ensures.1)

pub returns-then-l-ge-FRACTION_LIMIT : goal.returns-then-l-ge-FRACTION_LIMIT
returns-then-l-ge-FRACTION_LIMIT c = let a = c.args in let T = table_of a.pack.now in let x = joined_in T a.s in let d = bounded a.b x in (kind_no_fraction false a.e d _ _ (code_part d false _ refl (part_none d (10 ^ max_places) (tail_past x a.l.tail c.requires.e_le_max_exponent.3.tail c.if-l-ge-FRACTION_LIMIT.true ∙ bounded_alone a.b x) (omega arith))) (omega arith) c.nowhere-then-l-ge-FRACTION_LIMIT.ensures.0, c.nowhere-then-l-ge-FRACTION_LIMIT.ensures.1)

pub integer_of-i-requires : goal.integer_of-i-requires
integer_of-i-requires c = (c.requires.e_le_max_exponent.0, c.requires.e_le_max_exponent.1, c.requires.e_le_max_exponent.2, c.requires.e_le_max_exponent.3.part)

pub returns-then-i-ge-INTEGER_LIMIT : goal.returns-then-i-ge-INTEGER_LIMIT
returns-then-i-ge-INTEGER_LIMIT c = let a = c.args in let T = table_of a.pack.now in let x = joined_in T a.s in let d = bounded a.b x in (kind_none false a.e d c.integer_of-i.result _ (c.integer_of-i.ensures ∙ bounded_integer a.b x false a.e c.requires.e_le_max_exponent.0) c.if-i-ge-INTEGER_LIMIT.true c.nowhere-then-i-ge-INTEGER_LIMIT.ensures.0, c.nowhere-then-i-ge-INTEGER_LIMIT.ensures.1)

pub part_code-q-requires : goal.part_code-q-requires
part_code-q-requires c =
    record {
      in_room = (c.requires.e_le_max_exponent.1, c.requires.e_le_max_exponent.2, c.requires.e_le_max_exponent.3.tail);
      profile = c.requires.profile;
    }

pub returns-then-q-ge-FRACTIONS : goal.returns-then-q-ge-FRACTIONS
returns-then-q-ge-FRACTIONS c = let a = c.args in let T = table_of a.pack.now in let x = joined_in T a.s in let d = bounded a.b x in (kind_no_fraction false a.e d c.part_code-q.result _ (code_part d false _ refl c.part_code-q.ensures) c.if-q-ge-FRACTIONS.true c.nowhere-then-q-ge-FRACTIONS.ensures.0, c.nowhere-then-q-ge-FRACTIONS.ensures.1)

pub spot_of-requires : goal.spot_of-requires
spot_of-requires c = (c.requires.e_le_max_exponent.0, search rules)

pub returns : goal.returns
returns c = let a = c.args in let T = table_of a.pack.now in let x = joined_in T a.s in let d = bounded a.b x in (c.spot_of.ensures.0 false d (code_part d false _ refl c.part_code-q.ensures) (c.integer_of-i.ensures ∙ bounded_integer a.b x false a.e c.requires.e_le_max_exponent.0), c.spot_of.ensures.1)
