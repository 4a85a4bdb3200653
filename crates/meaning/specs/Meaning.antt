-- What rules mean of a number: document 01, "The rule pack", from "`=` holds when" on.
use Rattle.std.specs.Prelude.{Bool, true, not, List, ℕ, ◌%◌, leb, eqb, if◌then◌else◌}
use Rattle.decimal.specs.Choice.{both}
use Rattle.decimal.specs.Lists.{all, any}
use Rattle.number.specs.declared.Number.{Number}
use Rattle.pack_rules.specs.Syntax.{Range, Relation, Rule}

-- the operand's value where it is whole; n counts as i there. `c` and `e` are one operand.
abbrev pub operand_value : ℕ → Number → ℕ
operand_value o x =
    if eqb o 110 then x.i else
    if eqb o 105 then x.i else
    if eqb o 102 then x.f.0 else
    if eqb o 116 then x.t.0 else
    if eqb o 118 then x.v.0 else
    if eqb o 119 then x.w.0 else
    x.e

-- only n can be no whole number, and is one exactly where f is 0
abbrev pub is_whole : ℕ → Number → Bool
is_whole o x = if eqb o 110 then eqb x.f.0 0 else true

abbrev pub in_range : ℕ → Range → Bool
in_range x r = both (leb r.low x) (leb x r.high)

-- "`=` holds when the operand's value, or its remainder, is a whole number in the list". No modulus is 0, and a remainder by 0 is the value itself.
abbrev pub equals : Relation → Number → Bool
equals r x = both (is_whole r.operand x) (any (in_range (operand_value r.operand x % r.modulus)) r.ranges)

-- "`!=` is the negation of that"
abbrev pub holds : Relation → Number → Bool
holds r x = if r.negated then not (equals r x) else equals r x

-- "A clause holds when all its relations hold"
abbrev pub clause_holds : List Relation → Number → Bool
clause_holds rs x = all (λ (r : Relation). holds r x) rs

-- "a condition when at least one of its clauses does"
abbrev pub condition_holds : List (List Relation) → Number → Bool
condition_holds cs x = any (λ (c : List Relation). clause_holds c x) cs

-- "A number meets a rule whose condition holds for it; none meets `other:`"
abbrev pub meets : Rule → Number → Bool
meets r x = condition_holds r.clauses x
