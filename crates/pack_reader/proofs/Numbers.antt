-- The rows 22 to 26 by their numbers, 0 for none: so the grammar's definitions have them, and so they are the code's rows.
use mathlib.Core.Path.{◌≡◌, refl}
use mathlib.Core.Bool.{Bool, true, false}
use Prim.Native.Nat.{ℕ}
use lib.Dec.{eqb, ltb}
use Rattle.std.specs.Prelude.{Option, None, Some, if◌then◌else◌}
use Rattle.answer.specs.declared.PackRow.{PackRow}
use Rattle.answer.specs.declared.PackRow.TheVariants.{ValueTooLarge, UnlistedModulus, RangeReversed, BadKeyword, TooMany}
use Rattle.pack_grammar.specs.Limits.{max_clauses, max_relations, max_ranges, max_value, is_modulus}
use Rattle.pack_grammar.specs.Reader.{row_of}
use Rattle.pack_phase.specs.declared.Phase.{Phase}
use Rattle.pack_phase.specs.declared.Phase.TheVariants.{Name, Colon, Nothing, Operand, ModulusOrSign, Modulus, Sign, Value, DotsOrMore, Upper, More, Dead}
use Rattle.pack_counts.specs.declared.Counts.{Counts}
use Rattle.pack_walk.specs.Steps.{row_at}

abbrev pub name_number : ℕ → Bool → ℕ
name_number key again = if again then 25 else if ltb key 6 then 0 else 25

abbrev pub operand_number : ℕ → ℕ → ℕ
operand_number clauses relations = if ltb clauses max_clauses then (if ltb relations max_relations then 0 else 26) else 26

abbrev pub value_number : ℕ → ℕ → ℕ
value_number v values = if ltb max_value v then 22 else if ltb values max_ranges then 0 else 26

abbrev pub upper_number : ℕ → ℕ → ℕ
upper_number v low = if ltb max_value v then 22 else if ltb v low then 24 else 0

abbrev pub number_at : Phase → ℕ → Bool → ℕ → Counts → ℕ → ℕ
number_at Name key again v c low = name_number key again
number_at Colon key again v c low = 0
number_at Nothing key again v c low = 0
number_at Operand key again v c low = operand_number c.parted c.joined
number_at ModulusOrSign key again v c low = 0
number_at Modulus key again v c low = if is_modulus v then 0 else 23
number_at Sign key again v c low = 0
number_at Value key again v c low = value_number v c.values
number_at DotsOrMore key again v c low = 0
number_at Upper key again v c low = upper_number v low
number_at More key again v c low = 0
number_at Dead key again v c low = 0

-- the row of a number
abbrev pub row_if : ℕ → Option PackRow
row_if n = if eqb n 0 then None else Some (row_of n)

name_case : (x y : Bool) → (if x then Some BadKeyword else if y then None else Some BadKeyword) ≡ row_if (if x then 25 else if y then 0 else 25)
name_case true y = refl
name_case false true = refl
name_case false false = refl

operand_case : (x y : Bool) → (if x then (if y then None else Some TooMany) else Some TooMany) ≡ row_if (if x then (if y then 0 else 26) else 26)
operand_case true true = refl
operand_case true false = refl
operand_case false y = refl

modulus_case : (x : Bool) → (if x then None else Some UnlistedModulus) ≡ row_if (if x then 0 else 23)
modulus_case true = refl
modulus_case false = refl

value_case : (x y : Bool) → (if x then Some ValueTooLarge else if y then None else Some TooMany) ≡ row_if (if x then 22 else if y then 0 else 26)
value_case true y = refl
value_case false true = refl
value_case false false = refl

upper_case : (x y : Bool) → (if x then Some ValueTooLarge else if y then Some RangeReversed else None) ≡ row_if (if x then 22 else if y then 24 else 0)
upper_case true y = refl
upper_case false true = refl
upper_case false false = refl

-- NUMBER: a token's row is that of its number
pub row_number : (p : Phase) (key : ℕ) (again : Bool) (v : ℕ) (c : Counts) (low : ℕ) → row_at p key again v c low ≡ row_if (number_at p key again v c low)
row_number Name key again v c low = name_case again (ltb key 6)
row_number Colon key again v c low = refl
row_number Nothing key again v c low = refl
row_number Operand key again v c low = operand_case (ltb c.parted max_clauses) (ltb c.joined max_relations)
row_number ModulusOrSign key again v c low = refl
row_number Modulus key again v c low = modulus_case (is_modulus v)
row_number Sign key again v c low = refl
row_number Value key again v c low = value_case (ltb max_value v) (ltb c.values max_ranges)
row_number DotsOrMore key again v c low = refl
row_number Upper key again v c low = upper_case (ltb max_value v) (ltb v low)
row_number More key again v c low = refl
row_number Dead key again v c low = refl
