-- Which of 22 to 26 a token falls under, and the first fault.
use Rattle.std.specs.Prelude.{Bool, true, false, List, [], ◌∷◌, ℕ, min, eqb, ltb, Option, None, Some, if◌then◌else◌}
use Rattle.decimal.specs.Digits.{value}
use Rattle.answer.specs.Words.{spelling}
use Rattle.answer.specs.declared.Keyword.TheVariants.{Zero, One, Two, Few, Many, Other}
use Rattle.answer.specs.declared.PackRow.{PackRow}
use Rattle.answer.specs.declared.PackRow.TheVariants.{ValueTooLarge, RangeReversed, BadKeyword, TooMany}
use Rattle.pack_token.specs.Spelling.{same}
use Rattle.pack_grammar.specs.Limits.{max_clauses, max_relations, max_ranges, max_value}
use Rattle.pack_grammar.specs.Grammar.{Text}
use Rattle.pack_faults.specs.declared.Fault.{Fault}
use Rattle.pack_faults.specs.declared.Mark.{Mark}

-- ---- one token

-- the token's value, exact up to 1,000,000: all that 22, 23 and 24 ask
abbrev pub capped : Text → ℕ
capped t = min (value t) 1000001

-- the keyword's number, in document 01's order; 6 of any other word
abbrev pub keyword_number : Text → ℕ
keyword_number t =
    if same t (spelling Zero) then 0 else
    if same t (spelling One) then 1 else
    if same t (spelling Two) then 2 else
    if same t (spelling Few) then 3 else
    if same t (spelling Many) then 4 else
    if same t (spelling Other) then 5 else
    6

-- a number stands in a list
abbrev pub held : ℕ → List ℕ → Bool
held k [] = false
held k (x ∷ xs) = if eqb x k then true else held k xs

-- ---- 22 to 26 of the token, or none

abbrev pub name_row : ℕ → Bool → Option PackRow
name_row key again = if again then Some BadKeyword else if ltb key 6 then None else Some BadKeyword

abbrev pub operand_row : ℕ → ℕ → Option PackRow
operand_row clauses relations = if ltb clauses max_clauses then (if ltb relations max_relations then None else Some TooMany) else Some TooMany

abbrev pub value_row : ℕ → ℕ → Option PackRow
value_row v values = if ltb max_value v then Some ValueTooLarge else if ltb values max_ranges then None else Some TooMany

abbrev pub upper_row : ℕ → ℕ → Option PackRow
upper_row v low = if ltb max_value v then Some ValueTooLarge else if ltb v low then Some RangeReversed else None

-- ---- the first fault

-- a fault so far stays; else that of the row at this place, if there is one
abbrev pub fault_after : Option Fault → Option PackRow → ℕ → Option Fault
fault_after (Some f) row at = Some f
fault_after None (Some row) at = Some (record { row = row; at = record { 0 = at } })
fault_after None None at = None

-- the place of the last token before nothing could follow, and the first fault
abbrev pub mark_after : Mark → ℕ → Option PackRow → ℕ → Mark
mark_after m stop row at = record { stop = stop; fault = fault_after m.fault row at }
