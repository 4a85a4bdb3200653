-- Document 01, "The pattern": which digits of a rounded value are shown, and how they are written.
use Rattle.std.specs.Prelude.{Bool, false, List, [], ◌∷◌, ◌++◌, ℕ, ◌+◌, ◌-◌, ◌%◌, max, ltb, eqb, length, take, drop, if◌then◌else◌}
use Rattle.decimal.specs.Digits.{is_digit, shown, trim}
use Rattle.utf8.specs.Scalar as utf8

-- ---- which digits are shown, of digits of which the last `most` are the fraction's

-- "Digits before the point are the least integer digits"; "With least 0 an integer part of zero prints nothing."
abbrev pub whole_digits : ℕ → ℕ → List ℕ → List ℕ
whole_digits least most d = shown least (take (length d - most) d)

-- "digits after it the least fraction digits; all fraction places the most, later zeros dropped"
abbrev pub kept : ℕ → List ℕ → List ℕ
kept least s = take (max least (length (trim s))) s

abbrev pub fraction_digits : ℕ → ℕ → List ℕ → List ℕ
fraction_digits least most d = kept least (drop (length d - most) d)

-- ---- how they are written

-- digit zero, a code point; the other nine follow it
abbrev pub zero_digit : ℕ
zero_digit = 48

-- The bytes of a digit: of the code point that is as far behind digit zero. A byte that is no digit stands for itself.
unfoldable pub spell : ℕ → ℕ → List ℕ
spell nought b = if is_digit b then utf8.spell (nought + (b - 48)) else b ∷ []

abbrev pub spelled : ℕ → List ℕ → List ℕ
spelled nought [] = []
spelled nought (b ∷ s) = spell nought b ++ spelled nought s

-- A group symbol stands where so many digits are still to come: those of the primary group, or those and whole secondary groups. "No comma, no groups":
-- then the primary size is 0.
abbrev pub mark : ℕ → ℕ → ℕ → Bool
mark primary secondary left =
    if eqb primary 0 then false else
    if ltb left primary then false else
    eqb ((left - primary) % secondary) 0

-- "Grouping then starts when the integer digits, added zeros included, number at least the primary group plus that value": the primary size among so many
-- integer digits, 0 where there are fewer.
abbrev pub group_size : ℕ → ℕ → ℕ → ℕ
group_size minimum primary digits = if ltb digits (primary + minimum) then 0 else primary

-- digits with group symbols among them
abbrev pub grouped : ℕ → List ℕ → ℕ → ℕ → List ℕ → List ℕ
grouped nought group primary secondary [] = []
grouped nought group primary secondary (b ∷ s) =
    spell nought b ++ ((if mark primary secondary (length s) then group else []) ++ grouped nought group primary secondary s)

-- "The decimal symbol prints when a fraction digit does."
abbrev pub pointed : ℕ → List ℕ → List ℕ → List ℕ
pointed nought point fraction = (if ltb 0 (length fraction) then point else []) ++ grouped nought [] 0 0 fraction

abbrev pub body : ℕ → List ℕ → List ℕ → ℕ → ℕ → List ℕ → List ℕ → List ℕ
body nought point group primary secondary whole fraction = grouped nought group primary secondary whole ++ pointed nought point fraction
