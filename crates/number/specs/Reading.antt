-- Reading a number: its operands, and refusals 10 to 15 in the order of document 01's table.
use Rattle.answer.specs.declared.Refusal.{Refusal}
use Rattle.std.specs.Prelude.{Err, Ok, Result, Bool, true, false, List, [], ◌++◌, ℕ, ◌-◌, ltb, eqb, length, get_or, take, drop, if◌then◌else◌}
use Rattle.std.proofs.Math.Option.{Option, none, some}
use Rattle.decimal.specs.Choice.{both}
use Rattle.decimal.specs.Digits.{begins, run, value, first, lead, trim}
use Rattle.answer.specs.declared.NumberRow.{NumberRow}
use Rattle.answer.specs.declared.NumberRow.TheVariants.{NumberTooLong, NotANumber, ExponentTooLarge, ExponentAfterZero, IntegerTooLong, FractionTooLong}
use Rattle.answer.specs.declared.Refusal.TheVariants.{Number as OfNumber}
use Rattle.number.specs.Limits.{max_bytes, max_exponent, max_digits, max_places}
use Rattle.number.specs.Grammar.{Parts, is_mark, is_exponent}
use Rattle.number.specs.declared.Number.{Number}

-- ---- the parts of a text, read from its front

abbrev pub parts_from : Bool → List ℕ → List ℕ → List ℕ → Parts
parts_from negative whole fraction exponent = record { negative = negative; whole = whole; fraction = fraction; exponent = exponent }

-- behind the fraction: nothing, or `c` or `e` and an exponent
abbrev pub exponent_at : Bool → List ℕ → List ℕ → List ℕ → Option Parts
exponent_at negative whole fraction s =
    if eqb (length s) 0 then some (parts_from negative whole fraction []) else
    if both (is_mark (get_or s 0 0)) (is_exponent (drop 1 s)) then some (parts_from negative whole fraction (drop 1 s)) else
    none

-- behind the point: one or more digits
abbrev pub fraction_at : Bool → List ℕ → List ℕ → Option Parts
fraction_at negative whole s = if eqb (run s) 0 then none else exponent_at negative whole (take (run s) s) (drop (run s) s)

-- behind the integer digits: optionally a point
abbrev pub point_at : Bool → List ℕ → List ℕ → Option Parts
point_at negative whole s = if begins 46 s then fraction_at negative whole (drop 1 s) else exponent_at negative whole [] s

-- behind the sign: one or more digits
abbrev pub whole_at : Bool → List ℕ → Option Parts
whole_at negative s = if eqb (run s) 0 then none else point_at negative (take (run s) s) (drop (run s) s)

-- an optional `-`
abbrev pub parts_of : List ℕ → Option Parts
parts_of s = if begins 45 s then whole_at true (drop 1 s) else whole_at false s

-- ---- "First shift the point right by the exponent. Then, of the absolute value:"

-- "e (also c) is the exponent, 0 if none"
abbrev pub shift_of : Parts → ℕ
shift_of p = value p.exponent

-- the digits before and behind the point, once it is shifted e places
abbrev pub integer_at : List ℕ → List ℕ → ℕ → List ℕ
integer_at whole fraction e = whole ++ first e fraction

abbrev pub visible_at : List ℕ → ℕ → List ℕ
visible_at fraction e = drop e fraction

-- "i is the integer part; v and f are the count and value of visible fraction digits; w and t the same without trailing zeros"
abbrev pub number_at : Bool → List ℕ → List ℕ → ℕ → Number
number_at negative whole fraction e =
    record {
      negative = negative;
      e = e;
      i = value (integer_at whole fraction e);
      v = record { 0 = length (visible_at fraction e) };
      f = record { 0 = value (visible_at fraction e) };
      w = record { 0 = length (trim (visible_at fraction e)) };
      t = record { 0 = value (trim (visible_at fraction e)) };
    }

-- the number of these parts
abbrev pub number_of : Parts → Number
number_of p = number_at p.negative p.whole p.fraction (shift_of p)

-- ---- the table

abbrev pub refuse : NumberRow → Result Number Refusal
refuse row = Err (OfNumber row)

-- 12: "exponent above 14"
abbrev pub exponent_above : ℕ → Bool
exponent_above e = ltb max_exponent e

-- 13: "exponent after a zero integer part": the part as written, before the shift
abbrev pub after_zero : List ℕ → List ℕ → Bool
after_zero whole exponent = if eqb (length exponent) 0 then false else eqb (value whole) 0

-- how many digits are left without leading zeros
abbrev pub significant : List ℕ → ℕ
significant s = length s - lead s

-- 14: "i, leading zeros dropped, has over 15 digits"
abbrev pub integer_too_long : List ℕ → Bool
integer_too_long digits = ltb max_digits (significant digits)

-- 15: "v above 9"
abbrev pub fraction_too_long : List ℕ → Bool
fraction_too_long digits = ltb max_places (length digits)

-- 14, 15, and then the number
abbrev pub sized : Bool → List ℕ → List ℕ → ℕ → Result Number Refusal
sized negative whole fraction e =
    if integer_too_long (integer_at whole fraction e) then refuse IntegerTooLong else
    if fraction_too_long (visible_at fraction e) then refuse FractionTooLong else
    Ok (number_at negative whole fraction e)

-- 12, 13, and then the sizes
abbrev pub judge : Parts → Result Number Refusal
judge p =
    if exponent_above (shift_of p) then refuse ExponentTooLarge else
    if after_zero p.whole p.exponent then refuse ExponentAfterZero else
    sized p.negative p.whole p.fraction (shift_of p)

-- 11, and then what the parts say
abbrev pub judged : Option Parts → Result Number Refusal
judged none = refuse NotANumber
judged (some p) = judge p

-- 10, "number over 64 bytes", and then the rest
abbrev pub read_number : List ℕ → Result Number Refusal
read_number s = if ltb max_bytes (length s) then refuse NumberTooLong else judged (parts_of s)
