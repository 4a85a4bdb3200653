-- Document 01, "The symbol record": "A kind byte decides by its upper and lower half: upper 1 decimal, 2 group, 3 minus, 4 plus, 5 percent, 6 permille;
-- lower 1 to 4 is the body length." Document 02 adds "symbol kind 71, whose one-byte body is 01 to 04": the minimum grouping digits.
use Rattle.std.specs.Prelude.{Option, None, Some, Bool, false, ℕ, ◌/◌, ◌%◌, ltb, eqb, if◌then◌else◌}
use Rattle.symbols.specs.declared.Symbol.{Symbol}
use Rattle.symbols.specs.declared.Symbol.TheVariants.{Decimal, Group, Minus, Plus, Percent, Permille, Minimum}

-- a symbol's upper half
abbrev pub upper_of : Symbol → ℕ
upper_of Decimal = 1
upper_of Group = 2
upper_of Minus = 3
upper_of Plus = 4
upper_of Percent = 5
upper_of Permille = 6
upper_of Minimum = 7

-- the longest body of a symbol's kinds: 71 is the only kind with the upper half 7
abbrev pub longest : Symbol → ℕ
longest Decimal = 4
longest Group = 4
longest Minus = 4
longest Plus = 4
longest Percent = 4
longest Permille = 4
longest Minimum = 1

-- the kind with this upper half and this body length
abbrev pub kind_with : ℕ → ℕ → Option (Symbol × ℕ)
kind_with upper n =
    if eqb upper 1 then Some (Decimal, n) else
    if eqb upper 2 then Some (Group, n) else
    if eqb upper 3 then Some (Minus, n) else
    if eqb upper 4 then Some (Plus, n) else
    if eqb upper 5 then Some (Percent, n) else
    if eqb upper 6 then Some (Permille, n) else
    if eqb upper 7 then (if eqb n 1 then Some (Minimum, n) else None) else
    None

-- a body length, "1 to 4"
abbrev pub is_length : ℕ → Bool
is_length n = if ltb n 1 then false else ltb n 5

unfoldable pub kind_of : ℕ → Option (Symbol × ℕ)
kind_of b = if is_length (b % 16) then kind_with (b / 16) (b % 16) else None

-- what a kind stands for: its upper half
abbrev pub name_of : ℕ → ℕ
name_of b = b / 16

-- the body's length
abbrev pub length_in : Option (Symbol × ℕ) → ℕ
length_in None = 0
length_in (Some (y, n)) = n

abbrev pub length_of : ℕ → ℕ
length_of b = length_in (kind_of b)
