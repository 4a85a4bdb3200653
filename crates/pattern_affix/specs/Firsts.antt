-- The bytes that tokens begin with: where none of them stands, no such token does, and no item need be read.
use Rattle.std.specs.Prelude.{Bool, true, false, List, [], ◌∷◌, ℕ, eqb, if◌then◌else◌}
use Rattle.pattern_token.specs.declared.Mark.{Mark}
use Rattle.pattern_token.specs.declared.Mark.TheVariants.{Minus, Plus, Percent, Permille}

-- a reserved token begins with `*`, `@`, `E` or the first byte of `¤`
abbrev pub may_reserve : ℕ → Bool
may_reserve b = if eqb b 42 then true else if eqb b 64 then true else if eqb b 69 then true else eqb b 0xC2

-- no byte of the text is one of them
abbrev pub free : List ℕ → Bool
free [] = true
free (b ∷ s) = if may_reserve b then false else free s

-- the byte that a mark begins with
abbrev pub mark_byte : Mark → ℕ
mark_byte Minus = 45
mark_byte Plus = 43
mark_byte Percent = 37
mark_byte Permille = 0xE2
