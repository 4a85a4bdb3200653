-- The reader's halves of a pattern: its test of the grammar, and what it judges and keeps besides the first subpattern.
use mathlib.Core.Bool.{Bool, false}
use mathlib.Core.List.{List}
use Prim.Native.Nat.{ℕ, ◌+◌}
use lib.Dec.{eqb}
use lib.ListN.{length, get_or, drop}
use Rattle.std.specs.Prelude.{if◌then◌else◌}
use Rattle.decimal.specs.Choice.{both}
use Rattle.pattern_reader.specs.declared.Half.{Half}
use Rattle.pattern_reader.specs.declared.Negative.{Negative}
use Rattle.pattern_reader.specs.declared.Negative.TheVariants.{MinusSymbol}
use Rattle.pattern_reader.specs.Reading.{half_of, end_of, fits, own_affixes}

-- the reader's test of the grammar
abbrev pub well_formed : List ℕ → Bool
well_formed s =
    let a = half_of s in
    if eqb (end_of a) (length s) then fits a else
    if eqb (get_or s (end_of a) 0) 59 then
    (let b = half_of (drop (end_of a + 1) s) in
    if eqb (end_of a + 1 + end_of b) (length s) then both (fits a) (fits b) else false)
    else false

-- the half that 34 to 36 judge besides the first: of a pattern that has but one, the first
abbrev pub second_half : List ℕ → Half
second_half s = if eqb (end_of (half_of s)) (length s) then half_of s else half_of (drop (end_of (half_of s) + 1) s)

abbrev pub negative_of : List ℕ → Negative
negative_of s =
    if eqb (end_of (half_of s)) (length s) then MinusSymbol else
    own_affixes (end_of (half_of s) + 1) (half_of (drop (end_of (half_of s) + 1) s))
