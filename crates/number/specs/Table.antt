-- Document 01's rows 10 to 15, "given exactly when", said of the grammar and not of the reader. "Within one input the lowest number wins": each row has
-- the failing of those before it.
use Rattle.std.specs.Prelude.{◌≡◌, List, ℕ, ◌≤◌, ◌<◌, length}
use Rattle.decimal.specs.Digits.{value}
use Rattle.answer.specs.declared.NumberRow.{NumberRow}
use Rattle.answer.specs.declared.NumberRow.TheVariants.{NumberTooLong, NotANumber, ExponentTooLarge, ExponentAfterZero, IntegerTooLong, FractionTooLong}
use Rattle.number.specs.Limits.{max_bytes, max_exponent, max_digits, max_places}
use Rattle.number.specs.Grammar.{Parts, Spells}
use Rattle.number.specs.Reading.{shift_of, integer_at, visible_at, significant}

-- "exponent after a zero integer part"
abbrev pub AfterZero : Parts → Type 0
AfterZero p = (0 < length p.exponent) × (value p.whole ≡ 0)

-- the digits of i and of f
abbrev pub integer_digits : Parts → List ℕ
integer_digits p = integer_at p.whole p.fraction (shift_of p)

abbrev pub fraction_digits : Parts → List ℕ
fraction_digits p = visible_at p.fraction (shift_of p)

-- p are the parts of the text s, and none of the rows up to the one named is given
pub record Past11 (s : List ℕ) (p : Parts) : Type 0 where
  pub short : length s ≤ max_bytes
  pub spells : Spells s p

pub record Past12 (s : List ℕ) (p : Parts) : Type 0 where
  pub past : Past11 s p
  pub exponent : shift_of p ≤ max_exponent

pub record Past13 (s : List ℕ) (p : Parts) : Type 0 where
  pub past : Past12 s p
  pub zero : AfterZero p → ⊥

pub record Past14 (s : List ℕ) (p : Parts) : Type 0 where
  pub past : Past13 s p
  pub digits : significant (integer_digits p) ≤ max_digits

-- none of the rows is given
pub record Past15 (s : List ℕ) (p : Parts) : Type 0 where
  pub past : Past14 s p
  pub places : length (fraction_digits p) ≤ max_places

abbrev pub Row : NumberRow → List ℕ → Type 0
Row NumberTooLong s = max_bytes < length s
Row NotANumber s = (length s ≤ max_bytes) × ((p : Parts) → Spells s p → ⊥)
Row ExponentTooLarge s = (p : Parts) × (Past11 s p × (max_exponent < shift_of p))
Row ExponentAfterZero s = (p : Parts) × (Past12 s p × AfterZero p)
Row IntegerTooLong s = (p : Parts) × (Past13 s p × (max_digits < significant (integer_digits p)))
Row FractionTooLong s = (p : Parts) × (Past14 s p × (max_places < length (fraction_digits p)))
