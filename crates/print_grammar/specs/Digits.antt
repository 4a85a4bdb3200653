-- What document 01 says of the digits shown and of the groups, in its own words and not in the layout's.
use Rattle.std.specs.Prelude.{◌≡◌, List, ◌++◌, ℕ, ◌+◌, ◌*◌, ◌-◌, ◌%◌, ◌^◌, ◌≤◌, ◌<◌, length, get_or}
use Rattle.decimal.specs.Digits.{AllDigits, value}

-- The integer and the fraction digits shown of a value in units of the last of `most` fraction places: "Digits before the point are the least integer
-- digits; digits after it the least fraction digits; all fraction places the most, later zeros dropped."
pub record ShownDigits (least fraction most units : ℕ) (whole shown : List ℕ) : Type 0 where
  pub whole_digits_law : AllDigits whole
  pub fraction_digits_law : AllDigits shown
  -- read as a number they give the value
  pub worth : value (whole ++ shown) * 10 ^ (most - length shown) ≡ units
  pub whole_least : least ≤ length whole
  -- beyond the least integer digits none is a leading zero
  pub whole_spare : least < length whole → get_or whole 0 0 ≡ 48 → ⊥
  pub fraction_least : fraction ≤ length shown
  pub fraction_most : length shown ≤ most
  -- beyond the least fraction digits none is a trailing zero
  pub fraction_spare : fraction < length shown → value shown % 10 ≡ 0 → ⊥

-- where a group ends: with the digits of the primary group to come, or with those and some whole secondary groups
pub record GroupEnds (primary secondary left : ℕ) : Type 0 where
  pub some : 0 < primary
  pub groups : ℕ
  pub to_come : left ≡ primary + groups * secondary

-- Where a group symbol stands among so many integer digits, `left` of them to come: where a group ends, once the digits "number at least the primary
-- group plus" the minimum.
pub record SymbolStands (minimum primary secondary digits left : ℕ) : Type 0 where
  pub enough : primary + minimum ≤ digits
  pub ends : GroupEnds primary secondary left
