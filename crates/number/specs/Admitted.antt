-- Document 01's admitted numbers: "any (e, v, i, f) with f below 10^v, and i at least 10^e when e is above 0".
use Rattle.std.specs.Prelude.{◌≡◌, Bool, ℕ, ◌*◌, ◌-◌, ◌%◌, ◌^◌, ◌≤◌, ◌<◌, length}
use Rattle.decimal.specs.Digits.{value, trim, figures}
use Rattle.number.specs.Limits.{max_exponent, max_digits, max_places}
use Rattle.number.specs.declared.Number.{Number}

pub record Admitted (e v i f : ℕ) : Type 0 where
  pub exponent : e ≤ max_exponent
  pub places : v ≤ max_places
  pub whole : i < 10 ^ max_digits
  pub fraction : f < 10 ^ v
  pub shifted : 0 < e → 10 ^ e ≤ i

-- w and t from v and f alone: the count and the value of the fraction digits without trailing zeros
abbrev pub w_of : ℕ → ℕ → ℕ
w_of v f = length (trim (figures v f))

abbrev pub t_of : ℕ → ℕ → ℕ
t_of v f = value (trim (figures v f))

-- "w and t the same without trailing zeros (0 and 0 when f is 0)": w of the v digits are left, of value t, and f is t with the zeros that were dropped; the last
-- digit left is no zero
pub record Trimmed (v f w t : ℕ) : Type 0 where
  pub places : w ≤ v
  pub room : t < 10 ^ w
  pub scaled : f ≡ t * 10 ^ (v - w)
  pub last : (f ≡ 0 → ⊥) → t % 10 ≡ 0 → ⊥
  pub none : f ≡ 0 → (w ≡ 0) × (t ≡ 0)

-- the number with this sign and these operands
abbrev pub number_from : Bool → ℕ → ℕ → ℕ → ℕ → Number
number_from negative e v i f =
    record {
      negative = negative;
      e = e;
      i = i;
      v = record { 0 = v };
      f = record { 0 = f };
      w = record { 0 = w_of v f };
      t = record { 0 = t_of v f };
    }
