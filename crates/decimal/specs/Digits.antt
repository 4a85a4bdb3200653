-- Decimal digits in a text, as bytes 48 to 57, the highest first, and the number that they spell.
use Rattle.std.specs.Prelude.{Bool, false, List, [], ◌∷◌, ◌++◌, ℕ, zero, suc, ◌+◌, ◌*◌, ◌-◌, ◌/◌, ◌%◌, ◌^◌, min, ltb, eqb, length, get_or, drop, if◌then◌else◌}
use Rattle.decimal.specs.Lists.{run_of, AllOf}

abbrev pub is_digit : ℕ → Bool
is_digit b = if ltb b 48 then false else ltb b 58

-- the text begins with the byte b
abbrev pub begins : ℕ → List ℕ → Bool
begins b s = if eqb (length s) 0 then false else eqb (get_or s 0 0) b

-- how many digits a text begins with
abbrev pub run : List ℕ → ℕ
run s = run_of is_digit s

-- digits alone
abbrev pub AllDigits : List ℕ → Type 0
AllDigits s = AllOf is_digit s

-- the number whose first digits have the value n and whose further digits are these
abbrev pub value_from : ℕ → List ℕ → ℕ
value_from n [] = n
value_from n (b ∷ s) = value_from (10 * n + (b - 48)) s

-- the number that digits spell
abbrev pub value : List ℕ → ℕ
value s = value_from 0 s

-- Values are worked out exactly below this bound and are kept at it from there on: no run of digits overflows.
abbrev pub cap : ℕ
cap = 10 ^ 18

-- the first k digits of a text, with zeros after its end
abbrev pub first : ℕ → List ℕ → List ℕ
first zero s = []
first (suc k) [] = 48 ∷ first k []
first (suc k) (b ∷ s) = b ∷ first k s

abbrev pub is_zero : ℕ → Bool
is_zero b = eqb b 48

-- how many zeros a text begins with
abbrev pub lead : List ℕ → ℕ
lead s = run_of is_zero s

-- digits without their leading zeros, but at least `least` of them where there are so many
abbrev pub shown : ℕ → List ℕ → List ℕ
shown least s = drop (min (lead s) (length s - least)) s

-- a byte before digits without trailing zeros: gone if it is a zero with none after it
abbrev pub keep : ℕ → List ℕ → List ℕ
keep b [] = if eqb b 48 then [] else b ∷ []
keep b (x ∷ s) = b ∷ x ∷ s

-- digits without their trailing zeros
abbrev pub trim : List ℕ → List ℕ
trim [] = []
trim (b ∷ s) = keep b (trim s)

-- the last k decimal digits of n
abbrev pub figures : ℕ → ℕ → List ℕ
figures zero n = []
figures (suc k) n = figures k (n / 10) ++ ((48 + n % 10) ∷ [])

-- a machine number has at most twenty digits
abbrev pub wide : ℕ
wide = 20

-- the decimal digits of a machine number: no leading zero but for 0 itself
abbrev pub numeral : ℕ → List ℕ
numeral n = shown 1 (figures wide n)
