-- Document 01, "The number on the wire": "Text: an optional `-`, one or more digits, optionally `.` and one or more digits, optionally `c` or `e`
-- and an exponent whose first digit is 1 to 9."
use Rattle.std.specs.Prelude.{◌≡◌, Bool, true, false, List, [], ◌∷◌, ◌++◌, ℕ, ◌<◌, eqb, length, get_or, drop, if◌then◌else◌}
use Rattle.decimal.specs.Choice.{both, either}
use Rattle.decimal.specs.Digits.{run, AllDigits}

-- the parts of a number's text; a part that is not written is empty
pub record Parts : Type 0 where
  pub negative : Bool
  pub whole : List ℕ
  pub fraction : List ℕ
  pub exponent : List ℕ

-- `c` or `e`
abbrev pub is_mark : ℕ → Bool
is_mark b = either (eqb b 99) (eqb b 101)

-- digits alone, of which the first is 1 to 9
abbrev pub is_exponent : List ℕ → Bool
is_exponent s =
    if eqb (length s) 0 then false else
    if eqb (get_or s 0 0) 48 then false else
    eqb (run s) (length s)

-- what may stand behind the digits: nothing, or a mark and an exponent
abbrev pub is_tail : List ℕ → Bool
is_tail s = if eqb (length s) 0 then true else both (is_mark (get_or s 0 0)) (is_exponent (drop 1 s))

-- the bytes of each part
abbrev pub sign_text : Bool → List ℕ
sign_text negative = if negative then 45 ∷ [] else []

-- a part behind its mark: nothing where the part is not written
abbrev pub marked : ℕ → List ℕ → List ℕ
marked mark [] = []
marked mark (b ∷ s) = mark ∷ b ∷ s

abbrev pub text_of : ℕ → Parts → List ℕ
text_of mark p = sign_text p.negative ++ (p.whole ++ (marked 46 p.fraction ++ marked mark p.exponent))

-- The bytes s are a number's text, and these are its parts.
pub record Spells (s : List ℕ) (p : Parts) : Type 0 where
  pub mark : ℕ
  pub mark_is : is_mark mark ≡ true
  pub text : s ≡ text_of mark p
  pub whole_digits_law : AllDigits p.whole
  pub whole_written : 0 < length p.whole
  pub fraction_digits_law : AllDigits p.fraction
  pub exponent_digits : 0 < length p.exponent → is_exponent p.exponent ≡ true
