-- Which bytes spell a code point: the Unicode Standard, table 3-6, for every number up to 10FFFF that is no surrogate.
use Rattle.std.specs.Prelude.{◌≡◌, Bool, true, List, [], ◌∷◌, ◌++◌, ℕ, ◌+◌, ◌/◌, ◌%◌, ltb, length, if◌then◌else◌}
use Rattle.decimal.specs.Choice.{both}

-- the number can be spelled: it is at most 10FFFF, and none of the surrogates D800 to DFFF
abbrev pub is_scalar : ℕ → Bool
is_scalar x = if ltb x 0xD800 then true else both (ltb 0xDFFF x) (ltb x 0x110000)

-- its bytes: six bits in each byte behind the first
abbrev pub spell : ℕ → List ℕ
spell x =
    if ltb x 0x80 then x ∷ [] else
    if ltb x 0x800 then (0xC0 + x / 64) ∷ (0x80 + x % 64) ∷ [] else
    if ltb x 0x10000 then (0xE0 + x / 4096) ∷ (0x80 + x / 64 % 64) ∷ (0x80 + x % 64) ∷ [] else
    (0xF0 + x / 262144) ∷ (0x80 + x / 4096 % 64) ∷ (0x80 + x / 64 % 64) ∷ (0x80 + x % 64) ∷ []

-- the bytes of code points one after the other
abbrev pub spell_all : List ℕ → List ℕ
spell_all [] = []
spell_all (x ∷ xs) = spell x ++ spell_all xs

abbrev pub all_scalar : List ℕ → Bool
all_scalar [] = true
all_scalar (x ∷ xs) = both (is_scalar x) (all_scalar xs)

-- The text s begins with the code point x, of so many bytes.
pub record Begins (s : List ℕ) (n : ℕ) : Type 0 where
  pub char : ℕ
  pub scalar : is_scalar char ≡ true
  pub size : length (spell char) ≡ n
  pub behind : List ℕ
  pub text : s ≡ spell char ++ behind

-- The text s is the code points `chars`, one after the other.
pub record IsText (s : List ℕ) : Type 0 where
  pub chars : List ℕ
  pub scalars : all_scalar chars ≡ true
  pub text : s ≡ spell_all chars
