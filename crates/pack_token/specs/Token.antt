-- The tokens of a pack's text, each with its place. A token is its bytes.
use Rattle.std.specs.Prelude.{◌≡◌, Bool, false, List, [], ◌∷◌, ℕ, zero, suc, ◌+◌, ◌≤◌, max, ltb, eqb, length, get_or, take, drop, if◌then◌else◌}
use Rattle.decimal.specs.Lists.{run_of}
use Rattle.decimal.specs.Digits.{is_digit, run}
use Rattle.pack_token.specs.Spelling.{starts, length_of}

-- "any of the eleven white-space code points in their UTF-8 spellings may stand: 09 to 0D, 20, C2 85, E2 80 8E, E2 80 8F, E2 80 A8, E2 80 A9"
abbrev pub whites : List (List ℕ)
whites =
    (9 ∷ []) ∷ (10 ∷ []) ∷ (11 ∷ []) ∷ (12 ∷ []) ∷ (13 ∷ []) ∷ (32 ∷ []) ∷ (194 ∷ 133 ∷ [])
    ∷ (226 ∷ 128 ∷ 142 ∷ []) ∷ (226 ∷ 128 ∷ 143 ∷ []) ∷ (226 ∷ 128 ∷ 168 ∷ []) ∷ (226 ∷ 128 ∷ 169 ∷ []) ∷ []

-- how long the white space is that a text begins with: one code point, or 0
abbrev pub white_len : List ℕ → ℕ
white_len s = length_of whites s

abbrev pub is_white : List ℕ → Bool
is_white s = ltb 0 (white_len s)

abbrev pub is_letter : ℕ → Bool
is_letter b = if ltb b 97 then false else ltb b 123

-- how many letters a text begins with
abbrev pub letters : List ℕ → ℕ
letters s = run_of is_letter s

abbrev pub dots : List ℕ
dots = 46 ∷ 46 ∷ []

abbrev pub differ : List ℕ
differ = 33 ∷ 61 ∷ []

-- "A run of letters a-z is one token, a run of digits one token, `..` and `!=` one each"; any other byte, stray or of the grammar, is one too
abbrev pub token_len : List ℕ → ℕ
token_len s =
    if is_letter (get_or s 0 0) then letters s else
    if is_digit (get_or s 0 0) then run s else
    if starts dots s then 2 else
    if starts differ s then 2 else
    1

-- how long the white space or the token is that a text begins with
abbrev pub piece_len : List ℕ → ℕ
piece_len s = if is_white s then white_len s else token_len s

pub record Token : Type 0 where
  pub at : ℕ
  pub text : List ℕ

-- the tokens of a text that starts at a place, if it has at most k pieces
abbrev pub tokens_for : ℕ → ℕ → List ℕ → List Token
tokens_for zero at s = []
tokens_for (suc k) at s =
    let n = piece_len s in
    let rest = tokens_for k (at + n) (drop n s) in
    if eqb (length s) 0 then [] else
    if is_white s then rest else
    record { at = at; text = take n s } ∷ rest

-- every piece has a byte at least: a text has at most as many pieces as bytes
abbrev pub tokens : ℕ → List ℕ → List Token
tokens at s = tokens_for (length s) at s

-- the place behind the white space that stands at a place
pub record Skipped (s : List ℕ) (from at : ℕ) : Type 0 where
  pub onward : from ≤ at
  pub bound : at ≤ max (length s) from
  pub none : white_len (drop at s) ≡ 0
  pub same : tokens at (drop at s) ≡ tokens from (drop from s)
