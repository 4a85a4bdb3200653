-- UTF-8 on bytes: the well-formed byte sequences of the Unicode Standard, table 3-7. No other form is UTF-8: none is longer than needed, none spells a
-- surrogate or a number above 10FFFF.
use Rattle.std.specs.Prelude.{Bool, true, false, List, [], ◌∷◌, ℕ, zero, suc, ◌-◌, ltb, eqb, length, get_or, take, drop, if◌then◌else◌}

-- how many bytes a code point has that begins with this byte (0: none does)
abbrev pub char_bytes : ℕ → ℕ
char_bytes b =
    if ltb b 0x80 then 1 else
    if ltb b 0xC2 then 0 else
    if ltb b 0xE0 then 2 else
    if ltb b 0xF0 then 3 else
    if ltb b 0xF5 then 4 else 0

-- from where to where the second byte may be, by the first
abbrev pub low_second : ℕ → ℕ
low_second b = if eqb b 0xE0 then 0xA0 else if eqb b 0xF0 then 0x90 else 0x80

abbrev pub high_second : ℕ → ℕ
high_second b = if eqb b 0xED then 0x9F else if eqb b 0xF4 then 0x8F else 0xBF

-- the bytes are from 80 to BF
abbrev pub continues : List ℕ → Bool
continues [] = true
continues (b ∷ s) = if ltb b 0x80 then false else if ltb 0xBF b then false else continues s

-- the bytes s behind the first byte b are as they must be
abbrev pub rest_fits : ℕ → List ℕ → Bool
rest_fits b s =
    if ltb (get_or s 0 0) (low_second b) then false else
    if ltb (high_second b) (get_or s 0 0) then false else
    continues (drop 1 s)

-- how many bytes the code point has that a text begins with (0: it begins with none)
abbrev pub char_len : List ℕ → ℕ
char_len s =
    let n = char_bytes (get_or s 0 0) in
    if ltb (length s) n then 0 else
    if ltb n 2 then n else
    if rest_fits (get_or s 0 0) (take (n - 1) (drop 1 s)) then n else 0

-- the text is code points one after the other; its first `skip` bytes belong to the code point before
abbrev pub utf8_from : ℕ → List ℕ → Bool
utf8_from skip [] = true
utf8_from (suc skip) (b ∷ s) = utf8_from skip s
utf8_from zero (b ∷ s) = let n = char_len (b ∷ s) in if eqb n 0 then false else utf8_from (n - 1) s

abbrev pub is_utf8 : List ℕ → Bool
is_utf8 s = utf8_from 0 s

-- the text is one code point
abbrev pub is_char : List ℕ → Bool
is_char s = if eqb (length s) 0 then false else eqb (char_len s) (length s)
