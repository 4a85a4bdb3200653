-- Document 01, "The pattern": its bytes read as items, quotes and all.
use Rattle.std.specs.Prelude.{Bool, true, false, not, List, [], ◌∷◌, ℕ, zero, suc, ◌-◌, eqb, get_or, if◌then◌else◌}
use Rattle.decimal.specs.Choice.{both}
use Rattle.decimal.specs.Digits.{is_digit}
use Rattle.pattern_token.specs.declared.Mark.TheVariants.{Minus, Plus, Percent, Permille}
use Rattle.pattern_token.specs.declared.Item.{Item}
use Rattle.pattern_token.specs.declared.Item.TheVariants.{Text, Symbol, Place, Quote, Semicolon, Reserved}
use Rattle.pattern_token.specs.declared.Token.{Token}
use Rattle.pattern_token.specs.declared.Tokens.{Tokens}

-- a text begins with these bytes
abbrev pub starts : List ℕ → List ℕ → Bool
starts [] s = true
starts (x ∷ w) [] = false
starts (x ∷ w) (y ∷ s) = both (eqb y x) (starts w s)

-- "Bytes `0-9 # . ,` begin the number part": a number-part byte
abbrev pub is_place : ℕ → Bool
is_place b = if eqb b 35 then true else if eqb b 44 then true else if eqb b 46 then true else is_digit b

-- 32: `*`, `@`, or `E` directly after a bare number-part byte
abbrev pub is_reserved : Bool → ℕ → Bool
is_reserved number b = if eqb b 42 then true else if eqb b 64 then true else if eqb b 69 then number else false

-- A byte outside quotes; `number`: it stands directly after a bare number-part byte. "In affixes `%`, `‰`, `+`, `-` print their symbols".
abbrev pub bare_of : Bool → ℕ → Item
bare_of number b =
    if is_place b then Place b else
    if eqb b 37 then Symbol Percent else
    if eqb b 43 then Symbol Plus else
    if eqb b 45 then Symbol Minus else
    if eqb b 59 then Semicolon else
    if is_reserved number b then Reserved else
    Text b

abbrev pub token : Item → ℕ → Token
token t n = record { item = t; width = n }

-- `''`, `‰` and `¤` in UTF-8
abbrev pub apostrophe : List ℕ
apostrophe = 39 ∷ 39 ∷ []

abbrev pub permille : List ℕ
permille = 0xE2 ∷ 0x80 ∷ 0xB0 ∷ []

abbrev pub currency : List ℕ
currency = 0xC2 ∷ 0xA4 ∷ []

-- The token that a text begins with. "Quotes enclose literal text, `''`, looked for first, is one apostrophe inside or outside."
abbrev pub token_at : Bool → Bool → List ℕ → Token
token_at quoted number s =
    if starts apostrophe s then token (Text 39) 2 else
    if eqb (get_or s 0 0) 39 then token Quote 1 else
    if quoted then token (Text (get_or s 0 0)) 1 else
    if starts permille s then token (Symbol Permille) 3 else
    if starts currency s then token Reserved 2 else
    token (bare_of number (get_or s 0 0)) 1

-- whether what follows an item is quoted
abbrev pub quoted_after : Bool → Item → Bool
quoted_after q Quote = not q
quoted_after q (Text b) = q
quoted_after q (Symbol m) = q
quoted_after q (Place b) = q
quoted_after q Semicolon = q
quoted_after q Reserved = q

-- whether an item is a bare number-part byte
abbrev pub is_number : Item → Bool
is_number (Place b) = true
is_number Quote = false
is_number (Text b) = false
is_number (Symbol m) = false
is_number Semicolon = false
is_number Reserved = false

-- the items of a text of which the first `skip` bytes belong to the token before
abbrev pub items_from : Bool → Bool → ℕ → List ℕ → List Item
items_from quoted number skip [] = []
items_from quoted number (suc skip) (b ∷ s) = items_from quoted number skip s
items_from quoted number zero (b ∷ s) =
    let t = token_at quoted number (b ∷ s) in
    t.item ∷ items_from (quoted_after quoted t.item) (is_number t.item) (t.width - 1) s

abbrev pub items : List ℕ → List Item
items s = items_from false false 0 s

-- the items still to come
abbrev pub items_left : Tokens → List Item
items_left t = items_from t.quoted t.number 0 t.rest.now
