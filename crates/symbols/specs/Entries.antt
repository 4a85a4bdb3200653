-- Document 01, "The symbol record": what a record holds, for any bytes, and refusals 40 and 41.
use Rattle.answer.specs.declared.Refusal.{Refusal}
use Rattle.std.specs.Prelude.{Err, Ok, Result, Bool, not, false, List, [], ◌∷◌, ℕ, ltb, eqb, get_or, if◌then◌else◌}
use Rattle.decimal.specs.Digits.{is_digit}
use Rattle.utf8.specs.Utf8.{is_char}
use Rattle.answer.specs.declared.SymbolRow.{SymbolRow}
use Rattle.answer.specs.declared.SymbolRow.TheVariants.{NotASymbolRecord, BadSymbolBody}
use Rattle.answer.specs.declared.Refusal.TheVariants.{Symbols as OfSymbols}
use Rattle.records.specs.Entries as records
use Rattle.records.specs.Entries.{Entry}
use Rattle.symbols.specs.declared.Symbol.{Symbol}
use Rattle.symbols.specs.declared.Symbol.TheVariants.{Minimum}
use Rattle.symbols.specs.Kinds.{upper_of, name_of, length_of}

-- ---- "One byte of kind, then a body whose length the kind fixes; records run to the end."

abbrev pub entries : List ℕ → List Entry
entries s = records.entries length_of s

-- "unknown kind, body cut short"
abbrev pub broken : List ℕ → Bool
broken s = records.broken length_of s

-- "symbol twice"
abbrev pub twice : List Entry → Bool
twice es = records.twice name_of es

-- the entries have this symbol
abbrev pub holds : Symbol → List Entry → Bool
holds y es = records.holds name_of (upper_of y) es

-- its body
abbrev pub body_in : Symbol → List Entry → List ℕ
body_in y es = records.body_in name_of (upper_of y) es

-- ---- "The body is one UTF-8 code point, not an ASCII digit."

abbrev pub body_fits : List ℕ → Bool
body_fits s = if is_char s then not (is_digit (get_or s 0 0)) else false

-- "whose one-byte body is 01 to 04"
abbrev pub is_minimum : ℕ → Bool
is_minimum n = if ltb n 1 then false else ltb n 5

-- the body of the symbol with this upper half
abbrev pub fits_as : ℕ → List ℕ → Bool
fits_as upper s = if eqb upper (upper_of Minimum) then is_minimum (get_or s 0 0) else body_fits s

abbrev pub entry_fits : Entry → Bool
entry_fits e = fits_as (name_of e.kind) e.body

abbrev pub bodies_fit : List Entry → Bool
bodies_fit es = records.every entry_fits es

-- ---- the table

abbrev pub refuse : SymbolRow → Result (Unit {0}) Refusal
refuse row = Err (OfSymbols row)

-- 40 before 41, each over the whole record
abbrev pub read_symbols : List ℕ → Result (Unit {0}) Refusal
read_symbols s =
    if broken s then refuse NotASymbolRecord else
    if twice (entries s) then refuse NotASymbolRecord else
    if bodies_fit (entries s) then (Ok tt) else
    refuse BadSymbolBody

-- ---- the finder

-- "Each symbol is taken from the standard record when the house record lacks it."
abbrev pub symbol_in : List ℕ → List ℕ → Symbol → List ℕ
symbol_in house standard y = if holds y (entries house) then body_in y (entries house) else body_in y (entries standard)

-- "Standard record: 11 2E 21 2C 31 2D 41 2B 51 25 63 E2 80 B0."; and of kind 71: "Without the record it is 1."
abbrev pub standard_record : List ℕ
standard_record = 0x11 ∷ 0x2E ∷ 0x21 ∷ 0x2C ∷ 0x31 ∷ 0x2D ∷ 0x41 ∷ 0x2B ∷ 0x51 ∷ 0x25 ∷ 0x63 ∷ 0xE2 ∷ 0x80 ∷ 0xB0 ∷ 0x71 ∷ 0x01 ∷ []
