-- Document 01, "The symbol record": what a record is, on bytes, which answer it gets, and which body a symbol has. "One byte of kind, then a body whose
-- length the kind fixes; records run to the end."
use Rattle.answer.specs.declared.Refusal.{Refusal}
use Rattle.std.specs.Prelude.{Ok, Result, ◌≡◌, true, false, List, ℕ, ◌+◌, ◌*◌, ◌≤◌, length, get_or}
use Rattle.decimal.specs.Digits.{is_digit}
use Rattle.utf8.specs.Scalar.{is_scalar, spell}
use Rattle.answer.specs.declared.SymbolRow.TheVariants.{NotASymbolRecord, BadSymbolBody}
use Rattle.records.specs.Entries.{Entry}
use Rattle.records.specs.Spelled as records
use Rattle.records.specs.Spelled.{Among}
use Rattle.symbols.specs.declared.Symbol.{Symbol}
use Rattle.symbols.specs.declared.Symbol.TheVariants.{Minimum}
use Rattle.symbols.specs.Kinds.{upper_of, longest, name_of}
use Rattle.symbols.specs.Entries.{refuse, standard_record}

-- "A kind byte decides by its upper and lower half": the symbol's number and the body's length, "lower 1 to 4"; of the upper half 7 there is kind 71 alone
pub record IsEntry (e : Entry) : Type 0 where
  pub symbol : Symbol
  pub halves : e.kind ≡ 16 * upper_of symbol + length e.body
  pub least : 1 ≤ length e.body
  pub most : length e.body ≤ longest symbol

-- The bytes s are a record, and these are its entries.
abbrev pub Spells : List ℕ → List Entry → Type 0
Spells s es = records.Spells IsEntry s es

-- an entry of the symbol y
abbrev pub Of : Symbol → Entry → Type 0
Of y e = name_of e.kind ≡ upper_of y

-- "symbol twice"
abbrev pub Twice : List Entry → Type 0
Twice es = records.Twice name_of es

-- "The body is one UTF-8 code point, not an ASCII digit."
pub record IsBody (b : List ℕ) : Type 0 where
  pub scalar : ℕ
  pub scalar_is : is_scalar scalar ≡ true
  pub spelled : b ≡ spell scalar
  pub no_digit : is_digit scalar ≡ false

-- Document 02: kind 71's "one-byte body is 01 to 04"
pub record IsMinimum (b : List ℕ) : Type 0 where
  pub least : 1 ≤ get_or b 0 0
  pub most : get_or b 0 0 ≤ 4

-- the entry's body is one of its symbol
pub data HasBody (e : Entry) : Type 0 where
  text : (Of Minimum e → ⊥) → IsBody e.body → HasBody e
  minimum : Of Minimum e → IsMinimum e.body → HasBody e

pub data Verdict (s : List ℕ) : Result (Unit {0}) Refusal → Type 0 where
  -- 40: "unknown kind, body cut short, symbol twice"
  no_record : ((es : List Entry) → Spells s es → ⊥) → Verdict s (refuse NotASymbolRecord)
  symbol_twice : (es : List Entry) → Spells s es → Twice es → Verdict s (refuse NotASymbolRecord)
  -- 41: "body not as above"
  bad_body : (es : List Entry) → Spells s es → (Twice es → ⊥) → (e : Entry) → Among e es → (HasBody e → ⊥) → Verdict s (refuse BadSymbolBody)
  good : (es : List Entry) → Spells s es → (Twice es → ⊥) → ((e : Entry) → Among e es → HasBody e) → Verdict s (Ok tt)

-- "Each symbol is taken from the standard record when the house record lacks it."
pub data SymbolIs (house : List ℕ) (y : Symbol) : List ℕ → Type 0 where
  own : (es : List Entry) → Spells house es → (e : Entry) → Among e es → Of y e → SymbolIs house y e.body
  standard : (es ds : List Entry) → Spells house es → ((e : Entry) → Among e es → Of y e → ⊥)
      → Spells standard_record ds → (d : Entry) → Among d ds → Of y d → SymbolIs house y d.body
