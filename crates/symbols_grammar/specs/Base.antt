-- The symbol record as document 01 has it, without document 02's kind 71: what the theorem that nothing else changed is about.
use Rattle.answer.specs.declared.Refusal.{Refusal}
use Rattle.std.specs.Prelude.{Ok, Result, List, [], ◌∷◌, Bool, ◌≡◌, ℕ, if◌then◌else◌}
use Rattle.answer.specs.declared.SymbolRow.TheVariants.{NotASymbolRecord, BadSymbolBody}
use Rattle.records.specs.Entries as records
use Rattle.records.specs.Entries.{Entry, without}
use Rattle.records.specs.Spelled.{Among}
use Rattle.symbols.specs.declared.Symbol.{Symbol}
use Rattle.symbols.specs.Kinds.{upper_of, name_of, length_of}
use Rattle.symbols.specs.Entries.{entries, body_fits, refuse}

-- no entry of the record is of kind 71
abbrev pub NoMinimum : List ℕ → Type 0
NoMinimum s = (e : Entry) → Among e (entries s) → e.kind ≡ 0x71 → ⊥

-- 71 is an unknown kind
abbrev pub base_length : ℕ → ℕ
base_length b = without 0x71 length_of b

abbrev pub base_entries : List ℕ → List Entry
base_entries s = records.entries base_length s

abbrev pub base_fits : Entry → Bool
base_fits e = body_fits e.body

abbrev pub base_symbols : List ℕ → Result (Unit {0}) Refusal
base_symbols s =
    if records.broken base_length s then refuse NotASymbolRecord else
    if records.twice name_of (base_entries s) then refuse NotASymbolRecord else
    if records.every base_fits (base_entries s) then (Ok tt) else
    refuse BadSymbolBody

-- "Standard record: 11 2E 21 2C 31 2D 41 2B 51 25 63 E2 80 B0."
abbrev pub base_standard : List ℕ
base_standard = 0x11 ∷ 0x2E ∷ 0x21 ∷ 0x2C ∷ 0x31 ∷ 0x2D ∷ 0x41 ∷ 0x2B ∷ 0x51 ∷ 0x25 ∷ 0x63 ∷ 0xE2 ∷ 0x80 ∷ 0xB0 ∷ []

-- "Each symbol is taken from the standard record when the house record lacks it."
abbrev pub base_symbol : List ℕ → Symbol → List ℕ
base_symbol house y =
    if records.holds name_of (upper_of y) (base_entries house) then records.body_in name_of (upper_of y) (base_entries house) else
    records.body_in name_of (upper_of y) (base_entries base_standard)

-- of kind 71: "Without the record it is 1."
abbrev pub base_minimum : ℕ
base_minimum = 1
