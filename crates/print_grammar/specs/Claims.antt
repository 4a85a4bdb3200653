-- Document 01: "Printing tests symbols, pattern, number, 50, 51." Which outcome is given exactly when, each with the failing of those before it.
use Rattle.std.specs.Prelude.{Err, Ok, ◌≡◌, List, ℕ, ◌<◌}
use Rattle.answer.specs.declared.Refusal.{Refusal}
use Rattle.answer.specs.declared.Refusal.TheVariants.{Print as OfPrint}
use Rattle.answer.specs.declared.PrintRow.TheVariants.{PrintedExponent}
use Rattle.symbols.specs.Entries.{read_symbols, symbol_in, standard_record}
use Rattle.pattern_reader.specs.declared.Pattern.{Pattern}
use Rattle.pattern_reader.specs.Reading.{read_pattern}
use Rattle.number.specs.declared.Number.{Number}
use Rattle.number.specs.Reading.{read_number}
use Rattle.layout.specs.Text.{text_of}
use Rattle.print.specs.Outcome.{Outcome, text, refused}

-- symbols, pattern and number are read
pub record Read (house s t : List ℕ) (p : Pattern) (n : Number) : Type 0 where
  pub symbols : read_symbols house ≡ Ok tt
  pub pattern : read_pattern s ≡ Ok p
  pub number : read_number t ≡ Ok n

pub data Verdict (house s t : List ℕ) : Outcome → Type 0 where
  by_symbols : (r : Refusal) → read_symbols house ≡ Err r → Verdict house s t (refused r)
  by_pattern : (r : Refusal) → read_symbols house ≡ Ok tt → read_pattern s ≡ Err r → Verdict house s t (refused r)
  by_number : (r : Refusal) (p : Pattern) → read_symbols house ≡ Ok tt → read_pattern s ≡ Ok p → read_number t ≡ Err r
      → Verdict house s t (refused r)
  by_exponent : (p : Pattern) (n : Number) → Read house s t p n → 0 < n.e → Verdict house s t (refused (OfPrint PrintedExponent))
  prints : (p : Pattern) (n : Number) → Read house s t p n → n.e ≡ 0 → Verdict house s t (text (text_of (symbol_in house standard_record) s p n))
