-- Document 01: "Printing tests symbols, pattern, number, 50, 51."
use Rattle.std.specs.Prelude.{Err, Ok, Result, List, ℕ, ltb, if◌then◌else◌}
use Rattle.answer.specs.declared.Refusal.{Refusal}
use Rattle.answer.specs.declared.Refusal.TheVariants.{Print as OfPrint}
use Rattle.answer.specs.declared.PrintRow.TheVariants.{PrintedExponent}
use Rattle.symbols.specs.Entries.{read_symbols, symbol_in, standard_record}
use Rattle.pattern_reader.specs.declared.Pattern.{Pattern}
use Rattle.pattern_reader.specs.Reading.{read_pattern}
use Rattle.number.specs.declared.Number.{Number}
use Rattle.number.specs.Reading.{read_number}
use Rattle.layout.specs.Text.{text_of}
use Rattle.print_area.specs.Whole.{written_in, area_with}

-- what is to be printed, before the output area is looked at
pub data Outcome : Type 0 where
  text : List ℕ → Outcome
  refused : Refusal → Outcome

-- 50: "printing a number with an exponent"
abbrev pub of_number : List ℕ → List ℕ → Pattern → Number → Outcome
of_number house s p n = if ltb 0 n.e then refused (OfPrint PrintedExponent) else text (text_of (symbol_in house standard_record) s p n)

abbrev pub after_number : List ℕ → List ℕ → Pattern → Result Number Refusal → Outcome
after_number house s p (Ok n) = of_number house s p n
after_number house s p (Err r) = refused r

abbrev pub after_pattern : List ℕ → List ℕ → Result Pattern Refusal → List ℕ → Outcome
after_pattern house s (Ok p) number = after_number house s p (read_number number)
after_pattern house s (Err r) number = refused r

abbrev pub after_symbols : List ℕ → Result (Unit {0}) Refusal → List ℕ → List ℕ → Outcome
after_symbols house (Ok tt) s number = after_pattern house s (read_pattern s) number
after_symbols house (Err r) s number = refused r

abbrev pub outcome : List ℕ → List ℕ → List ℕ → Outcome
outcome house s number = after_symbols house (read_symbols house) s number

-- the answer: the text's length, or the refusal; 51 where the text is longer than the area
abbrev pub answer_of : Outcome → List ℕ → Result ℕ Refusal
answer_of (text t) area = written_in t area
answer_of (refused r) area = Err r

-- "A refusal writes nothing; a success writes its text at the front and no byte beyond": the whole area behind
abbrev pub area_of : Outcome → List ℕ → List ℕ
area_of (text t) area = area_with t area
area_of (refused r) area = area
