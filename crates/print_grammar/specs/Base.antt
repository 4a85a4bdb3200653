-- What printing gave before document 02's kind 71: "Grouping is printed wherever the integer has more digits than the primary group".
use Rattle.answer.specs.declared.Refusal.{Refusal}
use Rattle.std.specs.Prelude.{Err, Ok, Result, List, [], ◌++◌, ℕ, ltb, if◌then◌else◌}
use Rattle.answer.specs.declared.Refusal.TheVariants.{Print as OfPrint}
use Rattle.answer.specs.declared.PrintRow.TheVariants.{PrintedExponent}
use Rattle.symbols.specs.declared.Symbol.{Symbol}
use Rattle.symbols.specs.declared.Symbol.TheVariants.{Minus}
use Rattle.symbols_grammar.specs.Base.{base_symbols, base_symbol}
use Rattle.pattern_reader.specs.declared.Pattern.{Pattern}
use Rattle.pattern_reader.specs.Reading.{read_pattern}
use Rattle.number.specs.declared.Number.{Number}
use Rattle.number.specs.Reading.{read_number}
use Rattle.layout.specs.Text.{affix_text, affixes_of, digits_of, number_with}
use Rattle.print.specs.Outcome.{Outcome, text, refused}

-- the primary size is the pattern's, however many digits are shown
abbrev pub base_text : (Symbol → List ℕ) → List ℕ → Pattern → Number → List ℕ
base_text symbol s p n =
    let a = affixes_of p n.negative in
    (if a.minus then symbol Minus else [])
    ++ (affix_text symbol s a.prefix ++ (number_with symbol (λ (digits : ℕ). p.primary) p (digits_of p n) ++ affix_text symbol s a.suffix))

abbrev pub base_number : List ℕ → List ℕ → Pattern → Result Number Refusal → Outcome
base_number house s p (Ok n) = if ltb 0 n.e then refused (OfPrint PrintedExponent) else text (base_text (base_symbol house) s p n)
base_number house s p (Err r) = refused r

abbrev pub base_pattern : List ℕ → List ℕ → Result Pattern Refusal → List ℕ → Outcome
base_pattern house s (Ok p) t = base_number house s p (read_number t)
base_pattern house s (Err r) t = refused r

abbrev pub base_judged : List ℕ → Result (Unit {0}) Refusal → List ℕ → List ℕ → Outcome
base_judged house (Ok tt) s t = base_pattern house s (read_pattern s) t
base_judged house (Err r) s t = refused r

abbrev pub base_outcome : List ℕ → List ℕ → List ℕ → Outcome
base_outcome house s t = base_judged house (base_symbols house) s t
