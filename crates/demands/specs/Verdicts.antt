-- Document 01's table, entry by entry: which answer may be given when. Each constructor is a row, or the answer where no row is left; a row has the
-- failing of those that are tested before it.
use Rattle.answer.specs.declared.Keyword.{Keyword}
use Rattle.std.specs.Prelude.{Err, Ok, Result, ◌≡◌, List, ◌++◌, ◌⊎◌, ℕ, ◌+◌, ◌≤◌, ◌<◌, length, drop}
use Rattle.answer.specs.declared.NumberRow.{NumberRow}
use Rattle.answer.specs.declared.PackRow.TheVariants.{NotAPack}
use Rattle.answer.specs.declared.Pair.{Pair}
use Rattle.answer.specs.declared.Witness.{Witness}
use Rattle.answer.specs.declared.Refusal.{Refusal}
use Rattle.answer.specs.declared.Refusal.TheVariants.{PackTooLong, Rules as OfRules, Print as OfPrint}
use Rattle.answer.specs.declared.RulesRow.TheVariants.{RulesClash}
use Rattle.answer.specs.declared.PrintRow.TheVariants.{PrintedExponent, AreaTooShort}
use Rattle.number.specs.Grammar.{Parts}
use Rattle.number.specs.Reading.{number_of, refuse}
use Rattle.number.specs.Table.{Row, Past15}
use Rattle.number.specs.declared.Number.{Number}
use Rattle.pack_rules.specs.Syntax.{Rule}
use Rattle.pack_token.specs.Token.{tokens}
use Rattle.pack_grammar.specs.Limits.{max_bytes}
use Rattle.pack_grammar.specs.Reader.{PackAnswer, refused_at, row_of}
use Rattle.pack_grammar.specs.Reader.PackAnswer.{Rules, Refused as PackRefused}
use Rattle.pack_grammar.specs.WellFormed.{Culprit, Unfinished}
use Rattle.pack_grammar.specs.Falls.{Faulty, Tree}
use Rattle.select.specs.Words.{Chosen}
use Rattle.check_laws.specs.Claims.{AllApart, Lowest}
use Rattle.symbols.specs.declared.Symbol.{Symbol}
use Rattle.symbols_grammar.specs.Record.{Verdict as SymbolsVerdict, SymbolIs}
use Rattle.pattern_reader.specs.declared.Pattern.{Pattern}
use Rattle.pattern_grammar.specs.Verdict.{Verdict as PatternVerdict}
use Rattle.print_grammar.specs.Text.{PrintedText}

-- ---- a number's text: 10 to 15 (rows: crates/number/specs/Table.antt), or the number of the text's parts

pub data NumberVerdict (s : List ℕ) : Result Number Refusal → Type 0 where
  row : (r : NumberRow) → Row r s → NumberVerdict s (refuse r)
  read : (p : Parts) → Past15 s p → NumberVerdict s (Ok (number_of p))

-- ---- a pack's text: 20 to 26, or the rules of its tree

pub data PackVerdict (s : List ℕ) : PackAnswer → Type 0 where
  -- 20: "pack over 4,096 bytes"
  too_long : max_bytes < length s → PackVerdict s (PackRefused PackTooLong)
  -- 21: "start of the first token or stray byte no well-formed pack could have there, else the length"
  not_a_pack : (a : ℕ) → length s ≤ max_bytes → Culprit (tokens 0 s) a ⊎ Unfinished (tokens 0 s) (length s) a → PackVerdict s (refused_at NotAPack a)
  -- 22 to 26, "by the earliest place, then the lowest number"
  faulty : (n a : ℕ) → 22 ≤ n → n ≤ 26 → Faulty s n a → PackVerdict s (refused_at (row_of n) a)
  read : (rules : List Rule) → Tree s rules → PackVerdict s (Rules rules)

-- ---- "Selection tests pack, number, 27."

pub data SelectVerdict (pack number : List ℕ) : Result Keyword Refusal → Type 0 where
  by_pack : (r : Refusal) → PackVerdict pack (PackRefused r) → SelectVerdict pack number (Err r)
  by_number : (rules : List Rule) (r : Refusal) → PackVerdict pack (Rules rules) → NumberVerdict number (Err r)
      → SelectVerdict pack number (Err r)
  -- "none gives `other`, one gives its keyword, more is refusal 27 with the first two"
  chosen : (rules : List Rule) (x : Number) (c : Result Keyword Refusal) → PackVerdict pack (Rules rules) → NumberVerdict number (Ok x) → Chosen x rules c
      → SelectVerdict pack number c

-- ---- the check: 20 to 26, 27 "pair; from the check also e v i f", or none

pub data CheckVerdict (pack : List ℕ) : Result (Unit {0}) Refusal → Type 0 where
  by_pack : (r : Refusal) → PackVerdict pack (PackRefused r) → CheckVerdict pack (Err r)
  passes : (rules : List Rule) → PackVerdict pack (Rules rules) → AllApart rules → CheckVerdict pack (Ok tt)
  clashes : (rules : List Rule) (i j : ℕ) (pair : Pair) (x : Witness) → PackVerdict pack (Rules rules) → pair.first ≡ 1 + i → pair.second ≡ 1 + j
      → Lowest rules i j x → CheckVerdict pack (Err (OfRules (RulesClash pair x)))

-- ---- "Printing tests symbols, pattern, number, 50, 51." The answer, and what the output area holds behind it: "A refusal writes nothing; a success
-- writes its text at the front and no byte beyond, and returns its length."

-- symbols, pattern and number are read, and this is the text
pub record Printable (house s t : List ℕ) (p : Pattern) (n : Number) (text : List ℕ) : Type 0 where
  pub symbols : SymbolsVerdict house (Ok tt)
  pub pattern : PatternVerdict s (Ok p)
  pub number : NumberVerdict t (Ok n)
  pub no_exponent : n.e ≡ 0
  -- "Each symbol is taken from the standard record when the house record lacks it."
  pub symbol : Symbol → List ℕ
  pub symbols_are : (y : Symbol) → SymbolIs house y (symbol y)
  pub is_text : PrintedText symbol s p n text

pub data PrintVerdict (house s t area : List ℕ) : Result ℕ Refusal → List ℕ → Type 0 where
  by_symbols : (r : Refusal) → SymbolsVerdict house (Err r) → PrintVerdict house s t area (Err r) area
  by_pattern : (r : Refusal) → SymbolsVerdict house (Ok tt) → PatternVerdict s (Err r) → PrintVerdict house s t area (Err r) area
  by_number : (p : Pattern) (r : Refusal) → SymbolsVerdict house (Ok tt) → PatternVerdict s (Ok p) → NumberVerdict t (Err r)
      → PrintVerdict house s t area (Err r) area
  by_exponent : (p : Pattern) (n : Number) → SymbolsVerdict house (Ok tt) → PatternVerdict s (Ok p) → NumberVerdict t (Ok n) → 0 < n.e
      → PrintVerdict house s t area (Err (OfPrint PrintedExponent)) area
  too_short : (p : Pattern) (n : Number) (text : List ℕ) → Printable house s t p n text → length area < length text
      → PrintVerdict house s t area (Err (OfPrint (AreaTooShort (length text)))) area
  prints : (p : Pattern) (n : Number) (text : List ℕ) → Printable house s t p n text → length text ≤ length area
      → PrintVerdict house s t area (Ok (length text)) (text ++ drop (length text) area)
