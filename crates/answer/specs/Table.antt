-- Document 01, "What comes back when we say no": the number and the figures of each row. "Where an answer is an enum, a definition gives this
-- paper's number and values for each of the enum's cases. The promises use this definition."
use Rattle.std.specs.Prelude.{List, [], ◌∷◌, ℕ}
use Rattle.answer.specs.declared.NumberRow.{NumberRow}
use Rattle.answer.specs.declared.NumberRow.TheVariants.{NumberTooLong, NotANumber, ExponentTooLarge, ExponentAfterZero, IntegerTooLong, FractionTooLong}
use Rattle.answer.specs.declared.PackRow.{PackRow}
use Rattle.answer.specs.declared.PackRow.TheVariants.{NotAPack, ValueTooLarge, UnlistedModulus, RangeReversed, BadKeyword, TooMany}
use Rattle.answer.specs.declared.PatternRow.{PatternRow}
use Rattle.answer.specs.declared.PatternRow.TheVariants.{PatternTooLong, PatternNotUtf8, ReservedByte, NotAPattern, TooManyPlaces, StepTooLarge, PercentMismatch}
use Rattle.answer.specs.declared.SymbolRow.{SymbolRow}
use Rattle.answer.specs.declared.SymbolRow.TheVariants.{NotASymbolRecord, BadSymbolBody}
use Rattle.answer.specs.declared.Refusal.{Refusal}
use Rattle.answer.specs.declared.RulesRow.{RulesRow}
use Rattle.answer.specs.declared.RulesRow.TheVariants.{TwoRulesMet, RulesClash}
use Rattle.answer.specs.declared.PrintRow.{PrintRow}
use Rattle.answer.specs.declared.PrintRow.TheVariants.{PrintedExponent, AreaTooShort}
use Rattle.answer.specs.declared.Refusal.TheVariants.{Number, PackTooLong, Pack, Rules, Pattern, Symbols, Print}

-- ---- the column "no."

abbrev pub number_row : NumberRow → ℕ
number_row NumberTooLong = 10
number_row NotANumber = 11
number_row ExponentTooLarge = 12
number_row ExponentAfterZero = 13
number_row IntegerTooLong = 14
number_row FractionTooLong = 15

abbrev pub pack_row : PackRow → ℕ
pack_row NotAPack = 21
pack_row ValueTooLarge = 22
pack_row UnlistedModulus = 23
pack_row RangeReversed = 24
pack_row BadKeyword = 25
pack_row TooMany = 26

abbrev pub rules_row : RulesRow → ℕ
rules_row (TwoRulesMet pair) = 27
rules_row (RulesClash pair x) = 27

abbrev pub pattern_row : PatternRow → ℕ
pattern_row PatternTooLong = 30
pattern_row PatternNotUtf8 = 31
pattern_row ReservedByte = 32
pattern_row NotAPattern = 33
pattern_row TooManyPlaces = 34
pattern_row StepTooLarge = 35
pattern_row PercentMismatch = 36

abbrev pub symbol_row : SymbolRow → ℕ
symbol_row NotASymbolRecord = 40
symbol_row BadSymbolBody = 41

abbrev pub print_row : PrintRow → ℕ
print_row PrintedExponent = 50
print_row (AreaTooShort n) = 51

abbrev pub number_of : Refusal → ℕ
number_of (Number row) = number_row row
number_of PackTooLong = 20
number_of (Pack row at) = pack_row row
number_of (Rules row) = rules_row row
number_of (Pattern row) = pattern_row row
number_of (Symbols row) = symbol_row row
number_of (Print row) = print_row row

-- ---- the column "returns besides"

abbrev pub rules_figures : RulesRow → List ℕ
rules_figures (TwoRulesMet pair) = pair.first ∷ pair.second ∷ []
rules_figures (RulesClash pair x) = pair.first ∷ pair.second ∷ x.e ∷ x.v.0 ∷ x.i ∷ x.f.0 ∷ []

abbrev pub print_figures : PrintRow → List ℕ
print_figures PrintedExponent = []
print_figures (AreaTooShort n) = n ∷ []

abbrev pub figures_of : Refusal → List ℕ
figures_of (Number row) = []
figures_of PackTooLong = []
figures_of (Pack row at) = at.0 ∷ []
figures_of (Rules row) = rules_figures row
figures_of (Pattern row) = []
figures_of (Symbols row) = []
figures_of (Print row) = print_figures row
