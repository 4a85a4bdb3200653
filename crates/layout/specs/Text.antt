-- Document 01, "The pattern", with document 02's minimum grouping digits: the text of a number under a pattern.
use Rattle.std.specs.Prelude.{Bool, true, false, List, [], ◌∷◌, ◌++◌, ℕ, length, get_or, take, drop, if◌then◌else◌}
use Rattle.decimal.specs.Digits.{figures}
use Rattle.pattern_token.specs.declared.Mark.{Mark}
use Rattle.pattern_token.specs.declared.Mark.TheVariants.{Minus as MinusMark, Plus as PlusMark, Percent as PercentMark, Permille as PermilleMark}
use Rattle.pattern_token.specs.declared.Item.{Item}
use Rattle.pattern_token.specs.declared.Item.TheVariants.{Text, Symbol as SymbolItem, Place, Quote, Semicolon, Reserved}
use Rattle.pattern_token.specs.Items.{items}
use Rattle.symbols.specs.declared.Symbol.{Symbol}
use Rattle.symbols.specs.declared.Symbol.TheVariants.{Decimal, Group, Minus, Plus, Percent, Permille, Minimum}
use Rattle.pattern_reader.specs.declared.Span.{Span}
use Rattle.pattern_reader.specs.declared.Negative.{Negative}
use Rattle.pattern_reader.specs.declared.Negative.TheVariants.{MinusSymbol, Own}
use Rattle.pattern_reader.specs.declared.Pattern.{Pattern}
use Rattle.number.specs.declared.Number.{Number}
use Rattle.nearest.specs.Nearest.{units_of}
use Rattle.rounding.specs.Limits.{width}
use Rattle.layout.specs.declared.Affixes.{Affixes}
use Rattle.layout.specs.Layout.{whole_digits, fraction_digits, zero_digit, group_size, body}

-- ---- affixes

-- "In affixes `%`, `‰`, `+`, `-` print their symbols"
abbrev pub symbol_of : Mark → Symbol
symbol_of MinusMark = Minus
symbol_of PlusMark = Plus
symbol_of PercentMark = Percent
symbol_of PermilleMark = Permille

abbrev pub render : (Symbol → List ℕ) → Item → List ℕ
render symbol (Text b) = b ∷ []
render symbol (SymbolItem m) = symbol (symbol_of m)
render symbol (Place b) = []
render symbol Quote = []
render symbol Semicolon = []
render symbol Reserved = []

abbrev pub rendered : (Symbol → List ℕ) → List Item → List ℕ
rendered symbol [] = []
rendered symbol (t ∷ ts) = render symbol t ++ rendered symbol ts

-- the part of a pattern's text that a span names, and what it prints as an affix
abbrev pub part_of : List ℕ → Span → List ℕ
part_of s p = take p.len (drop p.start s)

abbrev pub affix_text : (Symbol → List ℕ) → List ℕ → Span → List ℕ
affix_text symbol s p = rendered symbol (items (part_of s p))

-- "but only its prefix and suffix are used. Without one, a negative number gets the minus symbol before the positive prefix."
abbrev pub negative_affixes : Pattern → Negative → Affixes
negative_affixes p MinusSymbol = record { minus = true; prefix = p.prefix; suffix = p.suffix }
negative_affixes p (Own prefix suffix) = record { minus = false; prefix = prefix; suffix = suffix }

-- "The sign printed is the sign of the text"
abbrev pub affixes_of : Pattern → Bool → Affixes
affixes_of p negative = if negative then negative_affixes p p.negative else record { minus = false; prefix = p.prefix; suffix = p.suffix }

-- ---- the text

-- the digits of the printed value, in units of the last fraction place
abbrev pub digits_of : Pattern → Number → List ℕ
digits_of p n = figures width (units_of p.step p.factor p.most n.i n.v.0 n.f.0)

-- the minimum grouping digits: the byte of kind 71's body
abbrev pub minimum_in : (Symbol → List ℕ) → ℕ
minimum_in symbol = get_or (symbol Minimum) 0 0

-- with groups whose primary size is this, where so many integer digits are shown
abbrev pub number_with : (Symbol → List ℕ) → (ℕ → ℕ) → Pattern → List ℕ → List ℕ
number_with symbol size p d =
    let whole = whole_digits p.least p.most d in
    body zero_digit (symbol Decimal) (symbol Group) (size (length whole)) p.secondary whole (fraction_digits p.fraction p.most d)

abbrev pub number_text : (Symbol → List ℕ) → Pattern → List ℕ → List ℕ
number_text symbol p d = number_with symbol (group_size (minimum_in symbol) p.primary) p d

abbrev pub laid_out : (Symbol → List ℕ) → List ℕ → Pattern → Affixes → List ℕ → List ℕ
laid_out symbol s p a d =
    (if a.minus then symbol Minus else []) ++ (affix_text symbol s a.prefix ++ (number_text symbol p d ++ affix_text symbol s a.suffix))

abbrev pub text_of : (Symbol → List ℕ) → List ℕ → Pattern → Number → List ℕ
text_of symbol s p n = laid_out symbol s p (affixes_of p n.negative) (digits_of p n)
