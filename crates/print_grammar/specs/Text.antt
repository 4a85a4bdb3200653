-- Document 01, "The pattern", with document 02's minimum grouping digits: what a printed text is, as one relation between the pattern's bytes, what was read of them, the number, and the text.
use Rattle.std.specs.Prelude.{◌≡◌, Bool, true, false, not, List, [], ◌∷◌, ◌++◌, ℕ, eqb, ltb, length, if◌then◌else◌}
use Rattle.decimal.specs.Choice.{both}
use Rattle.decimal.specs.Digits.{begins}
use Rattle.pattern_token.specs.Items.{starts, permille}
use Rattle.symbols.specs.declared.Symbol.{Symbol}
use Rattle.symbols.specs.declared.Symbol.TheVariants.{Decimal, Group, Minus, Plus, Percent, Permille}
use Rattle.number.specs.declared.Number.{Number}
use Rattle.pattern_reader.specs.declared.Span.{Span}
use Rattle.pattern_reader.specs.declared.Negative.TheVariants.{MinusSymbol, Own}
use Rattle.pattern_reader.specs.declared.Pattern.{Pattern}
use Rattle.pattern_grammar.specs.Grammar.{is_bare}
use Rattle.pattern_grammar.specs.Texts.{text_at}
use Rattle.nearest.specs.Nearest.{Permitted}
use Rattle.layout.specs.Layout.{zero_digit, spell, spelled}
use Rattle.layout.specs.Text.{minimum_in}
use Rattle.print_grammar.specs.Digits.{ShownDigits, SymbolStands}

-- ---- affixes

-- a byte that prints itself before these bytes: bare, and none that a symbol stands for
abbrev pub is_literal : ℕ → List ℕ → Bool
is_literal b s =
    if eqb b 37 then false else
    if eqb b 43 then false else
    if eqb b 45 then false else
    both (not (starts permille (b ∷ s))) (is_bare b)

-- What an affix prints that begins inside quotes or outside: "In affixes `%`, `‰`, `+`, `-` print their symbols"; "Quotes enclose literal text, `''`,
-- looked for first, is one apostrophe inside or outside."
pub data AffixText (symbol : Symbol → List ℕ) : Bool → List ℕ → List ℕ → Type 0 where
  done : AffixText symbol false [] []
  apostrophe : {q : Bool} {s t : List ℕ} → AffixText symbol q s t → AffixText symbol q (39 ∷ 39 ∷ s) (39 ∷ t)
  quote : {q : Bool} {s t : List ℕ} → begins 39 s ≡ false → AffixText symbol (not q) s t → AffixText symbol q (39 ∷ s) t
  quoted : {b : ℕ} {s t : List ℕ} → eqb b 39 ≡ false → AffixText symbol true s t → AffixText symbol true (b ∷ s) (b ∷ t)
  percent : {s t : List ℕ} → AffixText symbol false s t → AffixText symbol false (37 ∷ s) (symbol Percent ++ t)
  plus : {s t : List ℕ} → AffixText symbol false s t → AffixText symbol false (43 ∷ s) (symbol Plus ++ t)
  minus : {s t : List ℕ} → AffixText symbol false s t → AffixText symbol false (45 ∷ s) (symbol Minus ++ t)
  permille_mark : {s t : List ℕ} → AffixText symbol false s t → AffixText symbol false (0xE2 ∷ 0x80 ∷ 0xB0 ∷ s) (symbol Permille ++ t)
  literal : {b : ℕ} {s t : List ℕ} → is_literal b s ≡ true → AffixText symbol false s t → AffixText symbol false (b ∷ s) (b ∷ t)

-- what a prefix and a suffix, given by their places in the pattern, print
pub record AffixesText (symbol : Symbol → List ℕ) (s : List ℕ) (before behind : Span) (prefix suffix : List ℕ) : Type 0 where
  pub prefix_text : AffixText symbol false (text_at s before) prefix
  pub suffix_text : AffixText symbol false (text_at s behind) suffix

-- What stands around the digits of a positive or a negative number: sign, prefix, suffix. "only its prefix and suffix are used. Without one, a negative
-- number gets the minus symbol before the positive prefix. The sign printed is the sign of the text".
pub data Around (symbol : Symbol → List ℕ) (s : List ℕ) (p : Pattern) : Bool → List ℕ → List ℕ → List ℕ → Type 0 where
  positive : {prefix suffix : List ℕ} → AffixesText symbol s p.prefix p.suffix prefix suffix → Around symbol s p false [] prefix suffix
  minus : {prefix suffix : List ℕ} → p.negative ≡ MinusSymbol → AffixesText symbol s p.prefix p.suffix prefix suffix
      → Around symbol s p true (symbol Minus) prefix suffix
  own : {prefix suffix : List ℕ} (before behind : Span) → p.negative ≡ Own before behind → AffixesText symbol s before behind prefix suffix
      → Around symbol s p true [] prefix suffix

-- ---- digits

-- integer digits, spelled by digit zero, with group symbols among them: one behind a digit exactly where it stands with so many digits to come
pub data Grouped (zero : ℕ) (group : List ℕ) (Stands : ℕ → Type 0) : List ℕ → List ℕ → Type 0 where
  none : Grouped zero group Stands [] []
  plain : {d : ℕ} {ds t : List ℕ} → (Stands (length ds) → ⊥) → Grouped zero group Stands ds t → Grouped zero group Stands (d ∷ ds) (spell zero d ++ t)
  ended : {d : ℕ} {ds t : List ℕ} → Stands (length ds) → Grouped zero group Stands ds t → Grouped zero group Stands (d ∷ ds) (spell zero d ++ (group ++ t))

-- "The decimal symbol prints when a fraction digit does."
abbrev pub point_before : List ℕ → List ℕ → List ℕ
point_before point fraction = if ltb 0 (length fraction) then point else []

-- ---- the text

pub record PrintedText (symbol : Symbol → List ℕ) (s : List ℕ) (p : Pattern) (n : Number) (text : List ℕ) : Type 0 where
  -- the printed value, in units of the last fraction place: the permitted value nearest to the exact one, a tie at the even multiple
  pub units : ℕ
  pub permitted : Permitted p.step p.factor p.most n.i n.v.0 n.f.0 units
  -- its digits: least and most digits, zeros dropped beyond them
  pub whole : List ℕ
  pub fraction : List ℕ
  pub shown : ShownDigits p.least p.fraction p.most units whole fraction
  -- the integer digits in groups
  pub integer : List ℕ
  pub is_grouped : Grouped zero_digit (symbol Group) (SymbolStands (minimum_in symbol) p.primary p.secondary (length whole)) whole integer
  -- what stands around them
  pub sign : List ℕ
  pub prefix : List ℕ
  pub suffix : List ℕ
  pub around : Around symbol s p n.negative sign prefix suffix
  pub is_text : text ≡ sign ++ (prefix ++ (integer ++ (point_before (symbol Decimal) fraction ++ (spelled zero_digit fraction ++ suffix))))
