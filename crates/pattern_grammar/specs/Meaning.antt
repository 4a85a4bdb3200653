-- Document 01, "The pattern": what a pattern asks for, over the grammar's parts.
use Rattle.std.specs.Prelude.{Bool, false, List, [], ◌∷◌, ◌++◌, map, ◌⊎◌, ◌≡◌, ℕ, ◌+◌, ◌<◌, eqb, length, if◌then◌else◌}
use Rattle.decimal.specs.Digits.{value}
use Rattle.pattern_token.specs.Items.{starts, permille as permille_mark}
use Rattle.pattern_number.specs.Shape.{digits, primary_of, secondary_of}
use Rattle.pattern_reader.specs.Limits.{max_whole, max_fraction, max_step}
use Rattle.pattern_reader.specs.Reading.{span}
use Rattle.pattern_reader.specs.declared.Negative.{Negative}
use Rattle.pattern_reader.specs.declared.Negative.TheVariants.{MinusSymbol, Own}
use Rattle.pattern_reader.specs.declared.Pattern.{Pattern}
use Rattle.pattern_grammar.specs.NumberPart.{drop_commas, IsPart}
use Rattle.pattern_grammar.specs.Grammar.{IsAffix, done, apostrophe, quote, literal, bare, IsSub, IsPattern, one, two}

-- ---- the step: "read the number part with `#` as 0 and commas dropped. If that is zero, the step is one unit of the last fraction place."

abbrev pub as_zero : ℕ → ℕ
as_zero b = if eqb b 35 then 48 else b

abbrev pub step_in : {n : List ℕ} → IsPart n → ℕ
step_in p = let u = value (map as_zero (drop_commas p.whole ++ p.fraction)) in if eqb u 0 then 1 else u

-- ---- groups: "The primary group is the places after the last comma; the secondary those between the last two, else equal to the primary."

pub data NoComma : List ℕ → Type 0 where
  empty : NoComma []
  other : {b : ℕ} {w : List ℕ} → eqb b 44 ≡ false → NoComma w → NoComma (b ∷ w)

-- the sizes of the primary and the secondary group of integer places. "No comma, no groups": 0
pub data Groups : List ℕ → ℕ → ℕ → Type 0 where
  none : {w : List ℕ} → NoComma w → Groups w 0 0
  one_comma : {a b : List ℕ} → NoComma a → NoComma b → Groups (a ++ (44 ∷ b)) (length b) (length b)
  more_commas : (a : List ℕ) {b c : List ℕ} → NoComma b → NoComma c → Groups (a ++ (44 ∷ (b ++ (44 ∷ c)))) (length c) (length b)

-- ---- marks

-- `%`, as `permille_mark` is `‰`
abbrev pub percent_mark : List ℕ
percent_mark = 37 ∷ []

-- how often a mark stands bare in an affix
abbrev pub bare_count : {q : Bool} {s : List ℕ} → List ℕ → IsAffix q s → ℕ
bare_count mark done = 0
bare_count mark (apostrophe a) = bare_count mark a
bare_count mark (quote e a) = bare_count mark a
bare_count mark (literal e a) = bare_count mark a
bare_count mark (bare {b = b} {t = t} e a) = (if starts mark (b ∷ t) then 1 else 0) + bare_count mark a

-- and in both affixes of a subpattern
abbrev pub marks_in : {s : List ℕ} → List ℕ → IsSub s → ℕ
marks_in mark w = bare_count mark w.prefix_is + bare_count mark w.suffix_is

-- "`%` multiplies by 100, `‰` by 1000"
abbrev pub factor_in : {s : List ℕ} → IsSub s → ℕ
factor_in w = if eqb (marks_in percent_mark w) 1 then 100 else if eqb (marks_in permille_mark w) 1 then 1000 else 1

-- ---- what 34 to 36 say of a subpattern

-- 34: "over 15 integer or 9 fraction places"
abbrev pub ManyPlaces : (s : List ℕ) → IsSub s → Type 0
ManyPlaces s w = (max_whole < length (drop_commas w.number_is.whole)) ⊎ (max_fraction < length w.number_is.fraction)

-- 35: "step above 999,999 units of the last place"
abbrev pub StepOver : (s : List ℕ) → IsSub s → Type 0
StepOver s w = max_step < step_in w.number_is

-- 36: "over one percent or permille mark in a subpattern ..
abbrev pub ManyMarks : (s : List ℕ) → IsSub s → Type 0
ManyMarks s w = 1 < marks_in percent_mark w + marks_in permille_mark w

-- .. or the two subpatterns differ in it"
abbrev pub SameMarks : {a b : List ℕ} → IsSub a → IsSub b → Type 0
SameMarks w v = (marks_in percent_mark w ≡ marks_in percent_mark v) × (marks_in permille_mark w ≡ marks_in permille_mark v)

-- of one of a pattern's subpatterns
abbrev pub InEither : ((a : List ℕ) → IsSub a → Type 0) → {s : List ℕ} → IsPattern s → Type 0
InEither P (one {s = s} w) = P s w
InEither P (two {a = a} {b = b} w v) = P a w ⊎ P b v

-- of its first subpattern
abbrev pub InFirst : ((a : List ℕ) → IsSub a → Type 0) → {s : List ℕ} → IsPattern s → Type 0
InFirst P (one {s = s} w) = P s w
InFirst P (two {a = a} w v) = P a w

abbrev pub OtherMarks : {s : List ℕ} → IsPattern s → Type 0
OtherMarks (one w) = ⊥
OtherMarks (two w v) = SameMarks w v → ⊥

-- ---- what is read: where its parts stand, and what the number part asks for

-- "Digits before the point are the least integer digits; digits after it the least fraction digits; all fraction places the most"
abbrev pub asked : {s : List ℕ} → IsSub s → Negative → Pattern
asked w negative =
    record {
      prefix = span 0 (length w.prefix);
      number = span (length w.prefix) (length w.number);
      suffix = span (length w.prefix + length w.number) (length w.suffix);
      least = digits w.number_is.whole;
      fraction = digits w.number_is.fraction;
      most = length w.number_is.fraction;
      -- the sizes that `Groups` gives them (`groups_told`)
      primary = primary_of w.number_is.whole;
      secondary = secondary_of w.number_is.whole;
      step = step_in w.number_is;
      factor = factor_in w;
      negative = negative;
    }

-- the affixes of a subpattern that starts at a place: of a second one "only its prefix and suffix are used"
abbrev pub own_in : {s : List ℕ} → ℕ → IsSub s → Negative
own_in at w = Own (span at (length w.prefix)) (span (at + length w.prefix + length w.number) (length w.suffix))

abbrev pub pattern_in : {s : List ℕ} → IsPattern s → Pattern
pattern_in (one w) = asked w MinusSymbol
pattern_in (two {a = a} w v) = asked w (own_in (length a + 1) v)
