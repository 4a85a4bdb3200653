-- Document 01, "The pattern": what is read of a pattern, and refusals 30 to 36 in the order of the table.
use Rattle.answer.specs.declared.Refusal.{Refusal}
use Rattle.std.specs.Prelude.{Err, Ok, Result, Bool, List, ℕ, ◌+◌, ltb, eqb, length, get_or, take, drop, if◌then◌else◌}
use Rattle.decimal.specs.Lists.{run_of}
use Rattle.decimal.specs.Choice.{both, either}
use Rattle.utf8.specs.Utf8.{is_utf8}
use Rattle.pattern_affix.specs.declared.Affix.{Affix}
use Rattle.pattern_token.specs.declared.Mark.{Mark}
use Rattle.pattern_token.specs.declared.Mark.TheVariants.{Percent, Permille}
use Rattle.pattern_token.specs.Items.{is_place, items}
use Rattle.pattern_affix.specs.Affixes.{affix, any_reserved, marks}
use Rattle.pattern_number.specs.Shape.{shape_of, capped}
use Rattle.answer.specs.declared.PatternRow.{PatternRow}
use Rattle.answer.specs.declared.PatternRow.TheVariants.{PatternTooLong, PatternNotUtf8, ReservedByte, NotAPattern, TooManyPlaces, StepTooLarge, PercentMismatch}
use Rattle.answer.specs.declared.Refusal.TheVariants.{Pattern as OfPattern}
use Rattle.pattern_reader.specs.Limits.{max_bytes, max_whole, max_fraction, max_step}
use Rattle.pattern_reader.specs.declared.Span.{Span}
use Rattle.pattern_reader.specs.declared.Negative.{Negative}
use Rattle.pattern_reader.specs.declared.Negative.TheVariants.{MinusSymbol, Own}
use Rattle.pattern_reader.specs.declared.Half.{Half}
use Rattle.pattern_reader.specs.declared.Pattern.{Pattern}

-- ---- "A prefix, a number part, a suffix": the subpattern that a text begins with

-- how many number-part bytes a text begins with
abbrev pub places : List ℕ → ℕ
places s = run_of is_place s

abbrev pub prefix_len : List ℕ → ℕ
prefix_len s = (affix s).len

abbrev pub number_len : List ℕ → ℕ
number_len s = places (drop (prefix_len s) s)

-- what stands behind the number part, and the suffix that it begins with
abbrev pub behind : List ℕ → List ℕ
behind s = drop (prefix_len s + number_len s) s

abbrev pub suffix_affix : List ℕ → Affix
suffix_affix s = affix (behind s)

abbrev pub prefix_of : List ℕ → List ℕ
prefix_of s = take (prefix_len s) s

abbrev pub number_of : List ℕ → List ℕ
number_of s = take (number_len s) (drop (prefix_len s) s)

abbrev pub suffix_of : List ℕ → List ℕ
suffix_of s = take (suffix_affix s).len (behind s)

-- how often a mark stands bare in the affixes
abbrev pub marks_of : Mark → List ℕ → ℕ
marks_of m s = marks m (items (prefix_of s)) + marks m (items (suffix_of s))

abbrev pub half_of : List ℕ → Half
half_of s =
    record {
      prefix = prefix_len s;
      number = number_len s;
      suffix = (suffix_affix s).len;
      closed = (suffix_affix s).closed;
      shape = shape_of (number_of s);
      percents = marks_of Percent s;
      permilles = marks_of Permille s;
    }

-- where the subpattern ends
abbrev pub end_of : Half → ℕ
end_of h = h.prefix + h.number + h.suffix

-- ---- the table, of two subpatterns a and b; of a pattern that has but one, b is a

-- 33: a prefix that leaves a quote open leaves no number part, and so no digit
abbrev pub fits : Half → Bool
fits h = both h.closed h.shape.fits

-- 34
abbrev pub many_places : Half → Bool
many_places h = either (ltb max_whole h.shape.whole) (ltb max_fraction h.shape.most)

-- 35
abbrev pub step_over : Half → Bool
step_over h = ltb max_step h.shape.step

-- 36: "over one percent or permille mark in a subpattern, or the two subpatterns differ in it"
abbrev pub many_marks : Half → Bool
many_marks h = ltb 1 (h.percents + h.permilles)

abbrev pub same_marks : Half → Half → Bool
same_marks a b = both (eqb a.percents b.percents) (eqb a.permilles b.permilles)

abbrev pub refuse : PatternRow → Result Pattern Refusal
refuse row = Err (OfPattern row)

abbrev pub span : ℕ → ℕ → Span
span start n = record { start = start; len = n }

-- "`%` multiplies by 100, `‰` by 1000"
abbrev pub factor_of : Half → ℕ
factor_of h = if ltb 0 h.percents then 100 else if ltb 0 h.permilles then 1000 else 1

abbrev pub pattern_of : Half → Negative → Pattern
pattern_of h negative =
    record {
      prefix = span 0 h.prefix;
      number = span h.prefix h.number;
      suffix = span (h.prefix + h.number) h.suffix;
      least = h.shape.least;
      fraction = h.shape.fraction;
      most = h.shape.most;
      primary = h.shape.primary;
      secondary = h.shape.secondary;
      step = h.shape.step;
      factor = factor_of h;
      negative = negative;
    }

abbrev pub judged_marks : Half → Half → Negative → Result Pattern Refusal
judged_marks a b negative =
    if either (many_marks a) (many_marks b) then refuse PercentMismatch else
    if same_marks a b then Ok (pattern_of a negative) else
    refuse PercentMismatch

abbrev pub judged : Half → Half → Negative → Result Pattern Refusal
judged a b negative =
    if both (fits a) (fits b) then
    (if either (many_places a) (many_places b) then refuse TooManyPlaces else
    if either (step_over a) (step_over b) then refuse StepTooLarge else
    judged_marks a b negative)
    else refuse NotAPattern

-- ---- "optionally `;` and a negative subpattern. The part after the semicolon is read as a subpattern of its own, of the same grammar, but only its
-- prefix and suffix are used. Without one, a negative number gets the minus symbol before the positive prefix."

-- the affixes of the subpattern b, which starts at a place
abbrev pub own_affixes : ℕ → Half → Negative
own_affixes at b = Own (span at b.prefix) (span (at + b.prefix + b.number) b.suffix)

-- the pattern s with the subpattern a, and from the place `at` on the subpattern b
abbrev pub with_second : List ℕ → Half → ℕ → Half → Result Pattern Refusal
with_second s a at b = if eqb (at + end_of b) (length s) then judged a b (own_affixes at b) else refuse NotAPattern

abbrev pub halves : List ℕ → Result Pattern Refusal
halves s =
    let a = half_of s in
    if eqb (end_of a) (length s) then judged a a MinusSymbol else
    if eqb (get_or s (end_of a) 0) 59 then with_second s a (end_of a + 1) (half_of (drop (end_of a + 1) s)) else
    refuse NotAPattern

abbrev pub read_pattern : List ℕ → Result Pattern Refusal
read_pattern s =
    if ltb max_bytes (length s) then refuse PatternTooLong else
    if is_utf8 s then (if any_reserved (items s) then refuse ReservedByte else halves s) else
    refuse PatternNotUtf8

-- ---- the same with the step kept at its bound

abbrev pub capped_half : Half → Half
capped_half h =
    record {
      prefix = h.prefix;
      number = h.number;
      suffix = h.suffix;
      closed = h.closed;
      shape = capped h.shape;
      percents = h.percents;
      permilles = h.permilles;
    }
