-- Document 01's table, rows 30 to 36: which answer a pattern gets, in terms of the grammar. "Within one input the lowest number wins"; "34 and 35
-- judge both subpatterns."
use Rattle.answer.specs.declared.Refusal.{Refusal}
use Rattle.std.specs.Prelude.{Ok, Result, ◌≡◌, List, ℕ, ◌≤◌, ◌<◌, length}
use Rattle.utf8.specs.Scalar.{IsText}
use Rattle.answer.specs.declared.PatternRow.TheVariants.{PatternTooLong, PatternNotUtf8, ReservedByte, NotAPattern, TooManyPlaces, StepTooLarge, PercentMismatch}
use Rattle.pattern_reader.specs.Limits.{max_bytes}
use Rattle.pattern_reader.specs.declared.Pattern.{Pattern}
use Rattle.pattern_reader.specs.Reading.{refuse}
use Rattle.pattern_grammar.specs.Grammar.{IsPattern}
use Rattle.pattern_grammar.specs.Reserved.{Reserved}
use Rattle.pattern_grammar.specs.Meaning.{ManyPlaces, StepOver, ManyMarks, InEither, OtherMarks, pattern_in}

-- rows 30 to 32 do not refuse the pattern
pub record Plain (s : List ℕ) : Type 0 where
  pub short : length s ≤ max_bytes
  pub utf8 : IsText s
  pub unreserved : Reserved s → ⊥

-- a pattern to which rows 30 to 34 do not apply, and one to which row 35 does not either
pub record Past34 {s : List ℕ} (w : IsPattern s) : Type 0 where
  pub plain : Plain s
  pub places : InEither ManyPlaces w → ⊥

pub record Past35 {s : List ℕ} (w : IsPattern s) : Type 0 where
  pub past : Past34 w
  pub step : InEither StepOver w → ⊥

pub data Verdict (s : List ℕ) : Result Pattern Refusal → Type 0 where
  -- 30: "pattern over 256 bytes"
  too_long : max_bytes < length s → Verdict s (refuse PatternTooLong)
  -- 31: "pattern not UTF-8"
  not_utf8 : length s ≤ max_bytes → (IsText s → ⊥) → Verdict s (refuse PatternNotUtf8)
  -- 32: "bare `¤`, `*`, `@`, or `E` after a number-part byte"
  reserved : length s ≤ max_bytes → IsText s → Reserved s → Verdict s (refuse ReservedByte)
  -- 33: "not the pattern grammar, quote left open"
  not_a_pattern : Plain s → (IsPattern s → ⊥) → Verdict s (refuse NotAPattern)
  -- 34: "over 15 integer or 9 fraction places"
  many_places_law : Plain s → (w : IsPattern s) → InEither ManyPlaces w → Verdict s (refuse TooManyPlaces)
  -- 35: "step above 999,999 units of the last place"
  large_step : (w : IsPattern s) → Past34 w → InEither StepOver w → Verdict s (refuse StepTooLarge)
  -- 36: "over one percent or permille mark in a subpattern, or the two subpatterns differ in it"
  many_marks_law : (w : IsPattern s) → Past35 w → InEither ManyMarks w → Verdict s (refuse PercentMismatch)
  other_marks : (w : IsPattern s) → Past35 w → OtherMarks w → Verdict s (refuse PercentMismatch)
  -- else the pattern is read
  read : (w : IsPattern s) → Past35 w → (InEither ManyMarks w → ⊥) → (OtherMarks w → ⊥) → Verdict s (Ok (pattern_in w))

-- a pattern to which no row applies, and which asks for this
pub record Asks {s : List ℕ} (w : IsPattern s) (p : Pattern) : Type 0 where
  pub past : Past35 w
  pub few : InEither ManyMarks w → ⊥
  pub same : OtherMarks w → ⊥
  pub is : pattern_in w ≡ p
