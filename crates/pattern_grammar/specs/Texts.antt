-- What a pattern as read says of its bytes: each part stands where the grammar has it.
use Rattle.std.specs.Prelude.{◌≡◌, List, ◌↔◌, ℕ, length, take, drop}
use Rattle.pattern_token.specs.Items.{permille as permille_mark}
use Rattle.pattern_number.specs.Shape.{digits}
use Rattle.pattern_reader.specs.declared.Span.{Span}
use Rattle.pattern_reader.specs.declared.Negative.{Negative}
use Rattle.pattern_reader.specs.declared.Negative.TheVariants.{Own}
use Rattle.pattern_reader.specs.declared.Pattern.{Pattern}
use Rattle.pattern_grammar.specs.Grammar.{IsSub}
use Rattle.pattern_grammar.specs.Meaning.{step_in, Groups, percent_mark, marks_in, factor_in}

abbrev pub text_at : List ℕ → Span → List ℕ
text_at s p = take p.len (drop p.start s)

-- the positive subpattern's parts, what its number part asks for, and what its marks multiply by
pub record Parts {a : List ℕ} (s : List ℕ) (p : Pattern) (w : IsSub a) : Type 0 where
  pub prefix_text : text_at s p.prefix ≡ w.prefix
  pub number_text : text_at s p.number ≡ w.number
  pub suffix_text : text_at s p.suffix ≡ w.suffix
  pub least : p.least ≡ digits w.number_is.whole
  pub fraction : p.fraction ≡ digits w.number_is.fraction
  pub most : p.most ≡ length w.number_is.fraction
  pub groups : Groups w.number_is.whole p.primary p.secondary
  pub step : p.step ≡ step_in w.number_is
  pub factor : p.factor ≡ factor_in w

-- "only its prefix and suffix are used": what a negative number is printed with
pub record Affixes (s : List ℕ) (n : Negative) (prefix suffix : List ℕ) : Type 0 where
  pub before : Span
  pub behind : Span
  pub own : n ≡ Own before behind
  pub prefix_text : text_at s before ≡ prefix
  pub suffix_text : text_at s behind ≡ suffix

-- "`%` multiplies by 100, `‰` by 1000": each exactly where its mark stands bare in the affixes, and 1 where neither does
pub record Multiplies (factor : ℕ) (s : List ℕ) (w : IsSub s) : Type 0 where
  pub percent : (factor ≡ 100) ↔ (marks_in percent_mark w ≡ 1)
  pub permille : (factor ≡ 1000) ↔ (marks_in permille_mark w ≡ 1)
  pub neither : (factor ≡ 1) ↔ ((marks_in percent_mark w ≡ 0) × (marks_in permille_mark w ≡ 0))
