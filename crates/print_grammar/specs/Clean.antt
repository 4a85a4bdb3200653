-- Affixes without a reserved item: those of a pattern that is read.
use Rattle.std.specs.Prelude.{◌≡◌, false, List, ℕ}
use Rattle.pattern_token.specs.Items.{items}
use Rattle.pattern_affix.specs.Affixes.{any_reserved}
use Rattle.pattern_reader.specs.declared.Span.{Span}
use Rattle.pattern_reader.specs.declared.Negative.TheVariants.{Own}
use Rattle.pattern_reader.specs.declared.Pattern.{Pattern}
use Rattle.pattern_grammar.specs.Grammar.{IsAffix}
use Rattle.pattern_grammar.specs.Texts.{text_at}

pub record CleanAffix (t : List ℕ) : Type 0 where
  pub is_affix : IsAffix false t
  pub unreserved : any_reserved (items t) ≡ false

-- of a prefix and a suffix given by their places
pub record CleanAffixes (s : List ℕ) (before behind : Span) : Type 0 where
  pub prefix : CleanAffix (text_at s before)
  pub suffix : CleanAffix (text_at s behind)

pub record PatternClean (s : List ℕ) (p : Pattern) : Type 0 where
  pub positive : CleanAffixes s p.prefix p.suffix
  pub negative : (before behind : Span) → p.negative ≡ Own before behind → CleanAffixes s before behind
