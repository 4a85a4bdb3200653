-- Demand 2: "Word and text are those of the standard as document 01 narrows it". What a word is that is given, and what a text is that is printed.
use Rattle.std.specs.Prelude.{Ok, ◌≡◌, List, ◌++◌, ℕ, ◌≤◌, length, drop}
use Rattle.answer.specs.declared.Keyword.{Keyword}
use Rattle.number.specs.declared.Number.{Number}
use Rattle.pack_rules.specs.Syntax.{Rule}
use Rattle.pack_grammar.specs.Reader.PackAnswer.{Rules}
use Rattle.select.specs.Words.{Chosen}
use Rattle.pattern_reader.specs.declared.Pattern.{Pattern}
use Rattle.demands.specs.Verdicts.{NumberVerdict, PackVerdict, Printable}

-- the word: of a pack and a number that are read, by the rules that the number meets
pub record TheWord (pack number : List ℕ) (k : Keyword) : Type 0 where
  pub rules : List Rule
  pub operands : Number
  pub pack-read : PackVerdict pack (Rules rules)
  pub number_read : NumberVerdict number (Ok operands)
  -- the keyword of the one rule met, or `other` where none is
  pub is_word : Chosen operands rules (Ok k)

-- The text: of symbols, a pattern and a number that are read, whole at the area's front, and no byte beyond. "the printed value is the permitted value
-- nearest the exact one, rounded once, ties to the even multiple": `PrintedText` says so, in `Printable`.
pub record TheText (house s t area after : List ℕ) (n : ℕ) : Type 0 where
  pub pattern : Pattern
  pub operands : Number
  pub text : List ℕ
  pub is_text : Printable house s t pattern operands text
  pub size : n ≡ length text
  pub fits : length text ≤ length area
  pub area-after : after ≡ text ++ drop (length text) area
