-- The pack that is `other:` alone: a dozen languages have one word for every number.
use Rattle.std.specs.Prelude.{Bool, true, false, List, [], ◌∷◌, leb, length}
use Rattle.decimal.specs.Choice.{both}
use Rattle.answer.specs.declared.Keyword.TheVariants.{Other}
use Rattle.pack_rules.specs.Syntax.{Rule}
use Rattle.pack_token.specs.Spelling.{same}
use Rattle.pack_token.specs.Token.{tokens}
use Rattle.pack_grammar.specs.Limits.{max_bytes}
use Rattle.pack_grammar.specs.Grammar.{Text, colon, other}
use Rattle.pack_grammar.specs.WellFormed.{texts}

-- two lists of texts are the same, text for text
abbrev pub same_texts : List Text → List Text → Bool
same_texts [] [] = true
same_texts [] (w ∷ ws) = false
same_texts (t ∷ ts) [] = false
same_texts (t ∷ ts) (w ∷ ws) = both (same t w) (same_texts ts ws)

-- its tokens are `other` and `:`; white space may stand before, between and behind
abbrev pub is_bare : Text → Bool
is_bare s = both (leb (length s) max_bytes) (same_texts (texts (tokens 0 s)) (other ∷ colon ∷ []))

-- "`other:` has none": the rule without a condition
abbrev pub bare_rule : Rule
bare_rule = record { keyword = Other; clauses = [] }
