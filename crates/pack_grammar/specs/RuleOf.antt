-- The rules that trees stand for.
use Rattle.std.specs.Prelude.{List, [], ◌∷◌, ◌++◌, map, get_or, if◌then◌else◌}
use Rattle.decimal.specs.Digits.{value}
use Rattle.answer.specs.Words.{spelling}
use Rattle.answer.specs.declared.Keyword.{Keyword}
use Rattle.answer.specs.declared.Keyword.TheVariants.{Zero, One as OneWord, Two, Few, Many, Other}
use Rattle.pack_rules.specs.Syntax.{Range, Relation, Rule}
use Rattle.pack_token.specs.Spelling.{same}
use Rattle.pack_grammar.specs.Grammar.{Text, RangeTree, RelationTree, ClauseTree, RuleTree}
use Rattle.pack_grammar.specs.Grammar.RangeTree.{One, Span}
use Rattle.pack_grammar.specs.Grammar.HeadTree.{Plain, Modulo}
use Rattle.pack_grammar.specs.Grammar.RelationTree.{Rel}
use Rattle.pack_grammar.specs.Grammar.ClauseTree.{Joined}
use Rattle.pack_grammar.specs.Grammar.RuleTree.{Bare, Named}

-- a value a is the range a..a; "Leading zeros don't count"
abbrev pub range_of : RangeTree → Range
range_of (One a) = record { low = value a; high = value a }
range_of (Span a b) = record { low = value a; high = value b }

-- the operand is its letter, and no modulus is 0
abbrev pub relation_of : RelationTree → Relation
relation_of (Rel (Plain o n) vs v) = record { operand = get_or o 0 0; modulus = 0; negated = n; ranges = map range_of (vs ++ (v ∷ [])) }
relation_of (Rel (Modulo o m n) vs v) = record { operand = get_or o 0 0; modulus = value m; negated = n; ranges = map range_of (vs ++ (v ∷ [])) }

abbrev pub clause_of : ClauseTree → List Relation
clause_of (Joined rs r) = map relation_of (rs ++ (r ∷ []))

-- the keyword that a word spells; a word that is none of the six is refused by 25, and is Other here
abbrev pub keyword_of : Text → Keyword
keyword_of t =
    if same t (spelling Zero) then Zero else
    if same t (spelling OneWord) then OneWord else
    if same t (spelling Two) then Two else
    if same t (spelling Few) then Few else
    if same t (spelling Many) then Many else
    Other

abbrev pub rule_of : RuleTree → Rule
rule_of (Bare k) = record { keyword = keyword_of k; clauses = [] }
rule_of (Named k cs c) = record { keyword = keyword_of k; clauses = map clause_of (cs ++ (c ∷ [])) }
