-- The bounds of a pack, over its tree. "Bounds: at most 8 clauses in a rule, 8 relations in a clause, 16 values or ranges in a relation [..] Values are 0
-- to 999,999. A modulus is 10, 100, 1000, 10000, 100000 or 1000000. Leading zeros don't count in either. Keywords: zero, one, two, few, many, other,
-- each once." A range a..b has a at most b (24).
use Rattle.std.specs.Prelude.{◌≡◌, true, false, List, [], ◌∷◌, ◌++◌, map, ◌≤◌, length}
use Rattle.decimal.specs.Digits.{value}
use Rattle.pack_token.specs.Spelling.{among}
use Rattle.pack_grammar.specs.Limits.{max_clauses, max_relations, max_ranges, max_value, is_modulus, keywords}
use Rattle.pack_grammar.specs.Grammar.{Text, RangeTree, HeadTree, RelationTree, ClauseTree, RuleTree, PackTree, name_of, rules_of}
use Rattle.pack_grammar.specs.Grammar.RangeTree.{One, Span}
use Rattle.pack_grammar.specs.Grammar.HeadTree.{Plain, Modulo}
use Rattle.pack_grammar.specs.Grammar.RelationTree.{Rel}
use Rattle.pack_grammar.specs.Grammar.ClauseTree.{Joined}
use Rattle.pack_grammar.specs.Grammar.RuleTree.{Bare, Named}

-- of every one
abbrev pub Every : {A : Type 0} → (A → Type 0) → List A → Type 0
Every P [] = Unit {0}
Every P (x ∷ xs) = P x × Every P xs

abbrev pub RangeWithin : RangeTree → Type 0
RangeWithin (One a) = value a ≤ max_value
RangeWithin (Span a b) = (value a ≤ max_value) × (value b ≤ max_value) × (value a ≤ value b)

abbrev pub HeadWithin : HeadTree → Type 0
HeadWithin (Plain o n) = Unit {0}
HeadWithin (Modulo o m n) = is_modulus (value m) ≡ true

abbrev pub RelationWithin : RelationTree → Type 0
RelationWithin (Rel h vs v) = HeadWithin h × Every RangeWithin (vs ++ (v ∷ [])) × (length (vs ++ (v ∷ [])) ≤ max_ranges)

abbrev pub ClauseWithin : ClauseTree → Type 0
ClauseWithin (Joined rs r) = Every RelationWithin (rs ++ (r ∷ [])) × (length (rs ++ (r ∷ [])) ≤ max_relations)

abbrev pub RuleWithin : RuleTree → Type 0
RuleWithin (Bare k) = among k keywords ≡ true
RuleWithin (Named k cs c) = (among k keywords ≡ true) × Every ClauseWithin (cs ++ (c ∷ [])) × (length (cs ++ (c ∷ [])) ≤ max_clauses)

-- "each once"
abbrev pub Distinct : List Text → Type 0
Distinct [] = Unit {0}
Distinct (k ∷ ks) = (among k ks ≡ false) × Distinct ks

abbrev pub Within : PackTree → Type 0
Within p = Every RuleWithin (rules_of p) × Distinct (map name_of (rules_of p))
