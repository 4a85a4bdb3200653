-- What stretches of a parsed pack's arrays hold.
use Rattle.std.specs.Prelude.{List, ◌++◌, ℕ, min, get_or}
pub use Rattle.decimal.specs.Digits.{cap}
use Rattle.answer.specs.declared.Keyword.TheVariants.{Other}
use Rattle.pack_rules.specs.Room.{clause_room}
use Rattle.pack_rules.specs.Syntax.{Relation, Rule}
use Rattle.pack_rules.specs.Stretch.{start_at, Table, relations_in, clauses_in}
use Rattle.check_laws.specs.declared.Span.{Span}

-- the clause that two stretches make
abbrev pub joined_in : Table → Span → List Relation
joined_in T s = relations_in T s.from s.to ++ relations_in T s.start s.stop

-- the clauses of a rule, by the places where they end
abbrev pub rule_clauses : Table → List ℕ → List ℕ → ℕ → List (List Relation)
rule_clauses T relations clauses p = clauses_in T relations (start_at clauses p) (min (get_or clauses p 0) clause_room)

-- a rule without its keyword, which no search asks
abbrev pub bare_rule : Table → List ℕ → List ℕ → ℕ → Rule
bare_rule T relations clauses p = record { keyword = Other; clauses = rule_clauses T relations clauses p }
