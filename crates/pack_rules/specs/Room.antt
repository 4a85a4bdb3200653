-- How many ranges, relations, clauses and rules a parsed pack's arrays have room for.
use Rattle.std.specs.Prelude.{ℕ}

-- "fewer than 2,048 of those fit in one pack"
abbrev pub range_room : ℕ
range_room = 2048

abbrev pub relation_room : ℕ
relation_room = 320

abbrev pub clause_room : ℕ
clause_room = 40

abbrev pub rule_room : ℕ
rule_room = 6
