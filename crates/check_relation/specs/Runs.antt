-- Runs of ranges and of tests, and the level that is told of a relation.
use Rattle.std.specs.Prelude.{ℕ, ◌+◌, ◌-◌, ◌/◌, min, ltb, eqb, if◌then◌else◌}
use Rattle.pack_rules.specs.Syntax.{Relation}
use Rattle.check_laws.specs.Fast.{asked}
use Rattle.check_laws.specs.Levels.{level_in}
use Rattle.check_laws.specs.declared.Query.{Query}

-- past every number that is asked
abbrev pub far : ℕ
far = 4_000_000_000_000_000_000

-- the least start above y of those so far, and of a range from a on
unfoldable pub next_with : ℕ → ℕ → ℕ → ℕ
next_with next a y = if ltb y a then min next a else next

-- the first number that s takes to y or further
unfoldable pub upwards : ℕ → ℕ → ℕ
upwards y s = if eqb s 1 then y else (y + (s - 1)) / s

-- the level of a relation; 9, that of none, where it is not asked
unfoldable pub tier : Query → Relation → ℕ
tier q r = if asked q r then level_in q r else 9
