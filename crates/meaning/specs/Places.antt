-- What the rule at a place of a pack's arrays means of a number.
use Rattle.std.specs.Prelude.{Bool, List, ℕ, min, get_or}
use Rattle.number.specs.declared.Number.{Number}
use Rattle.pack_rules.specs.Room.{clause_room}
use Rattle.pack_rules.specs.Stretch.{Table, start_at, clauses_in}
use Rattle.meaning.specs.Meaning.{condition_holds}

-- the number meets the rule j
abbrev pub met_at : Table → List ℕ → List ℕ → Number → ℕ → Bool
met_at T relations clauses x j = condition_holds (clauses_in T relations (start_at clauses j) (min (get_or clauses j 0) clause_room)) x
