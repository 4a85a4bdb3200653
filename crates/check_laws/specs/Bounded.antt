-- A search with bounds for v: to bound v is to ask one relation more.
use Rattle.std.specs.Prelude.{Bool, false, List, [], ◌∷◌, ℕ, leb}
use Rattle.decimal.specs.Choice.{both}
use Rattle.number.specs.declared.Number.{Number}
use Rattle.pack_rules.specs.Syntax.{Relation}
use Rattle.check_laws.specs.declared.Bounds.{Bounds}

abbrev pub from_to : Bounds → ℕ → Bool
from_to b v = both (leb b.least.0 v) (leb v b.most.0)

-- the number's v is within the bounds
abbrev pub within_places : Bounds → Number → Bool
within_places b x = from_to b x.v.0

-- "v = least..most"
abbrev pub places_between : Bounds → Relation
places_between b = record { operand = 118; modulus = 0; negated = false; ranges = record { low = b.least.0; high = b.most.0 } ∷ [] }

abbrev pub bounded : Bounds → List Relation → List Relation
bounded b c = places_between b ∷ c
