-- The bounds of a pack, each stated once.
use Rattle.std.specs.Prelude.{Bool, true, List, [], ◌∷◌, ℕ, eqb, if◌then◌else◌}
use Rattle.answer.specs.Words.{spelling}
use Rattle.answer.specs.declared.Keyword.TheVariants.{Zero, One, Two, Few, Many, Other}

-- 20: "pack over 4,096 bytes"
abbrev pub max_bytes : ℕ
max_bytes = 4096

-- "at most 8 clauses in a rule, 8 relations in a clause, 16 values or ranges in a relation"
abbrev pub max_clauses : ℕ
max_clauses = 8

abbrev pub max_relations : ℕ
max_relations = 8

abbrev pub max_ranges : ℕ
max_ranges = 16

-- "Values are 0 to 999,999."
abbrev pub max_value : ℕ
max_value = 999999

-- "A modulus is 10, 100, 1000, 10000, 100000 or 1000000."
abbrev pub is_modulus : ℕ → Bool
is_modulus m =
    if eqb m 10 then true else
    if eqb m 100 then true else
    if eqb m 1000 then true else
    if eqb m 10000 then true else
    if eqb m 100000 then true else
    eqb m 1000000

-- "Keywords: zero, one, two, few, many, other"
abbrev pub keywords : List (List ℕ)
keywords = spelling Zero ∷ spelling One ∷ spelling Two ∷ spelling Few ∷ spelling Many ∷ spelling Other ∷ []
