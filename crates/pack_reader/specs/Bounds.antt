-- How much a pack that is read holds at most: six rules, five of them with a condition, 40 clauses, 320 relations and 2,047 values or ranges. The arrays
-- of a parsed pack have room for it.
use Rattle.std.specs.Prelude.{List, [], ◌∷◌, ◌++◌, map, ℕ, ◌+◌, ◌≤◌, ◌<◌, length}
use Rattle.pack_rules.specs.Room.{range_room, relation_room, clause_room, rule_room}
use Rattle.pack_rules.specs.Syntax.{Range, Relation, Rule}

-- lists put one behind the other
abbrev pub flat : {A : Type 0} → List (List A) → List A
flat [] = []
flat (x ∷ xs) = x ++ flat xs

-- how many rules have a condition
abbrev pub conditioned : List Rule → ℕ
conditioned [] = 0
conditioned (r ∷ rs) = some r.clauses + conditioned rs
  where
    some : List (List Relation) → ℕ
    some [] = 0
    some (c ∷ cs) = 1

abbrev pub clauses_of : List Rule → List (List Relation)
clauses_of rs = flat (map (λ (r : Rule). r.clauses) rs)

abbrev pub relations_of : List Rule → List Relation
relations_of rs = flat (clauses_of rs)

abbrev pub ranges_of : List Rule → List Range
ranges_of rs = flat (map (λ (r : Relation). r.ranges) (relations_of rs))

-- "at most 8 clauses in a rule, 8 relations in a clause [..] fewer than 2,048 of those fit in one pack"
pub record Bounds (rs : List Rule) : Type 0 where
  pub rules : length rs ≤ rule_room
  pub conditions : conditioned rs ≤ 5
  pub clauses : length (clauses_of rs) ≤ clause_room
  pub relations : length (relations_of rs) ≤ relation_room
  pub ranges : length (ranges_of rs) < range_room
