-- What stretches of a parsed pack's arrays hold, place by place.
use Rattle.std.specs.Prelude.{List, [], ◌∷◌, ℕ, zero, suc, ◌+◌, ◌*◌, ◌-◌, min, eqb, get_or, if◌then◌else◌}
use Rattle.pack_rules.specs.Room.{range_room, relation_room, clause_room}
use Rattle.pack_rules.specs.Syntax.{Range, Relation, Rule}
use Rattle.pack_rules.specs.declared.Pack.{Pack}
use Rattle.pack_rules.specs.Held.{keyword_of}
use Rattle.std.proofs.Math.Nat.{min-le_right}
use Rattle.pack_rules.specs.declared.single.Single.{Single}

-- the n elements g from, g (from + 1), ..
unfoldable pub stretch : {A : Type 0} → (ℕ → A) → ℕ → ℕ → List A
stretch g from zero = []
stretch g from (suc n) = g from ∷ stretch g (suc from) n

-- where the part j begins, of parts that end at these places
abbrev pub start_at : List ℕ → ℕ → ℕ
start_at ends j = if eqb j 0 then 0 else get_or ends (j - 1) 0

abbrev pub range_at : List ℕ → List ℕ → ℕ → Range
range_at low high k = record { low = get_or low k 0; high = get_or high k 0 }

-- the ranges at `from` to before `to`
abbrev pub ranges_in : List ℕ → List ℕ → ℕ → ℕ → List Range
ranges_in low high from to = stretch (range_at low high) from (to - from)

-- where the ranges of the relation j end, and where they begin
abbrev pub end_at : List ℕ → ℕ → ℕ
end_at columns j = get_or columns (4 * j + 3) 0

abbrev pub ranges_from_at : List ℕ → ℕ → ℕ
ranges_from_at columns j = if eqb j 0 then 0 else end_at columns (j - 1)

-- the relation j's numbers, its ranges within the room for ranges
abbrev pub single_at : List ℕ → ℕ → Single
single_at columns j =
    record {
      operand = get_or columns (4 * j) 0;
      modulus = get_or columns (4 * j + 1) 0;
      negated = eqb (get_or columns (4 * j + 2) 0) 1;
      from = ranges_from_at columns j;
      to = min (end_at columns j) range_room;
      in_room = min-le_right (end_at columns j) range_room;
    }

-- the relation of these numbers
abbrev pub relation_by : List ℕ → List ℕ → Single → Relation
relation_by low high s = record { operand = s.operand; modulus = s.modulus; negated = s.negated; ranges = ranges_in low high s.from s.to }

-- the arrays of relations and their ranges
pub record Table : Type 0 where
  pub columns : List ℕ
  pub low : List ℕ
  pub high : List ℕ

abbrev pub table : List ℕ → List ℕ → List ℕ → Table
table columns low high = record { columns = columns; low = low; high = high }

abbrev pub table_of : Pack → Table
table_of p = table p.columns p.low p.high

abbrev pub relation_at : Table → ℕ → Relation
relation_at T j = relation_by T.low T.high (single_at T.columns j)

abbrev pub relations_in : Table → ℕ → ℕ → List Relation
relations_in T from to = stretch (relation_at T) from (to - from)

abbrev pub clause_at : Table → List ℕ → ℕ → List Relation
clause_at T relations j = relations_in T (start_at relations j) (min (get_or relations j 0) relation_room)

abbrev pub clauses_in : Table → List ℕ → ℕ → ℕ → List (List Relation)
clauses_in T relations from to = stretch (clause_at T relations) from (to - from)

abbrev pub rule_at : Pack → ℕ → Rule
rule_at p j =
    record {
      keyword = keyword_of (get_or p.keyword j 0);
      clauses = clauses_in (table_of p) p.relations (start_at p.clauses j) (min (get_or p.clauses j 0) clause_room);
    }
