-- Lower bounds for the i and the t of a clause: each joined clause of which it is a part has them too.
use Rattle.std.specs.Prelude.{◌≡◌, Bool, true, false, List, ℕ, ◌-◌, ◌^◌, ◌<◌, eqb, ltb, get_or, if◌then◌else◌}
use Rattle.number.specs.Limits.{max_digits}
use Rattle.pack_rules.specs.Room.{clause_room}
use Rattle.pack_rules.specs.Syntax.{Relation}
use Rattle.pack_rules.specs.Stretch.{ranges_from_at, Table, clause_at}
use Rattle.check_laws.specs.Fast.{Query, query_i, alone, passes_all}
use Rattle.check_laws.specs.Profile.{whole_digits, part_digits}
use Rattle.check_laws.specs.declared.Floors.{Floors}

-- no number below f passes
abbrev pub NoneBelow : Query → List Relation → ℕ → Type 0
NoneBelow q c f = (x : ℕ) → x < f → passes_all q c x ≡ false

-- "no number below these can be": i where f is 0, i where it is not, and t by what is asked of t alone
pub record Under (c : List Relation) (l : Floors) : Type 0 where
  pub whole : NoneBelow (query_i true) c l.whole
  pub part : NoneBelow (query_i false) c l.part
  pub tail : NoneBelow alone c l.tail

-- floors by a profile too: past every i where no last digit is left
abbrev pub raised : ℕ → Floors → Floors
raised p l =
    record {
      whole = if eqb (whole_digits p) 0 then 10 ^ max_digits else l.whole;
      part = if eqb (part_digits p) 0 then 10 ^ max_digits else l.part;
      tail = l.tail;
    }

-- the floors of the clause j, in arrays
abbrev pub floors_at : List ℕ → List ℕ → List ℕ → ℕ → Floors
floors_at whole part tail j = record { whole = get_or whole j 0; part = get_or part j 0; tail = get_or tail j 0 }

-- the arrays hold floors of each clause that a pack has room for
abbrev pub Floored : Table → List ℕ → List ℕ → List ℕ → List ℕ → Type 0
Floored T relations whole part tail = (j : ℕ) → j < clause_room → Under (clause_at T relations j) (floors_at whole part tail j)

-- more than `least` ranges belong to the relations from place `from` to before `to`
abbrev pub long_in : List ℕ → ℕ → ℕ → ℕ → Bool
long_in columns least from to = if ltb from to then ltb least (ranges_from_at columns to - ranges_from_at columns from) else false
