-- What the stores into a pack's arrays do: a number at a place where a test holds, and the row of a relation.
use Rattle.std.specs.Prelude.{Bool, List, ℕ, ◌+◌, ◌*◌, min, set, if◌then◌else◌}
use Rattle.pack_rules.specs.Held.{Row}
use Rattle.pack_walk.specs.declared.Current.{Current}

abbrev pub set_if : {A : Type 0} → Bool → List A → ℕ → A → List A
set_if b a n v = if b then set a n v else a

-- the row n, four numbers one behind the other
abbrev pub set_row : List ℕ → ℕ → Row → List ℕ
set_row a n w = set (set (set (set a (4 * n) w.operand) (4 * n + 1) w.modulus) (4 * n + 2) w.comparison) (4 * n + 3) w.end

abbrev pub set_row_if : Bool → List ℕ → ℕ → Row → List ℕ
set_row_if b a n w = if b then set_row a n w else a

abbrev pub code_of : Bool → ℕ
code_of negated = if negated then 1 else 0

-- the row of the relation that is being read, whose ranges end at this place
abbrev pub row_for : Current → ℕ → Row
row_for o end = record { operand = o.operand; modulus = o.modulus; comparison = code_of o.negated; end = min end 4294967295 }
