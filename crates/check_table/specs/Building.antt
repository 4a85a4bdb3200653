-- What a search by the table finds, and what the building of a level leaves.
use Rattle.std.specs.Prelude.{◌≡◌, Bool, true, false, List, ℕ, ◌≤◌, ◌<◌}
use Rattle.decimal.specs.Choice.{both}
use Rattle.check_laws.specs.Seek.{Least}
use Rattle.check_laws.specs.Segments.{Segment, Rising, Starts, inside}
use Rattle.check_next.specs.Table.{Laid, Tabled}
use Rattle.check_table.specs.declared.Built.{Built}
use Rattle.check_table.specs.declared.Built.TheVariants.{Stands, Empty}

-- at is the least number from `from` on and below `end` that passes P and Q, and P holds from there to before `stop`
pub record Opens (P Q : ℕ → Bool) (from end at stop : ℕ) : Type 0 where
  pub least : Least (λ (x : ℕ). both (P x) (Q x)) from end at
  pub some : at < end → at < stop
  pub until : at < end → stop ≤ end
  pub holds : at < end → (x : ℕ) → at ≤ x → x < stop → P x ≡ true

-- One look from p on: no number before `at` passes both; it is past p, or it passes and P holds from it to before `stop`.
pub record Looked (P Q : ℕ → Bool) (p end at stop : ℕ) : Type 0 where
  pub low : p ≤ at
  pub none : (x : ℕ) → p ≤ x → x < at → both (P x) (Q x) ≡ false
  pub on : stop ≤ at → p < at
  pub until : at < stop → stop ≤ end
  pub hit : at < stop → Q at ≡ true
  pub holds : at < stop → (x : ℕ) → p ≤ x → x < stop → P x ≡ true

-- The segments l lie below p, and say of each number below p what P says of it, where it passes Q.
pub record Covers (P Q : ℕ → Bool) (l : List Segment) (p : ℕ) : Type 0 where
  pub rising : Rising 0 p l
  pub opened : Starts Q l
  pub agree : (x : ℕ) → x < p → both (P x) (Q x) ≡ both (inside l x) (Q x)

-- The levels below j stand, or no number passes them. Where there was no room, neither is said.
pub record BuiltAs (S : ℕ → ℕ → Bool) (starts ends at : List ℕ) (j : ℕ) (b : Built) : Type 0 where
  pub stands : b ≡ Stands → Laid starts ends at j × Tabled S starts ends at j
  pub empty : b ≡ Empty → (x : ℕ) → S j x ≡ false
