-- The search that tries every admitted number in turn: what it has tried, as ranks.
use Rattle.std.specs.Prelude.{◌≡◌, Bool, false, List, ℕ, ◌+◌, ◌*◌, ◌^◌, ◌≤◌, ◌<◌}
use Rattle.decimal.specs.Choice.{both}
use Rattle.answer.specs.declared.Witness.{Witness}
use Rattle.number.specs.Limits.{max_exponent, max_digits, max_places}
use Rattle.number.specs.declared.Number.{Number}
use Rattle.pack_rules.specs.Stretch.{Table}
use Rattle.meaning.specs.Places.{met_at}
use Rattle.check_laws.specs.Seek.{Least}
use Rattle.check_laws.specs.Check.{block, found}
use Rattle.check_laws.specs.Spots.{spot_rank, Proper}

-- the number meets both the rules p and q of a pack's arrays
unfoldable pub meets_both : Table → List ℕ → List ℕ → ℕ → ℕ → Number → Bool
meets_both T relations clauses p q x = both (met_at T relations clauses x p) (met_at T relations clauses x q)

-- the rank of the number with these operands
unfoldable pub rank_at : ℕ → ℕ → ℕ → ℕ → ℕ
rank_at e v i f = e * block + ((v * 10 ^ max_digits + i) * 10 ^ max_places + f)

-- no rank from lo on and below hi is that of an admitted number that passes
abbrev pub NoneIn : (Number → Bool) → ℕ → ℕ → Type 0
NoneIn P lo hi = (k : ℕ) → lo ≤ k → k < hi → found P k ≡ false

-- What is found among the ranks from lo on and below hi: the number of the least that passes; or none passes, and e is past the largest.
pub record Tried (P : Number → Bool) (lo hi : ℕ) (s : Witness) : Type 0 where
  pub proper : Proper s
  pub hit : s.e ≤ max_exponent → Least (found P) lo hi (spot_rank s) × (spot_rank s < hi)
  pub none : max_exponent < s.e → NoneIn P lo hi
