-- What the search finds, as a rank: a number whose e is past the largest stands for none.
use Rattle.check_laws.specs.declared.Clash.{Clash}
use Rattle.check_laws.specs.Check.{clashing}
use Rattle.std.specs.Prelude.{Result}
use Rattle.std.specs.Prelude.{Bool, List, ℕ, suc, ◌+◌, ◌*◌, ◌^◌, ◌≤◌, ◌<◌, ltb, if◌then◌else◌}
use Rattle.answer.specs.declared.Witness.{Witness}
use Rattle.number.specs.Limits.{max_exponent, max_digits, max_places}
use Rattle.pack_rules.specs.Syntax.{Relation}
use Rattle.check_laws.specs.Check.{block, ranks}
use Rattle.check_laws.specs.Fast.{kind_rank}

unfoldable pub spot_rank : Witness → ℕ
spot_rank s = s.e * block + ((s.v.0 * 10 ^ max_digits + s.i) * 10 ^ max_places + s.f.0)

-- the operands are below what their places in the rank hold, and so is the rank
pub record Proper (s : Witness) : Type 0 where
  pub exponent : s.e ≤ suc max_exponent
  pub places : s.v.0 < suc max_places
  pub whole : s.i < 10 ^ max_digits
  pub fraction : s.f.0 < 10 ^ max_places
  pub ranked : spot_rank s ≤ ranks

-- the rank of the least number at e whose f is 0, or whose f is not
abbrev pub kind_spot : Bool → ℕ → List Relation → ℕ
kind_spot whole e c = if ltb (kind_rank whole e c) block then e * block + kind_rank whole e c else ranks

-- the answer for the rules of indices p and q, where q is below n
abbrev pub answered : ℕ → ℕ → ℕ → Witness → Result (Unit {0}) Clash → Result (Unit {0}) Clash
answered p n q s rest = if ltb q n then clashing (record { first = p + 1; second = q + 1 }) s else rest
