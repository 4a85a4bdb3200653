-- `check_digits::values::bits_where`: the bits of the values below x.
use Rattle.std.proofs.Common.{◌≡◌, Bool, ℕ, ◌^◌, ◌≤◌, ◌<◌}
use Rattle.check_laws.specs.Profile.{values_of}
use Rattle.check_digits.proofs.values.bits_where.Given as goal

abbrev pub invariant-loop-x : goal.invariant-loop-x
invariant-loop-x g l =
    (l.x ≤ l.n)
    × (l.mask < 2 ^ l.x)
    × ((p : ℕ → Bool) → ((x : ℕ) (r : Bool) → x < l.n → goal.F-post g l.test x r → r ≡ p x) → l.mask ≡ values_of p l.x)
