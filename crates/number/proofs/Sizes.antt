-- Laws of sizes: 14's count of digits and the bound 10 ^ max_digits say the same, and values below the bounds are exact.
use mathlib.Core.Path.{◌≡◌, ◌∙◌}
use mathlib.Core.List.{List, ◌++◌}
use Prim.Native.Nat.{ℕ, ◌^◌, ◌≤◌, ◌<◌, min}
use native.Mathlib.Omega.{arith}
use lib.Dec.{ltb}
use borrow.Author.Tests.{ltb-true, ltb-false}
use lib.ListN.{length}
use Rattle.decimal.specs.Digits.{value_from, value, cap, AllDigits}
use Rattle.decimal.proofs.Choices.{tested}
use Rattle.decimal.proofs.Values.{value_append, value_cap, value_lt, power_mono}
use Rattle.decimal.proofs.Zeros.{value_below, value_above}
use Rattle.number.specs.Limits.{max_digits, max_places}
use Rattle.number.specs.Reading.{significant}

-- a number has over max_digits digits exactly if it is not below 10 ^ max_digits
pub over_digits : (s : List ℕ) → AllDigits s → 10 ^ max_digits ≤ value s → max_digits < significant s
over_digits s d h =
    tested (ltb max_digits (significant s)) (λ e. ltb-true max_digits (significant s) e)
    (λ e. absurd (no (power_mono {i = significant s} {j = max_digits} (ltb-false max_digits (significant s) e))))
  where
    no : 10 ^ significant s ≤ 10 ^ max_digits → ⊥
    no k = omega (arith, value_below s d)

pub within_digits : (s : List ℕ) → AllDigits s → value s < 10 ^ max_digits → significant s ≤ max_digits
within_digits s d h =
    tested (ltb max_digits (significant s)) (λ e. absurd (no (value_above s max_digits d (ltb-true max_digits (significant s) e))))
    (λ e. ltb-false max_digits (significant s) e)
  where
    no : 10 ^ max_digits ≤ value s → ⊥
    no k = omega arith

-- the shifted integer part as the code works it out
pub shift_value : (whole x : List ℕ) (n i : ℕ) → n ≡ min (value whole) cap → i ≡ min (value_from n x) cap → i ≡ min (value (whole ++ x)) cap
shift_value whole x n i hn hi = hi ∙ rw (hn, value_append 0 whole x) (value_cap (value whole) cap x)

-- a few digits are worked out exactly
pub small_value : (s : List ℕ) (r : ℕ) → AllDigits s → length s ≤ max_places → r ≡ min (value s) cap → value s ≡ r
small_value s r d h e = omega (arith, value_lt s d, power_mono {i = length s} {j = max_places} h)
