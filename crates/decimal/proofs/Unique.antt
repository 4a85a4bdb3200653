-- Digits of one value: with their length it fixes them, and the longer of two texts of digits has a zero more.
use mathlib.Core.Path.{◌≡◌, sym, ap, ◌∙◌}
use mathlib.Core.Bool.{true, false}
use mathlib.Core.List.{List, [], ◌∷◌}
use Prim.Native.Nat.{ℕ, ◌+◌, ◌*◌, ◌-◌, ◌/◌, ◌%◌, ◌^◌, ◌≤◌, ◌<◌}
use native.Mathlib.Omega.{arith}
use native.Mathlib.Nat.{mul-le-mul_right, mul-div_cancel, mul-mod_left}
use borrow.Author.Tests.{eqb-true, eqb-false}
use lib.Dec.{eqb}
use lib.Pow.{pow-add}
use lib.ListN.{length, get_or}
use Rattle.decimal.specs.Digits.{is_digit, AllDigits, value}
use Rattle.decimal.proofs.Choices.{tested}
use Rattle.decimal.proofs.Runs.{digit_bounds, of_head}
use Rattle.decimal.proofs.Values.{power_pos, power_mono, value_lt, value_scales}
use Rattle.decimal.proofs.Figured.{figures_of}

-- a power of ten taken off both sides
pub power_cancel : (a b k : ℕ) → a * 10 ^ k ≡ b * 10 ^ k → a ≡ b
power_cancel a b k e = sym (mul-div_cancel a (power_pos k)) ∙ ap (λ (n : ℕ). n / 10 ^ k) e ∙ mul-div_cancel b (power_pos k)

pub same_digits : (s t : List ℕ) → AllDigits s → AllDigits t → length s ≡ length t → value s ≡ value t → s ≡ t
same_digits s t a b l e = sym (figures_of s a) ∙ rw (l, e) (figures_of t b)

-- of two texts of one value the longer begins with a zero
pub longer_leads : (s t : List ℕ) → AllDigits s → AllDigits t → value s ≡ value t → length s < length t → get_or t 0 0 ≡ 48
longer_leads s [] a d e l = absurd (omega arith)
longer_leads s (b ∷ t) a d e l = tested (eqb b 48) (λ k. eqb-true b 48 k) (λ k. absurd (over (of_head is_digit b t d) k))
  where
    over : (is_digit b ≡ true) × AllDigits t → eqb b 48 ≡ false → ⊥
    over h k =
        let nonzero = eqb-false b 48 k in
        let low : 1 ≤ b - 48 = omega (arith, (digit_bounds b h.0).0) in
        omega (
          arith,
          value_scales (10 * 0 + (b - 48)) t,
          mul-le-mul_right (10 ^ length t) low,
          power_mono {i = length s} {j = length t} (omega arith),
          value_lt s a,
        )

-- and of two of one value behind the point, with zeros up to k places, the longer ends in a zero
pub longer_trails : (s t : List ℕ) (k : ℕ) → value s * 10 ^ (k - length s) ≡ value t * 10 ^ (k - length t) → length s < length t → length t ≤ k
    → value t % 10 ≡ 0
longer_trails s t k e l h =
    let m = length t - length s - 1 in
    let j = k - length t in
    let n : k - length s ≡ m + 1 + j = omega arith in
    let p : 10 ^ (k - length s) ≡ 10 ^ m * 10 ^ 1 * 10 ^ j = rw (n, pow-add 10 (m + 1) j, pow-add 10 m 1) in
    let q : value t ≡ value s * 10 ^ m * 10 = power_cancel (value t) (value s * 10 ^ m * 10) j (sym e ∙ rw p (omega arith)) in
    rw q (mul-mod_left (value s * 10 ^ m) 10)
