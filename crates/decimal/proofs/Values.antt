-- Laws of the value of digits, over the power of ten.
use mathlib.Core.Path.{◌≡◌, refl, ap, ◌∙◌}
use mathlib.Core.List.{List, [], ◌∷◌, ◌++◌}
use Prim.Native.Nat.{ℕ, zero, suc, ◌+◌, ◌*◌, ◌-◌, ◌^◌, ◌≤◌, ◌<◌, min}
use native.Mathlib.Omega.{arith}
use native.Mathlib.Nat.{pow-succ', mul-le-mul_right, pow-le-pow_right, one-le-pow, zero-sub, sub-zero, suc-sub-suc}
use native.Mathlib.Numerals.{add-one}
use borrow.Author.Tests.{leb-true, leb-false}
use lib.Dec.{leb}
use lib.ListN.{length, get_or, take, replicate}
use lib.Seq.{take-suc}
use Rattle.std.specs.List.{fold}
use Rattle.decimal.specs.Digits.{is_digit, value_from, value, first, cap, AllDigits}
use Rattle.decimal.proofs.Choices.{tested}
use Rattle.decimal.proofs.Runs.{digit_bounds, of_head, of_cons}

pub ten_pos : 0 < 10
ten_pos = omega arith

pub power_pos : (k : ℕ) → 0 < 10 ^ k
power_pos k = one-le-pow k 10 ten_pos

pub power_mono : {i j : ℕ} → i ≤ j → 10 ^ i ≤ 10 ^ j
power_mono h = pow-le-pow_right ten_pos h

pub value_append : (n : ℕ) (s t : List ℕ) → value_from n (s ++ t) ≡ value_from (value_from n s) t
value_append n [] t = refl
value_append n (b ∷ s) t = value_append (10 * n + (b - 48)) s t

-- one more digit
pub value_snoc : (n : ℕ) (s : List ℕ) (b : ℕ) → value_from n (s ++ (b ∷ [])) ≡ 10 * value_from n s + (b - 48)
value_snoc n s b = value_append n s (b ∷ [])

pub value_more : (n : ℕ) (s : List ℕ) (i : ℕ) → i < length s
    → value_from n (take (i + 1) s) ≡ 10 * value_from n (take i s) + (get_or s i 0 - 48)
value_more n s i h = rw (add-one, take-suc s i 0 h) (value_snoc n (take i s) (get_or s i 0))

-- the first digits are those of the text, and zeros after its end
first_zeros : (k : ℕ) → replicate k 48 ≡ first k []
first_zeros zero = refl
first_zeros (suc k) = ap (λ (l : List ℕ). 48 ∷ l) (first_zeros k)

first_is : (k : ℕ) (s : List ℕ) → take k s ++ replicate (k - length s) 48 ≡ first k s
first_is zero [] = refl
first_is zero (b ∷ s) = rw zero-sub
first_is (suc k) [] = rw sub-zero (first_zeros (suc k))
first_is (suc k) (b ∷ s) = rw suc-sub-suc (ap (λ (l : List ℕ). b ∷ l) (first_is k s))

pub length_first : (k : ℕ) (s : List ℕ) → length (first k s) ≡ k
length_first zero s = refl
length_first (suc k) [] = ap suc (length_first k [])
length_first (suc k) (b ∷ s) = ap suc (length_first k s)

pub digits_first : (k : ℕ) (s : List ℕ) → AllDigits s → AllDigits (first k s)
digits_first zero s e = refl
digits_first (suc k) [] e = ap suc (digits_first k [] refl)
digits_first (suc k) (b ∷ s) e =
    let d = of_head is_digit b s e in
    of_cons is_digit b (first k s) d.0 (digits_first k s d.1)

pub first_append : (s t : List ℕ) → first (length s) (s ++ t) ≡ s
first_append [] t = refl
first_append (b ∷ s) t = ap (λ (l : List ℕ). b ∷ l) (first_append s t)

pub value_ge : (n : ℕ) (s : List ℕ) → n ≤ value_from n s
value_ge n [] = omega arith
value_ge n (b ∷ s) = omega (arith, value_ge (10 * n + (b - 48)) s)

-- to keep a value at a bound before the last digits is to keep it there after them
pub value_cap : (n c : ℕ) (s : List ℕ) → min (value_from (min n c) s) c ≡ min (value_from n s) c
value_cap n c s =
    tested (leb n c)
    (λ e.
    let k : min n c ≡ n = omega (arith, leb-true n c e) in
    rw k)
    (λ e.
    let k : min n c ≡ c = omega (arith, leb-false n c e) in
    rw k (omega (arith, value_ge n s, value_ge c s, leb-false n c e)))

-- one more digit of a value that is kept at a bound
abbrev pub one_more : ℕ → ℕ → ℕ
one_more n b = min (10 * n + (b - 48)) cap

-- a digit after the other, and the last value kept at the bound too
pub value_fold : (n : ℕ) (s : List ℕ) → min (fold one_more n s) cap ≡ min (value_from n s) cap
value_fold n [] = refl
value_fold n (b ∷ s) = value_fold (one_more n b) s ∙ value_cap (10 * n + (b - 48)) cap s

pub value_padded : (n k : ℕ) (s : List ℕ)
    → min (fold one_more (min (value_from n (take k s)) cap) (replicate (k - length s) 48)) cap ≡ min (value_from n (first k s)) cap
value_padded n k s =
    let z = replicate (k - length s) 48 in
    let m = value_from n (take k s) in
    value_fold (min m cap) z ∙ value_cap m cap z ∙ rw (← value_append n (take k s) z, first_is k s)

-- further digits multiply what stands before them by ten to their number
pub value_from_law : (n : ℕ) (s : List ℕ) → value_from n s ≡ n * 10 ^ length s + value s
value_from_law n [] = omega arith
value_from_law n (b ∷ s) =
    let d = b - 48 in
    value_from_law (10 * n + d) s
    ∙ rw (pow-succ' 10 (length s)) (omega (arith, value_from_law (10 * 0 + d) s))

pub value_lt : (s : List ℕ) → AllDigits s → value s < 10 ^ length s
value_lt [] e = omega arith
value_lt (b ∷ s) e =
    let h = of_head is_digit b s e in
    let d = b - 48 in
    let k : d + 1 ≤ 10 = omega (arith, (digit_bounds b h.0).1) in
    rw (pow-succ' 10 (length s))
    (omega (arith, value_from_law (10 * 0 + d) s, value_lt s h.1, mul-le-mul_right (10 ^ length s) k))

pub value_scales : (n : ℕ) (s : List ℕ) → n * 10 ^ length s ≤ value_from n s
value_scales n s = omega (arith, value_from_law n s)
