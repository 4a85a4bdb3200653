-- Laws of the decimal digits of a number.
use mathlib.Core.Path.{◌≡◌, refl, sym, ap, ◌∙◌}
use mathlib.Core.List.{List, [], ◌∷◌, ◌++◌, append-nil}
use Prim.Native.Nat.{ℕ, zero, suc, ◌+◌, ◌*◌, ◌-◌, ◌/◌, ◌%◌, ◌^◌, ◌≤◌, ◌<◌, min}
use native.Mathlib.Omega.{arith}
use native.Mathlib.Nat.{pow-suc, mod-one, mod-le, mod-eq_of_lt}
use lib.Dec.{ltb}
use borrow.Author.Tests.{ltb-true, ltb-false}
use native.Mathlib.Numerals.{add-one}
use lib.Arith.{mod-mul}
use Rattle.std.proofs.lemmas.List.{length-replicate, replicate-append-replicate}
use lib.ListN.{length, get_or, take, drop, set, replicate, length-append, length-set, length-drop, take-append-drop}
use lib.Seq.{drop-cons, drop-length, append_snoc, get_or-set_same, drop-set-lt, take-suc, take-length, take-take, take-set-le, take-append_seam}
use Rattle.decimal.specs.Digits.{is_digit, value, figures, lead, AllDigits, shown, wide, numeral}
use Rattle.decimal.proofs.Choices.{tested}
use Rattle.decimal.proofs.Runs.{of_append, of_cons, digit_is, digit_bounds, of_head, of_take, of_drop}
use Rattle.decimal.proofs.Values.{value_snoc, power_pos, ten_pos}
use Rattle.decimal.proofs.Zeros.{value_shown, value_above, value_below, lead_stop}

pub length_figures : (k n : ℕ) → length (figures k n) ≡ k
length_figures zero n = refl
length_figures (suc k) n = simp (length-append, length_figures k (n / 10), add-one)

pub digits_figures : (k n : ℕ) → AllDigits (figures k n)
digits_figures zero n = refl
digits_figures (suc k) n =
    of_append is_digit (figures k (n / 10)) ((48 + n % 10) ∷ []) (digits_figures k (n / 10))
    (of_cons is_digit (48 + n % 10) [] (digit_is (n % 10) (omega arith)) refl)

-- the last k digits spell the remainder by 10 ^ k
pub value_figures : (k n : ℕ) → value (figures k n) ≡ n % 10 ^ k
value_figures zero n = sym (mod-one n)
value_figures (suc k) n =
    value_snoc 0 (figures k (n / 10)) (48 + n % 10)
    ∙ rw (value_figures k (n / 10), pow-suc 10 k, mod-mul n (power_pos k) ten_pos) (omega arith)

pub value_numeral : (n : ℕ) → n < 10 ^ wide → value (numeral n) ≡ n
value_numeral n h = value_shown 1 (figures wide n) ∙ value_figures wide n ∙ mod-eq_of_lt h

pub digits_numeral : (n : ℕ) → AllDigits (numeral n)
digits_numeral n = of_drop is_digit (min (lead (figures wide n)) (length (figures wide n) - 1)) (figures wide n) (digits_figures wide n)

length_numeral : (n : ℕ) → length (numeral n) ≡ wide - min (lead (figures wide n)) (wide - 1)
length_numeral n = length-drop (min (lead (figures wide n)) (length (figures wide n) - 1)) (figures wide n) ∙ rw (length_figures wide n)

pub numeral_some : (n : ℕ) → 0 < length (numeral n)
numeral_some n = rw (length_numeral n) (omega arith)

-- a number below 10 ^ k has at most k digits
pub numeral_short : (n k : ℕ) → 0 < k → n < 10 ^ k → length (numeral n) ≤ k
numeral_short n k pos h = tested (ltb k (length s - lead s)) (λ e. absurd (over (ltb-true k (length s - lead s) e))) (λ e. within (ltb-false k (length s - lead s) e))
  where
    s : List ℕ
    s = figures wide n

    over : k < length s - lead s → ⊥
    over e = omega (arith, value_above s k (digits_figures wide n) e, value_figures wide n, mod-le n (10 ^ wide))

    within : length s - lead s ≤ k → length (numeral n) ≤ k
    within e = rw (length_numeral n) (omega (arith, length_figures wide n))

-- a number above 0 has no leading zero
pub numeral_head : (n : ℕ) → 0 < n → n < 10 ^ wide → get_or (numeral n) 0 0 ≡ 48 → ⊥
numeral_head n pos h e = lead_stop s (omega (arith, length_figures wide n, few)) (rw k at e)
  where
    s : List ℕ
    s = figures wide n

    few : lead s < wide
    few =
        tested (ltb (lead s) wide) (λ t. ltb-true (lead s) wide t)
        (λ t.
        let z : length s - lead s ≡ 0 = omega (arith, length_figures wide n, ltb-false (lead s) wide t) in
        absurd (omega (arith, rw z at (value_below s (digits_figures wide n)), value_figures wide n, mod-eq_of_lt h)))

    k : min (lead s) (length s - 1) ≡ lead s
    k = omega (arith, length_figures wide n, few)

-- digits are those of their value
figures_snoc : (k m d : ℕ) → d < 10 → figures (suc k) (10 * m + d) ≡ figures k m ++ ((48 + d) ∷ [])
figures_snoc k m d h =
    let q : (10 * m + d) / 10 ≡ m = omega arith in
    let r : (10 * m + d) % 10 ≡ d = omega arith in
    rw (q, r)

pub figures_value : (k : ℕ) (s : List ℕ) → AllDigits s → k ≤ length s → figures k (value (take k s)) ≡ take k s
figures_value zero s e h = refl
figures_value (suc k) s e h =
    let b = get_or s k 0 in
    let p : take (suc k) s ≡ take k s ++ (b ∷ []) = take-suc s k 0 (omega arith) in
    let d = last_digit (take k s) b (rw p at (of_take is_digit (suc k) s e)) in
    let w : 48 + (b - 48) ≡ b = omega (arith, d) in
    rw (p, value_snoc 0 (take k s) b, figures_snoc k (value (take k s)) (b - 48) (omega (arith, d)), figures_value k s e (omega arith), w)
  where
    last_digit : (t : List ℕ) (b : ℕ) → AllDigits (t ++ (b ∷ [])) → (48 ≤ b) × (b < 58)
    last_digit [] b x = digit_bounds b (of_head is_digit b [] x).0
    last_digit (y ∷ t) b x = last_digit t b (of_head is_digit y (t ++ (b ∷ [])) x).1

pub figures_of : (s : List ℕ) → AllDigits s → figures (length s) (value s) ≡ s
figures_of s e = rw take-length at (figures_value (length s) s e (omega arith))

-- the digits shown of a number, from the digits written and the count of their leading zeros
pub shown_figures : (k n least : ℕ) (d : List ℕ) (z m : ℕ) → d ≡ figures k n → z ≡ lead d → m ≡ min z (k - least) → drop m d ≡ shown least (figures k n)
shown_figures k n least d z m p q r = rw (r, q, p, length_figures k n)

-- ---- filling an area from its end

pub figures_start : (n : ℕ) (o : List ℕ) → figures (length o) n ++ drop (length o) o ≡ figures (length o) n
figures_start n o = rw (drop-length o) (append-nil (figures (length o) n))

pub figures_again : (m i j : ℕ) (o : List ℕ) → i ≡ suc j → j < length o
    → figures j (m / 10) ++ drop j (set o j (48 + m % 10)) ≡ figures i m ++ drop i o
figures_again m i j o e h =
    let x = 48 + m % 10 in
    rw (e, drop-cons (set o j x) j 0 (simp length-set h), get_or-set_same o j x 0 h, drop-set-lt (suc j) o j x (omega arith))
    (sym (append_snoc (figures j (m / 10)) x (drop (suc j) o)))

-- ---- the front of an area of zeros

zeros_of : (k : ℕ) → figures k 0 ≡ replicate k 48
zeros_of zero = refl
zeros_of (suc k) = rw (zeros_of k) (replicate-append-replicate {A = ℕ} k 1 48 ∙ rw add-one)

pub zeros_start : (k : ℕ) (o : List ℕ) → o ≡ replicate k 48 → take (length o) o ≡ figures (length o) 0
zeros_start k o e = take-length o ∙ e ∙ rw (e, length-replicate) (sym (zeros_of k))

pub zeros_less : (i j x : ℕ) (o : List ℕ) → i ≡ suc j → take i o ≡ figures i 0 → take j (set o j x) ≡ figures j 0
zeros_less i j x o e z =
    let t : take j (take i o) ≡ take j (figures j 0 ++ (48 ∷ [])) = rw e (ap (take j) (rw e at z)) in
    take-set-le j o j x (omega arith) ∙ sym (take-take j i o (omega arith)) ∙ t
    ∙ rw (length_figures j 0) at (take-append_seam (figures j 0) (48 ∷ []))

-- nothing is left to write but zeros, and zeros stand there
pub zeros_done : (i m : ℕ) (o : List ℕ) → m ≡ 0 → take i o ≡ figures i 0 → figures i m ++ drop i o ≡ o
zeros_done i m o e z = rw (e, ← z) (take-append-drop i o)
