-- Laws of leading and trailing zeros.
use mathlib.Core.Path.{◌≡◌, refl, ap, ◌∙◌}
use mathlib.Core.List.{List, [], ◌∷◌, ◌++◌, reverse}
use mathlib.Core.Logic.{◌⊎◌, ⊎_elim}
use Prim.Native.Nat.{ℕ, zero, suc, ◌+◌, ◌*◌, ◌-◌, ◌%◌, ◌^◌, ◌≤◌, ◌<◌, min}
use native.Mathlib.Omega.{arith}
use native.Mathlib.Nat.{pow-succ', mul-le-mul_right, sub-zero, suc-sub-suc}
use borrow.Author.Tests.{eqb-true, eqb-false, eq-eqb, ne_eqb}
use lib.Dec.{eqb}
use lib.ListN.{length, get_or, take, drop, length-append}
use Rattle.std.proofs.lemmas.List.{reverse-reverse, length-reverse}
use Rattle.std.proofs.lemmas.Grind.{reverse_onto}
use Rattle.decimal.specs.Digits.{is_digit, is_zero, value_from, value, lead, shown, keep, trim, AllDigits}
use Rattle.decimal.proofs.Choices.{tested}
use Rattle.decimal.proofs.Runs.{digit_bounds, run_stop, of_head}
use Rattle.decimal.proofs.Values.{value_lt, value_scales, power_mono}

-- ---- leading zeros

-- the byte behind the leading zeros is none
pub lead_stop : (s : List ℕ) → lead s < length s → get_or (drop (lead s) s) 0 0 ≡ 48 → ⊥
lead_stop s h e = run_stop is_zero s h (eq-eqb _ 48 e)

-- leading zeros add nothing to a value
pub value_drop : (k : ℕ) (s : List ℕ) → k ≤ lead s → value (drop k s) ≡ value s
value_drop zero s h = refl
value_drop (suc k) [] h = refl
value_drop (suc k) (b ∷ s) h =
    tested (eqb b 48)
    (λ e.
    let h' : suc k ≤ suc (lead s) = rw e at h in
    rw (eqb-true b 48 e) (value_drop k s (omega arith)))
    (λ e.
    let h' : suc k ≤ 0 = rw e at h in
    absurd (omega arith))

pub value_shown : (least : ℕ) (s : List ℕ) → value (shown least s) ≡ value s
value_shown least s = value_drop (min (lead s) (length s - least)) s (omega arith)

-- a value is below ten to the count of its digits, leading zeros dropped, and at least ten to one less
pub value_below : (s : List ℕ) → AllDigits s → value s < 10 ^ (length s - lead s)
value_below [] e = omega arith
value_below (b ∷ s) e =
    let h = of_head is_digit b s e in
    tested (eqb b 48)
    (λ k. rw k (rw (suc-sub-suc (length s) (lead s), eqb-true b 48 k) (value_below s h.1)))
    (λ k. rw k (rw (sub-zero (suc (length s))) (value_lt (b ∷ s) e)))

pub value_above : (s : List ℕ) (k : ℕ) → AllDigits s → k < length s - lead s → 10 ^ k ≤ value s
value_above [] k e h = omega arith
value_above (b ∷ s) k e h =
    let d = of_head is_digit b s e in
    tested (eqb b 48)
    (λ z.
    let h' : k < suc (length s) - suc (lead s) = rw z at h in
    let h'' : k < length s - lead s = omega arith in
    rw (eqb-true b 48 z) (value_above s k d.1 h''))
    (λ z.
    let h' : k < suc (length s) - 0 = rw z at h in
    let nonzero = eqb-false b 48 z in
    let low : 1 ≤ b - 48 = omega (arith, (digit_bounds b d.0).0) in
    omega (arith, value_scales (10 * 0 + (b - 48)) s, mul-le-mul_right (10 ^ length s) low, power_mono {i = k} {j = length s} (omega arith)))

-- ---- trailing zeros

trim_zero : (s : List ℕ) → trim (s ++ (48 ∷ [])) ≡ trim s
trim_zero [] = refl
trim_zero (b ∷ s) = ap (keep b) (trim_zero s)

keep_snoc : (b : ℕ) (s : List ℕ) (x : ℕ) → keep b (s ++ (x ∷ [])) ≡ b ∷ s ++ (x ∷ [])
keep_snoc b [] x = refl
keep_snoc b (y ∷ s) x = refl

trim_other : (s : List ℕ) (x : ℕ) → (x ≡ 48 → ⊥) → trim (s ++ (x ∷ [])) ≡ s ++ (x ∷ [])
trim_other [] x h = rw (ne_eqb x 48 h)
trim_other (b ∷ s) x h = rw (trim_other s x h) (keep_snoc b s x)

-- what is left and the zeros from the end back are all of the text
trim_reverse : (r : List ℕ) → length (trim (reverse r)) + lead r ≡ length r
trim_reverse [] = refl
trim_reverse (x ∷ r) =
    let e : reverse (x ∷ r) ≡ reverse r ++ (x ∷ []) = reverse_onto r x [] in
    rw e
    (tested (eqb x 48)
    (λ k. rw (k, eqb-true x 48 k, trim_zero (reverse r)) (omega (arith, trim_reverse r)))
    (λ k. rw (k, trim_other (reverse r) x (eqb-false x 48 k), length-append (reverse r) (x ∷ []), length-reverse r) (omega arith)))

pub trimmed : (s : List ℕ) → length (trim s) + lead (reverse s) ≡ length s
trimmed s = rw (reverse-reverse s, length-reverse s) at (trim_reverse (reverse s))

-- what is left without trailing zeros is the text's front
pub trim_front : (s : List ℕ) → trim s ≡ take (length (trim s)) s
trim_front [] = refl
trim_front (b ∷ s) = kept (trim s) (trim_front s)
  where
    kept : (t : List ℕ) → t ≡ take (length t) s → keep b t ≡ take (length (keep b t)) (b ∷ s)
    kept [] e = tested (eqb b 48) (λ k. rw k) (λ k. rw k)
    kept (x ∷ t) e = ap (λ (l : List ℕ). b ∷ l) e

pub trim_le : (s : List ℕ) → length (trim s) ≤ length s
trim_le [] = omega arith
trim_le (b ∷ s) = kept (trim s) (trim_le s)
  where
    kept : (t : List ℕ) → length t ≤ length s → length (keep b t) ≤ suc (length s)
    kept [] e = tested (eqb b 48) (λ k. rw k (omega arith)) (λ k. rw k (omega arith))
    kept (x ∷ t) e = omega arith

-- the digits trimmed are zeros: the value is that of the rest, times ten to their number
pub value_trim : (n : ℕ) (s : List ℕ) → value_from n s ≡ value_from n (trim s) * 10 ^ (length s - length (trim s))
value_trim n [] = omega arith
value_trim n (b ∷ s) = kept (trim s) (value_trim (10 * n + (b - 48)) s)
  where
    m : ℕ
    m = 10 * n + (b - 48)

    kept : (t : List ℕ) → value_from (10 * n + (b - 48)) s ≡ value_from (10 * n + (b - 48)) t * 10 ^ (length s - length t)
        → value_from (10 * n + (b - 48)) s ≡ value_from n (keep b t) * 10 ^ (suc (length s) - length (keep b t))
    kept [] e =
        tested (eqb b 48)
        (λ k.
        let z = eqb-true b 48 k in
        let p : suc (length s) - 0 ≡ suc (length s - 0) = omega arith in
        rw k (rw (p, pow-succ' 10 (length s - 0)) (e ∙ rw z (omega arith))))
        (λ k.
        let p : suc (length s) - 1 ≡ length s - 0 = omega arith in
        rw k (rw p e))
    kept (x ∷ t) e = rw (suc-sub-suc (length s) (suc (length t))) e

-- digits without trailing zeros end in another digit, unless none is left
pub trim_last : (n : ℕ) (s : List ℕ) → AllDigits s → (trim s ≡ []) ⊎ (value_from n (trim s) % 10 ≡ 0 → ⊥)
trim_last n [] e = ◌⊎◌.inl refl
trim_last n (b ∷ s) e =
    let d = of_head is_digit b s e in
    kept (trim s) (digit_bounds b d.0) (trim_last (10 * n + (b - 48)) s d.1)
  where
    kept : (t : List ℕ) → (48 ≤ b) × (b < 58) → (t ≡ []) ⊎ (value_from (10 * n + (b - 48)) t % 10 ≡ 0 → ⊥)
        → (keep b t ≡ []) ⊎ (value_from n (keep b t) % 10 ≡ 0 → ⊥)
    kept [] d w =
        tested (eqb b 48) (λ k. rw k (◌⊎◌.inl refl))
        (λ k. rw k (◌⊎◌.inr (λ z. eqb-false b 48 k (omega arith))))
    kept (x ∷ t) d w = ◌⊎◌.inr (⊎_elim (λ q. absurd (never (ap length q))) (λ q. q) w)
      where
        never : suc (length t) ≡ 0 → ⊥
        never g = omega arith
