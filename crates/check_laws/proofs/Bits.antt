-- The values that pass a test, as bits: each bit, those of two tests, and the least.
use mathlib.Core.Path.{◌≡◌, refl, sym, ap, ap₂, ◌∙◌}
use mathlib.Core.Bool.{Bool, true, false}
use Prim.Native.Nat.{ℕ, zero, suc, ◌+◌, ◌*◌, ◌/◌, ◌%◌, ◌^◌, ◌≤◌, ◌<◌, min, max}
use native.Mathlib.Nat.{pow-succ', div-div-eq-div-mul, div-one}
use native.Mathlib.Omega.{arith}
use lib.Bits.{bit_and, bit_or, and_step, and_zero_l, or_step, or_zero_l}
use lib.Count.{count_trailing_zeros, under}
use Rattle.decimal.specs.Choice.{both, either}
use Rattle.pack_rules.specs.Stretch.{stretch}
use Rattle.select.specs.Select.{bit, mask_of}
use Rattle.select.proofs.Masks.{half_of, low_of}
use Rattle.check_laws.specs.Seek.{seek}

-- the bit k is the test of k
pub bit_at : (P : ℕ → Bool) (from n k : ℕ) → k < n → mask_of (stretch P from n) / 2 ^ k % 2 ≡ bit (P (from + k))
unfolding mask_of stretch
bit_at P from zero k h = absurd (omega arith)
bit_at P from (suc n) zero h =
    let m = mask_of (stretch P (suc from) n) in
    ap (λ (x : ℕ). x % 2) (div-one (bit (P from) + 2 * m)) ∙ low_of (P from) m ∙ ap (λ (x : ℕ). bit (P x)) (let z : from ≡ from + 0 = omega arith in z)
bit_at P from (suc n) (suc k) h =
    let m = mask_of (stretch P (suc from) n) in
    rw (pow-succ' 2 k)
    (ap (λ (x : ℕ). x % 2) (sym (div-div-eq-div-mul (bit (P from) + 2 * m) 2 (2 ^ k)) ∙ ap (λ (x : ℕ). x / 2 ^ k) (half_of (P from) m))
    ∙ bit_at P (suc from) n k (omega arith)
    ∙ ap (λ (x : ℕ). bit (P x)) (let z : suc from + k ≡ from + suc k = omega arith in z))

-- those that pass two tests
pub bits_and : (P Q : ℕ → Bool) (from n : ℕ) → bit_and (mask_of (stretch P from n)) (mask_of (stretch Q from n)) ≡ mask_of (stretch (λ (x : ℕ). both (P x) (Q x)) from n)
unfolding mask_of stretch
bits_and P Q from zero = and_zero_l 0
bits_and P Q from (suc n) =
    let a = mask_of (stretch P (suc from) n) in
    let b = mask_of (stretch Q (suc from) n) in
    and_step (bit (P from) + 2 * a) (bit (Q from) + 2 * b)
    ∙ ap₂ (λ (x y : ℕ). x * 2 + y)
    (ap₂ bit_and (half_of (P from) a) (half_of (Q from) b) ∙ bits_and P Q (suc from) n)
    (ap₂ min (low_of (P from) a) (low_of (Q from) b) ∙ each (P from) (Q from))
    ∙ turn (mask_of (stretch (λ (x : ℕ). both (P x) (Q x)) (suc from) n)) (bit (both (P from) (Q from)))
  where
    each : (p q : Bool) → min (bit p) (bit q) ≡ bit (both p q)
    each true true = refl
    each true false = refl
    each false true = refl
    each false false = refl

    turn : (m d : ℕ) → m * 2 + d ≡ d + 2 * m
    turn m d = omega arith

-- those that pass one of two
pub bits_or : (P Q : ℕ → Bool) (from n : ℕ) → bit_or (mask_of (stretch P from n)) (mask_of (stretch Q from n)) ≡ mask_of (stretch (λ (x : ℕ). either (P x) (Q x)) from n)
unfolding mask_of stretch
bits_or P Q from zero = or_zero_l 0
bits_or P Q from (suc n) =
    let a = mask_of (stretch P (suc from) n) in
    let b = mask_of (stretch Q (suc from) n) in
    or_step (bit (P from) + 2 * a) (bit (Q from) + 2 * b)
    ∙ ap₂ (λ (x y : ℕ). x * 2 + y)
    (ap₂ bit_or (half_of (P from) a) (half_of (Q from) b) ∙ bits_or P Q (suc from) n)
    (ap₂ max (low_of (P from) a) (low_of (Q from) b) ∙ each (P from) (Q from))
    ∙ turn (mask_of (stretch (λ (x : ℕ). either (P x) (Q x)) (suc from) n)) (bit (either (P from) (Q from)))
  where
    each : (p q : Bool) → max (bit p) (bit q) ≡ bit (either p q)
    each true true = refl
    each true false = refl
    each false true = refl
    each false false = refl

    turn : (m d : ℕ) → m * 2 + d ≡ d + 2 * m
    turn m d = omega arith

-- the least of them
pub bits_first : (P : ℕ → Bool) (from n k : ℕ) → n ≤ k → 0 < mask_of (stretch P from n) → from + count_trailing_zeros k (mask_of (stretch P from n)) ≡ seek P n from
unfolding mask_of stretch count_trailing_zeros seek
bits_first P from zero k h p = absurd (omega arith)
bits_first P from (suc n) zero h p = absurd (omega arith)
bits_first P from (suc n) (suc k) h p = go (P from) (bits_first P (suc from) n k (omega arith)) p
  where
    turn : (t : ℕ) → from + suc t ≡ suc from + t
    turn t = omega arith

    go : (b : Bool) → (0 < mask_of (stretch P (suc from) n) → suc from + count_trailing_zeros k (mask_of (stretch P (suc from) n)) ≡ seek P n (suc from)) → 0 < bit b + 2 * mask_of (stretch P (suc from) n)
        → from + under ((bit b + 2 * mask_of (stretch P (suc from) n)) % 2) (count_trailing_zeros k ((bit b + 2 * mask_of (stretch P (suc from) n)) / 2)) ≡ elim b [ true ↦ from | false ↦ seek P n (suc from) ]
    go true later q = rw (low_of true (mask_of (stretch P (suc from) n))) (omega arith)
    go false later q =
        rw (low_of false (mask_of (stretch P (suc from) n)), half_of false (mask_of (stretch P (suc from) n)))
        (turn (count_trailing_zeros k (mask_of (stretch P (suc from) n))) ∙ later (omega arith))

-- none
pub bits_none : (P : ℕ → Bool) (from n : ℕ) → mask_of (stretch P from n) ≡ 0 → from + n ≡ seek P n from
unfolding mask_of stretch seek
bits_none P from zero h = omega arith
bits_none P from (suc n) h = go (P from) (bits_none P (suc from) n) h
  where
    go : (b : Bool) → (mask_of (stretch P (suc from) n) ≡ 0 → suc from + n ≡ seek P n (suc from)) → bit b + 2 * mask_of (stretch P (suc from) n) ≡ 0 → from + suc n ≡ elim b [ true ↦ from | false ↦ seek P n (suc from) ]
    go true later q = absurd (omega arith)
    go false later q = (let z : from + suc n ≡ suc from + n = omega arith in z) ∙ later (omega arith)
