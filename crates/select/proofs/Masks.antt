-- Laws of met rules as bits: the count of ones counts them, and trailing zeros give the first.
use mathlib.Core.Path.{◌≡◌, refl, sym, ap, ap₂, ◌∙◌, subst}
use mathlib.Core.Bool.{Bool, true, false}
use mathlib.Core.List.{List, [], ◌∷◌, ◌++◌}
use Prim.Native.Nat.{ℕ, zero, suc, ◌+◌, ◌*◌, ◌/◌, ◌%◌, ◌^◌, ◌≤◌, ◌<◌}
use native.Mathlib.Nat.{pow-suc, pow-succ', div-div-eq-div-mul, div-one, zero-div, zero-add}
use native.Mathlib.Omega.{arith}
use lib.ListN.{length, drop}
use lib.Count.{ones, ones_step, count_trailing_zeros, under}
use Rattle.pack_rules.specs.Stretch.{stretch}
use Rattle.pack_rules.proofs.Stretches.{stretch_snoc, length_stretch}
use Rattle.select.specs.Select.{bit, mask_of, count_met, first_met}

pub half_of : (b : Bool) (n : ℕ) → (bit b + 2 * n) / 2 ≡ n
half_of true n = omega arith
half_of false n = omega arith

pub low_of : (b : Bool) (n : ℕ) → (bit b + 2 * n) % 2 ≡ bit b
low_of true n = omega arith
low_of false n = omega arith

pub ones_mask : (bs : List Bool) → ones (mask_of bs) ≡ count_met bs
unfolding mask_of ones
ones_mask [] = refl
ones_mask (b ∷ bs) =
    ones_step (bit b + 2 * mask_of bs)
    ∙ ap₂ (λ (x y : ℕ). x + ones y) (low_of b (mask_of bs)) (half_of b (mask_of bs))
    ∙ ap (λ (x : ℕ). bit b + x) (ones_mask bs)

pub trailing_mask : (k : ℕ) (bs : List Bool) → length bs ≤ k → 0 < count_met bs → count_trailing_zeros k (mask_of bs) ≡ first_met bs
unfolding mask_of count_trailing_zeros
trailing_mask k [] h p = absurd (omega arith)
trailing_mask zero (b ∷ bs) h p = absurd (omega arith)
trailing_mask (suc k) (true ∷ bs) h p = rw (low_of true (mask_of bs))
trailing_mask (suc k) (false ∷ bs) h p =
    ap₂ under (low_of false (mask_of bs)) (ap (count_trailing_zeros k) (half_of false (mask_of bs)))
    ∙ ap suc (trailing_mask k bs (omega arith) (omega arith))

pub mask_lt : (bs : List Bool) → mask_of bs < 2 ^ length bs
unfolding mask_of
mask_lt [] = omega arith
mask_lt (true ∷ bs) = omega (arith, mask_lt bs, pow-suc 2 (length bs))
mask_lt (false ∷ bs) = omega (arith, mask_lt bs, pow-suc 2 (length bs))

-- one rule more
pub mask_snoc : (bs : List Bool) (b : Bool) → mask_of (bs ++ (b ∷ [])) ≡ mask_of bs + bit b * 2 ^ length bs
unfolding mask_of
mask_snoc [] true = refl
mask_snoc [] false = refl
mask_snoc (x ∷ bs) true = omega (arith, mask_snoc bs true, pow-suc 2 (length bs))
mask_snoc (x ∷ bs) false = omega (arith, mask_snoc bs false, pow-suc 2 (length bs))

pub mask_none : (g : ℕ → Bool) → 0 ≡ mask_of (stretch g 0 0)
unfolding mask_of stretch
mask_none g = refl

-- one rule more of a stretch of them
pub mask_more : (g : ℕ → Bool) (j : ℕ) (b : Bool) (m r : ℕ) → m ≡ mask_of (stretch g 0 j) → b ≡ g j → r ≡ m + bit b * 2 ^ j → r ≡ mask_of (stretch g 0 (j + 1))
mask_more g j b m r p q e =
    e ∙ rw (p, q, stretch_snoc g 0 j, mask_snoc (stretch g 0 j) (g (0 + j)), length_stretch g 0 j, zero-add j)

pub mask_fits : (g : ℕ → Bool) (j m : ℕ) → m ≡ mask_of (stretch g 0 j) → m < 2 ^ j
mask_fits g j m p = rw p (subst (λ (k : ℕ). mask_of (stretch g 0 j) < 2 ^ k) (length_stretch g 0 j) (mask_lt (stretch g 0 j)))

-- the rules behind the first k
pub mask_drop : (k : ℕ) (bs : List Bool) → mask_of bs / 2 ^ k ≡ mask_of (drop k bs)
unfolding mask_of
mask_drop zero bs = div-one (mask_of bs)
mask_drop (suc k) [] = zero-div (2 ^ suc k)
mask_drop (suc k) (b ∷ bs) =
    rw (pow-succ' 2 k) (sym (div-div-eq-div-mul (bit b + 2 * mask_of bs) 2 (2 ^ k)) ∙ rw (half_of b (mask_of bs)) (mask_drop k bs))

-- ---- the first and the second met rule

pub first_within : (bs : List Bool) → 0 < count_met bs → first_met bs < length bs
first_within [] h = absurd (omega arith)
first_within (true ∷ bs) h = omega arith
first_within (false ∷ bs) h = omega (arith, first_within bs (omega arith))

pub count_behind : (bs : List Bool) → 0 < count_met bs → count_met (drop (first_met bs + 1) bs) + 1 ≡ count_met bs
count_behind [] h = absurd (omega arith)
count_behind (true ∷ bs) h = omega arith
count_behind (false ∷ bs) h =
    let e : suc (first_met bs) + 1 ≡ suc (first_met bs + 1) = omega arith in
    rw e (omega (arith, count_behind bs (omega arith)))

pub count_le : (bs : List Bool) → count_met bs ≤ length bs
count_le [] = omega arith
count_le (true ∷ bs) = omega (arith, count_le bs)
count_le (false ∷ bs) = omega (arith, count_le bs)
