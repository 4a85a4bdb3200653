-- Trailing zeros taken off one by one.
use mathlib.Core.Path.{◌≡◌, refl, sym, ap, subst, ◌∙◌}
use Prim.Native.Nat.{ℕ, zero, suc, ◌-◌, ◌*◌, ◌/◌, ◌%◌, ◌^◌, ◌≤◌, ◌<◌}
use native.Mathlib.Omega.{arith}
use native.Mathlib.Nat.{pow-suc, mul_assoc, mul-one, mul-le-mul_right}
use Rattle.decimal.proofs.Values.{power_pos}
use Rattle.number.specs.Admitted.{w_of, t_of}
use Rattle.number.proofs.Operands.{trimmed, trimmed_only}

-- w digits are left, of value t
pub record Left (v f w t : ℕ) : Type 0 where
  pub places : w ≤ v
  pub room : t < 10 ^ w
  pub scaled : f ≡ t * 10 ^ (v - w)

pub left_start : (v f : ℕ) → f < 10 ^ v → Left v f v f
left_start v f h = record { places = omega arith; room = h; scaled = sym (let e : v - v ≡ 0 = omega arith in rw e (mul-one f)) }

pub left_more : (v f w t : ℕ) → 0 < w → t % 10 ≡ 0 → Left v f w t → Left v f (w - 1) (t / 10)
left_more v f w t h z l =
    record {
      places = omega (arith, l.places);
      room = (let r : t < 10 ^ suc (w - 1) = subst (λ (x : ℕ). t < 10 ^ x) (let e : w ≡ suc (w - 1) = omega arith in e) l.room in omega (arith, pow-suc 10 (w - 1)));
      scaled =
          l.scaled
          ∙ (let d : t ≡ t / 10 * 10 = omega arith in ap (λ (x : ℕ). x * 10 ^ (v - w)) d)
          ∙ mul_assoc (t / 10) 10 (10 ^ (v - w))
          ∙ ap (λ (x : ℕ). t / 10 * x) ((let g : 10 * 10 ^ (v - w) ≡ 10 ^ suc (v - w) = omega (arith, pow-suc 10 (v - w)) in g) ∙ ap (λ (x : ℕ). 10 ^ x) (let g : suc (v - w) ≡ v - (w - 1) = omega (arith, l.places) in g));
    }

-- the last digit is no zero, or no digit is left
pub left_done : (v f w t : ℕ) → f < 10 ^ v → (w ≡ 0 → ⊥) → (t % 10 ≡ 0 → ⊥) → Left v f w t → (w ≡ w_of v f) × (t ≡ t_of v f)
left_done v f w t h n z l =
    trimmed_only v f w t (w_of v f) (t_of v f)
    (record {
      places = l.places;
      room = l.room;
      scaled = l.scaled;
      last = λ _. z;
      none = λ g. absurd (z (ap (λ (x : ℕ). x % 10) (no_value g)));
    })
    (trimmed v f h)
  where
    no_value : f ≡ 0 → t ≡ 0
    no_value g = ⊎-zero t (λ k. let m = mul-le-mul_right (10 ^ (v - w)) k in omega (arith, l.scaled, power_pos (v - w)))
      where
        ⊎-zero : (t : ℕ) → (1 ≤ t → ⊥) → t ≡ 0
        ⊎-zero zero k = refl
        ⊎-zero (suc t) k = absurd (k (omega arith))

pub left_none : (v f w t : ℕ) → f < 10 ^ v → w ≡ 0 → Left v f w t → (w ≡ w_of v f) × (t ≡ t_of v f)
left_none v f w t h n l =
    trimmed_only v f w t (w_of v f) (t_of v f)
    (record {
      places = l.places;
      room = l.room;
      scaled = l.scaled;
      last = λ g _. g (l.scaled ∙ ap (λ (x : ℕ). x * 10 ^ (v - w)) no_value ∙ (let q : 0 * 10 ^ (v - w) ≡ 0 = omega arith in q));
      none = λ _. (n, no_value);
    })
    (trimmed v f h)
  where
    no_value : t ≡ 0
    no_value = let g : t < 10 ^ 0 = subst (λ (x : ℕ). t < 10 ^ x) n l.room in omega arith
