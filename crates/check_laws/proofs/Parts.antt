-- The fraction digits' value f is t * 10 ^ (v - w), with w and t their count and value without trailing zeros; and no other w and t are.
use mathlib.Core.Path.{◌≡◌, sym, ap, subst, ◌∙◌}
use mathlib.Core.List.{List}
use mathlib.Core.Logic.{⊎_elim}
use Prim.Native.Nat.{ℕ, suc, ◌+◌, ◌-◌, ◌*◌, ◌%◌, ◌^◌, ◌≤◌, ◌<◌}
use native.Mathlib.Omega.{arith}
use native.Mathlib.Nat.{pow-suc, mod-eq_of_lt, mul_assoc, mul-mod_left, mul-le-mul_right, eq_of_mul-eq-mul_right}
use lib.Pow.{pow-add}
use lib.ListN.{length}
use Rattle.decimal.specs.Digits.{AllDigits, trim, figures, is_digit}
use Rattle.decimal.proofs.Runs.{of_take}
use Rattle.decimal.proofs.Values.{value_lt, power_pos}
use Rattle.decimal.proofs.Zeros.{trim_le, trim_front, value_trim, trim_last}
use Rattle.decimal.proofs.Figured.{length_figures, digits_figures, value_figures}
use Rattle.number.specs.Admitted.{w_of, t_of}
use Rattle.check_laws.proofs.Seeking.{split}

pub record Parts (v f w t : ℕ) : Type 0 where
  pub w_le : w ≤ v
  pub whole : t * 10 ^ (v - w) ≡ f
  pub t_lt : t < 10 ^ w
  pub odd : (w ≡ 0 → ⊥) → t % 10 ≡ 0 → ⊥

pub parts : (v f : ℕ) → f < 10 ^ v → Parts v f (w_of v f) (t_of v f)
parts v f h =
    record {
      w_le = omega (arith, trim_le (figures v f), length_figures v f);
      whole = whole;
      t_lt = value_lt (trim (figures v f)) (subst (λ (l : List ℕ). AllDigits l) (sym (trim_front (figures v f))) (of_take is_digit (length (trim (figures v f))) (figures v f) (digits_figures v f)));
      odd = λ n z. ⊎_elim (λ e. n (ap length e)) (λ e. e z) (trim_last 0 (figures v f) (digits_figures v f));
    }
  where
    whole : t_of v f * 10 ^ (v - w_of v f) ≡ f
    whole =
        ap (λ (k : ℕ). t_of v f * 10 ^ (k - w_of v f)) (sym (length_figures v f))
        ∙ sym (value_trim 0 (figures v f)) ∙ value_figures v f ∙ mod-eq_of_lt h

-- w is 0 exactly where f is
pub none_zero : {v f w t : ℕ} → Parts v f w t → w ≡ 0 → f ≡ 0
none_zero {v} {f} {w} {t} p e =
    let h : t < 10 ^ 0 = subst (λ (x : ℕ). t < 10 ^ x) e p.t_lt in
    let z : t ≡ 0 = omega arith in
    sym p.whole ∙ ap (λ (x : ℕ). x * 10 ^ (v - w)) z ∙ (let q : 0 * 10 ^ (v - w) ≡ 0 = omega arith in q)

pub zero_none : {v f w t : ℕ} → Parts v f w t → f ≡ 0 → w ≡ 0
zero_none {v} {f} {w} {t} p e =
    ⊎_elim (λ h. omega arith)
    (λ h. absurd (p.odd (λ z. omega arith) (ap (λ (x : ℕ). x % 10) zero_t)))
    (split w 1)
  where
    zero_t : t ≡ 0
    zero_t = ⊎_elim (λ h. omega arith)
        (λ h. let g = mul-le-mul_right (10 ^ (v - w)) h in omega (arith, p.whole, power_pos (v - w)))
        (split t 1)

-- the parts are one pair only
not_less : {v f w t w' t' : ℕ} → Parts v f w t → Parts v f w' t' → w < w' → ⊥
not_less {v} {f} {w} {t} {w'} {t'} p q h = q.odd (λ z. omega arith) ends
  where
    same : t * 10 ^ suc (w' - w - 1) * 10 ^ (v - w') ≡ t' * 10 ^ (v - w')
    same =
        mul_assoc t (10 ^ suc (w' - w - 1)) (10 ^ (v - w'))
        ∙ ap (λ (x : ℕ). t * x) (sym (pow-add 10 (suc (w' - w - 1)) (v - w')))
        ∙ ap (λ (x : ℕ). t * 10 ^ x) (let g : suc (w' - w - 1) + (v - w') ≡ v - w = omega (arith, p.w_le, q.w_le) in g)
        ∙ p.whole ∙ sym q.whole

    ends : t' % 10 ≡ 0
    ends =
        ap (λ (x : ℕ). x % 10)
        (sym (eq_of_mul-eq-mul_right (10 ^ (v - w')) (power_pos (v - w')) (t * 10 ^ suc (w' - w - 1)) t' same)
        ∙ ap (λ (x : ℕ). t * x) (pow-suc 10 (w' - w - 1)) ∙ sym (mul_assoc t (10 ^ (w' - w - 1)) 10))
        ∙ mul-mod_left (t * 10 ^ (w' - w - 1)) 10

pub parts_w : {v f w t w' t' : ℕ} → Parts v f w t → Parts v f w' t' → w ≡ w'
parts_w {w = w} {w' = w'} p q = ⊎_elim (λ h. absurd (not_less p q h)) (λ h. ⊎_elim (λ k. absurd (not_less q p k)) (λ k. omega arith) (split w' w)) (split w w')

pub parts_t : {v f w t w' t' : ℕ} → Parts v f w t → Parts v f w' t' → t ≡ t'
parts_t {v} {f} {w} {t} {w'} {t'} p q =
    eq_of_mul-eq-mul_right (10 ^ (v - w)) (power_pos (v - w)) t t'
    (p.whole ∙ sym q.whole ∙ ap (λ (x : ℕ). t' * 10 ^ (v - x)) (sym (parts_w p q)))
