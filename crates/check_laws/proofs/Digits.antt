-- The least number whose v and f pass a test together and whose i passes one alone, in the order of v, then i, then f.
use mathlib.Core.Path.{◌≡◌, refl, sym, ap, ap₂, subst, ◌∙◌}
use mathlib.Core.Bool.{Bool, true, false}
use mathlib.Core.Logic.{◌⊎◌, ⊎_elim}
use Prim.Native.Nat.{ℕ, suc, ◌+◌, ◌*◌, ◌/◌, ◌%◌, ◌^◌, ◌≤◌, ◌<◌}
use native.Mathlib.Omega.{arith}
use native.Mathlib.Nat.{mul-le-mul_right, div-lt_iff_lt-mul, div-add-mod', mod-lt, lt_irrefl, lt_of_lt_of_le, le_of_lt}
use lib.Arith.{digits_lt, digits_div, digits_mod}
use lib.Dec.{ltb}
use borrow.Author.Tests.{ltb-true, ltb-false}
use Rattle.std.specs.Prelude.{if◌then◌else◌}
use Rattle.decimal.specs.Choice.{both}
use Rattle.decimal.proofs.Choices.{choice}
use Rattle.decimal.proofs.Values.{power_pos}
use Rattle.number.specs.Limits.{max_digits, max_places}
use Rattle.check_laws.specs.Seek.{Least}
use Rattle.check_laws.proofs.Seeking.{split, and_false_left, and_false_right, and_true, least_none}
use Rattle.check_laws.specs.Check.{block}
use Rattle.check_laws.specs.Fast.{fractions, placed}

-- the parts of a rank within an exponent
abbrev pub v_at : ℕ → ℕ
v_at k = k / 10 ^ max_places / 10 ^ max_digits

abbrev pub i_at : ℕ → ℕ
i_at k = k / 10 ^ max_places % 10 ^ max_digits

abbrev pub f_at : ℕ → ℕ
f_at k = k % 10 ^ max_places

-- v and f as one number
abbrev pub code_at : ℕ → ℕ
code_at k = v_at k * 10 ^ max_places + f_at k

unfoldable pub in_order : (ℕ → Bool) → (ℕ → Bool) → ℕ → Bool
in_order A I k = both (A (code_at k)) (I (i_at k))

-- A number of three digits v, i, f to the bases N and M is no less than another whose code v, f and whose i are no less.
lex : (M N v i f v' i' f' : ℕ) → f < M → f' < M → i' < N → v * M + f ≤ v' * M + f' → i ≤ i' → (v * N + i) * M + f ≤ (v' * N + i') * M + f'
lex M N v i f v' i' f' hf hf' hi h k = ⊎_elim first (λ g. ⊎_elim (λ l. absurd (back l)) (λ l. same (omega arith)) (split v' v)) (split v v')
  where
    back : v' < v → ⊥
    back l = let g : suc v' * M ≤ v * M = mul-le-mul_right M l in omega arith

    first : v < v' → (v * N + i) * M + f ≤ (v' * N + i') * M + f'
    first l =
        let g : suc v * N ≤ v' * N = mul-le-mul_right N l in
        let s : suc (v * N + i) ≤ v' * N + i' = omega arith in
        let m = mul-le-mul_right M s in
        omega arith

    same : v ≡ v' → (v * N + i) * M + f ≤ (v' * N + i') * M + f'
    same e =
        let g : v * M ≡ v' * M = ap (λ (x : ℕ). x * M) e in
        let s : v * N ≡ v' * N = ap (λ (x : ℕ). x * N) e in
        let m = mul-le-mul_right M (let z : v * N + i ≤ v' * N + i' = omega arith in z) in
        omega arith

-- the parts of a rank are below their bases, and make it up
pub v_lt : (k : ℕ) → k < block → v_at k < suc max_places
v_lt k h = (div-lt_iff_lt-mul (power_pos max_digits)).1 ((div-lt_iff_lt-mul (power_pos max_places)).1 h)

pub i_lt : (k : ℕ) → i_at k < 10 ^ max_digits
i_lt k = mod-lt (k / 10 ^ max_places) (power_pos max_digits)

pub f_lt : (k : ℕ) → f_at k < 10 ^ max_places
f_lt k = mod-lt k (power_pos max_places)

pub code_lt : (k : ℕ) → k < block → code_at k < fractions
code_lt k h = digits_lt (v_lt k h) (f_lt k)

whole : (k : ℕ) → (v_at k * 10 ^ max_digits + i_at k) * 10 ^ max_places + f_at k ≡ k
whole k = ap (λ (x : ℕ). x * 10 ^ max_places + f_at k) (div-add-mod' (k / 10 ^ max_places) (10 ^ max_digits)) ∙ div-add-mod' k (10 ^ max_places)

module _ (A I : ℕ → Bool) (q i : ℕ) (lq : Least A 0 fractions q) (li : Least I 0 (10 ^ max_digits) i) where
  module _ (hq : q < fractions) (hi : i < 10 ^ max_digits) where
    top : q / 10 ^ max_places < suc max_places
    top = (div-lt_iff_lt-mul (power_pos max_places)).1 hq

    end : q % 10 ^ max_places < 10 ^ max_places
    end = mod-lt q (power_pos max_places)

    placed_lt : placed q i < block
    placed_lt = digits_lt (digits_lt top hi) end

    lower : q / 10 ^ max_places * 10 ^ max_digits + i ≡ placed q i / 10 ^ max_places
    lower = sym (digits_div (q / 10 ^ max_places * 10 ^ max_digits + i) end)

    i_is : i_at (placed q i) ≡ i
    i_is = ap (λ (x : ℕ). x % 10 ^ max_digits) (sym lower) ∙ digits_mod (q / 10 ^ max_places) hi

    v_is : v_at (placed q i) ≡ q / 10 ^ max_places
    v_is = ap (λ (x : ℕ). x / 10 ^ max_digits) (sym lower) ∙ digits_div (q / 10 ^ max_places) hi

    f_is : f_at (placed q i) ≡ q % 10 ^ max_places
    f_is = digits_mod (q / 10 ^ max_places * 10 ^ max_digits + i) end

    code_is : code_at (placed q i) ≡ q
    code_is = ap₂ (λ (v f : ℕ). v * 10 ^ max_places + f) v_is f_is ∙ div-add-mod' q (10 ^ max_places)

    sooner : (j : ℕ) → j < placed q i → (code_at j < q) ⊎ (i_at j < i)
    sooner j h =
        ⊎_elim ◌⊎◌.inl
        (λ a. ⊎_elim ◌⊎◌.inr (λ b. absurd (no_less (lex (10 ^ max_places) (10 ^ max_digits) (q / 10 ^ max_places) i (q % 10 ^ max_places) (v_at j) (i_at j) (f_at j) end (f_lt j) (i_lt j)
        (subst (λ (x : ℕ). x ≤ code_at j) (sym (div-add-mod' q (10 ^ max_places))) a) b))) (split (i_at j) i))
        (split (code_at j) q)
      where
        no_less : placed q i ≤ (v_at j * 10 ^ max_digits + i_at j) * 10 ^ max_places + f_at j → ⊥
        no_less g = lt_irrefl _ (lt_of_lt_of_le h (subst (λ (x : ℕ). placed q i ≤ x) (whole j) g))

    found_at : Least (in_order A I) 0 block (placed q i)
    unfolding in_order
    found_at =
        record {
          low = (omega arith);
          high = le_of_lt placed_lt;
          none = λ j _ h. ⊎_elim (λ k. and_false_left (I (i_at j)) (lq.none (code_at j) (omega arith) k)) (λ k. and_false_right (A (code_at j)) (li.none (i_at j) (omega arith) k)) (sooner j h);
          hit = λ _. and_true (ap A code_is ∙ lq.hit hq) (ap I i_is ∙ li.hit hi);
        }

  none_at : (fractions ≤ q) ⊎ (10 ^ max_digits ≤ i) → (k : ℕ) → k < block → in_order A I k ≡ false
  unfolding in_order
  none_at h k b =
      ⊎_elim (λ z. and_false_left (I (i_at k)) (lq.none (code_at k) (omega arith) (lt_of_lt_of_le (code_lt k b) z)))
      (λ z. and_false_right (A (code_at k)) (li.none (i_at k) (omega arith) (lt_of_lt_of_le (i_lt k) z))) h

  pub order_least : Least (in_order A I) 0 block (elim (ltb q fractions) [ true ↦ if ltb i (10 ^ max_digits) then placed q i else block | false ↦ block ])
  order_least = go (ltb q fractions) refl
    where
      none : (fractions ≤ q) ⊎ (10 ^ max_digits ≤ i) → Least (in_order A I) 0 block block
      none h = least_none (in_order A I) 0 block (omega arith) (λ k _ b. none_at h k b)

      go : (b : Bool) → ltb q fractions ≡ b → Least (in_order A I) 0 block (elim b [ true ↦ if ltb i (10 ^ max_digits) then placed q i else block | false ↦ block ])
      go true e =
          choice (Least (in_order A I) 0 block) (ltb i (10 ^ max_digits)) (λ h. found_at (ltb-true _ _ e) (ltb-true _ _ h))
          (λ h. none (◌⊎◌.inr (ltb-false _ _ h)))
      go false e = none (◌⊎◌.inl (ltb-false _ _ e))
